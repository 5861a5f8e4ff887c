-- For each result of a right log something stands.
use Rattle.std.proofs.Common.{◌≡◌, ◌<◌, ℕ, zero, suc, List, [], ◌∷◌, ◌++◌, map, take, length, Option, Some, None, slice_get, option_map, option_and_then, Bool, true, false, ◌&&◌, if◌then◌else◌, refl, sym, ap, ◌∙◌, subst, append_assoc, append-nil, arith}
use Rattle.std.proofs.lemmas.Option.{slice_get-map}
use Rattle.sat_base.specs.declared.literal.Var.{Var}
use Rattle.sat_base.specs.declared.literal.SatLit.{SatLit}
use Rattle.sat_base.specs.Literal.{positive, negative, holds}
use Rattle.sat_log.specs.declared.chain.Premise.{Premise}
use Rattle.sat_log.specs.declared.chain.Premise.TheVariants.{Clause, Result}
use Rattle.sat_log.specs.declared.chain.ChainStep.{ChainStep}
use Rattle.sat_log.specs.declared.log.LogEntry.{LogEntry}
use Rattle.sat_log.specs.Resolution.{resolved}
use Rattle.sat_log.specs.Chains.{premise_clause, after_step, after_steps, results, IsLogOver}
use Rattle.rebuild_spec.specs.Input.{Sourced, start_unit, clause_by, Input, clause_in}
use Rattle.rebuild_spec.specs.Trees.{Place, at_clause, at_step, at_result, Tree}
use Rattle.rebuild_spec.specs.Stands.{Standing, start, line, instance_line, joined_standing, standing_after_step, premise_place, Stands, of_start, of_instance, of_first, of_next, of_result}
use Rattle.rebuild_spec.proofs.WalkLaws.{get-middle}

and_then_some : {A B : Type 0} (f : A → Option B) (o : Option A) (r : B) → option_and_then f o ≡ Some r → (x : A) × (o ≡ Some x) × (f x ≡ Some r)
and_then_some f None r h = cc
and_then_some f (Some x) r h = (x, refl, h)

pub map_some : {A B : Type 0} (f : A → B) (o : Option A) (r : B) → option_map f o ≡ Some r → (x : A) × (o ≡ Some x) × (f x ≡ r)
map_some f None r h = cc
map_some f (Some x) r h = let e : f x ≡ r = cc in (x, refl, e)

pub got_of-take : {A : Type 0} (n : ℕ) (xs : List A) (k : ℕ) (x : A) → slice_get (take n xs) k ≡ Some x → (k < n) × (slice_get xs k ≡ Some x)
got_of-take zero xs k x h = cc
got_of-take (suc n) [] k x h = cc
got_of-take (suc n) (y ∷ xs) zero x h = (omega arith, h)
got_of-take (suc n) (y ∷ xs) (suc k) x h = let rest = got_of-take n xs k x h in (omega (arith, rest.0), rest.1)

module _ (input : Input) where
  -- something stands for the clause at the place
  pub record HasStanding (p : Place) (c : List SatLit) : Type 0 where
    pub standing : Standing
    pub stands : Stands input p c standing

  clause_stands : (m : ℕ) (s : Sourced) → slice_get input.clauses m ≡ Some s → HasStanding (at_clause m) (clause_in s)
  clause_stands m (start_unit l) e = record { standing = start m l; stands = of_start m l e }
  clause_stands m (clause_by c i) e = record { standing = line (instance_line m c i); stands = of_instance m c i e }

  -- what stands for the premises of a chain
  premise_stands : (n : ℕ) → ((m : ℕ) (entry : LogEntry) → m < n → slice_get input.log m ≡ Some entry → HasStanding (at_result m) entry.result) → (p : Premise) (c : List SatLit) → premise_clause (map clause_in input.clauses) (results (take n input.log)) p ≡ Some c → HasStanding (premise_place p) c
  premise_stands n before (Clause m) c h =
      let found = map_some clause_in (slice_get input.clauses m) c (sym (slice_get-map clause_in input.clauses m) ∙ h) in
      subst (HasStanding (at_clause m)) found.2 (clause_stands m found.0 found.1)
  premise_stands n before (Result m) c h =
      let found = map_some (λ (e : LogEntry). e.result) (slice_get (take n input.log) m) c (sym (slice_get-map (λ (e : LogEntry). e.result) (take n input.log) m) ∙ h) in
      let there = got_of-take n input.log m found.0 found.1 in
      subst (HasStanding (at_result m)) found.2 (before m found.0 there.0 there.1)

  -- what stands after all steps of a chain, from what stands after the first ones
  steps_stand : (n : ℕ) (entry : LogEntry) → slice_get input.log n ≡ Some entry → ((p : Premise) (c : List SatLit) → premise_clause (map clause_in input.clauses) (results (take n input.log)) p ≡ Some c → HasStanding (premise_place p) c) → (rest done : List ChainStep) → entry.chain.steps ≡ done ++ rest → (a r : List SatLit) → HasStanding (at_step n (length done)) a → after_steps (map clause_in input.clauses) (results (take n input.log)) a rest ≡ Some r → HasStanding (at_step n (length entry.chain.steps)) r
  steps_stand n entry e premises [] done are a r h is =
      let same : a ≡ r = cc in
      let whole : entry.chain.steps ≡ done = are ∙ append-nil done in
      subst (HasStanding (at_step n (length entry.chain.steps))) same (subst (λ k. HasStanding (at_step n (length k)) a) (sym whole) h)
  steps_stand n entry e premises (step ∷ rest) done are a r h is =
      let next = and_then_some (λ c. after_steps (map clause_in input.clauses) (results (take n input.log)) c rest) (after_step (map clause_in input.clauses) (results (take n input.log)) a step) r is in
      let premise = and_then_some (resolved step.var a) (premise_clause (map clause_in input.clauses) (results (take n input.log)) step.premise) next.0 next.1 in
      let other = premises step.premise premise.0 premise.1 in
      let at : slice_get entry.chain.steps (length done) ≡ Some step = ap (λ k. slice_get k (length done)) are ∙ get-middle done rest step in
      let here : HasStanding (at_step n (suc (length done))) next.0 = record {
        standing = standing_after_step (at_step n (suc (length done))) step.var a h.standing premise.0 other.standing;
        stands = of_next n (length done) entry step a premise.0 next.0 h.standing other.standing e at h.stands other.stands premise.2;
      } in
      let longer : suc (length done) ≡ length (done ++ step ∷ []) = pushed done step in
      steps_stand n entry e premises rest (done ++ step ∷ []) (are ∙ sym (append_assoc done (step ∷ []) rest)) next.0 r (subst (λ k. HasStanding (at_step n k) next.0) longer here) next.2
    where
      pushed : (xs : List ChainStep) (x : ChainStep) → suc (length xs) ≡ length (xs ++ x ∷ [])
      pushed [] x = omega arith
      pushed (y ∷ xs) x = let rest = pushed xs x in omega (arith, rest)

  module _ (right : IsLogOver (map clause_in input.clauses) input.log) where
    results_below : (bound : ℕ) (n : ℕ) (entry : LogEntry) → n < bound → slice_get input.log n ≡ Some entry → HasStanding (at_result n) entry.result
    results_below zero n entry l e = absurd (omega (arith, l))
    results_below (suc bound) n entry l e =
        let premises = premise_stands n (λ m other below at. results_below bound m other (omega (arith, below, l)) at) in
        let clauses = map clause_in input.clauses in
        let first = and_then_some (λ c. after_steps clauses (results (take n input.log)) c entry.chain.steps) (premise_clause clauses (results (take n input.log)) entry.chain.first) entry.result (right n entry e) in
        let start = premises entry.chain.first first.0 first.1 in
        let begin : HasStanding (at_step n zero) first.0 = record { standing = start.standing; stands = of_first n entry first.0 start.standing e start.stands } in
        let end = steps_stand n entry e premises entry.chain.steps [] refl first.0 entry.result begin first.2 in
        record { standing = end.standing; stands = of_result n entry entry.result end.standing e end.stands }

    pub result_stands : (n : ℕ) (entry : LogEntry) → slice_get input.log n ≡ Some entry → HasStanding (at_result n) entry.result
    result_stands n entry e = results_below (suc n) n entry (omega arith) e

  joined_line : (p : Place) (v : Var) (s t : Standing) (n : ℕ) (l : SatLit) → joined_standing p v s t ≡ start n l → ⊥
  joined_line p v (start m k) (start j i) n l e = cc
  joined_line p v (start m k) (line t) n l e = cc
  joined_line p v (line t) (start m k) n l e = cc
  joined_line p v (line t) (line u) n l e = cc

  stepped_line : (p : Place) (v : Var) (a b : List SatLit) (s t : Standing) (n : ℕ) (l : SatLit) → standing_after_step p v a s b t ≡ start n l → ⊥
  stepped_line p v a b s t n l = go (holds a (positive v) && holds b (negative v))
    where
      go : (x : Bool) → (if x then joined_standing p v s t else joined_standing p v t s) ≡ start n l → ⊥
      go true e = joined_line p v s t n l e
      go false e = joined_line p v t s n l e

  -- a start unit stands for its own clause alone, so for the empty clause stands a line
  start_clause : (p : Place) (n : ℕ) (l : SatLit) (c : List SatLit) (s : Standing) → Stands input p c s → s ≡ start n l → c ≡ l ∷ []
  start_clause p n l c s (of_start m k e) j = let same : k ≡ l = cc in ap (λ x. x ∷ []) same
  start_clause p n l c s (of_instance m d i e) j = cc
  start_clause p n l c s (of_first m entry d t e g) j = start_clause (premise_place entry.chain.first) n l d t g j
  start_clause p n l c s (of_next m k entry step a b d x y e f g i r) j = absurd (stepped_line (at_step m (suc k)) step.var a b x y n l j)
  start_clause p n l c s (of_result m entry d t e g) j = start_clause (at_step m (length entry.chain.steps)) n l d t g j

  pub record HasLine (p : Place) : Type 0 where
    pub tree : Tree
    pub stands : Stands input p [] (line tree)

  pub empty_line : (p : Place) (h : HasStanding p []) → HasLine p
  empty_line p h = go h.standing h.stands
    where
      go : (s : Standing) → Stands input p [] s → HasLine p
      go (line t) stands = record { tree = t; stands = stands }
      go (start n l) stands = let e : [] ≡ l ∷ [] = start_clause p n l [] (start n l) stands refl in cc
