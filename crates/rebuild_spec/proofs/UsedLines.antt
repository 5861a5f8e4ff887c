-- Every clause of an instance that is used has its line.
use Rattle.std.proofs.Common.{◌≡◌, ◌<◌, ◌+◌, ◌&&◌, if◌then◌else◌, ℕ, zero, suc, nat_eq, Bool, true, false, List, [], ◌∷◌, length, Some, slice_get, Contains, refl, sym, ap, ◌∙◌, subst, arith}
use Rattle.std.proofs.lemmas.Bool.{false≢true, eqb-true, eq-eqb}
use Rattle.std.proofs.lemmas.Option.{slice_get_within}
use Rattle.tableau_calculus.proofs.ListLaws.{contains_cases}
use Rattle.sat_base.specs.declared.literal.Var.{Var}
use Rattle.sat_base.specs.declared.literal.SatLit.{SatLit}
use Rattle.sat_base.specs.Literal.{positive, negative, holds}
use Rattle.sat_log.specs.declared.chain.ChainStep.{ChainStep}
use Rattle.sat_log.specs.declared.log.LogEntry.{LogEntry}
use Rattle.rebuild_spec.specs.Input.{Instance, clause_by, Input}
use Rattle.rebuild_spec.specs.Trees.{Place, at_clause, at_step, at_result, Tree}
use Rattle.rebuild_spec.specs.Stands.{Standing, start, line, instance_line, joined_standing, standing_after_step, premise_place, Stands, of_start, of_instance, of_first, of_next, of_result}
use Rattle.rebuild_spec.specs.Used.{IsUsed, last_result, first_of, step_of}
use Rattle.rebuild_spec.proofs.WalkLaws.{IsEach}
use Rattle.rebuild_spec.proofs.StandsLaws.{one_stands}

index_of : {A : Type 0} (xs : List A) (x : A) → Contains xs x → (j : ℕ) × (slice_get xs j ≡ Some x)
index_of [] x h = absurd (omega (arith, h.1))
index_of (y ∷ xs) x h = contains_cases ((j : ℕ) × (slice_get (y ∷ xs) j ≡ Some x)) x y xs h (λ same. (zero, ap Some same)) (λ later. let r = index_of xs x later in (suc r.0, r.1))

module _ (input : Input) (P : Tree → Type 0) where
  abbrev AreAllIn : Standing → Type 0
  AreAllIn (start n l) = Unit {0}
  AreAllIn (line t) = IsEach P t

  -- something stands at the place, of whose lines the property holds
  pub record IsIn (p : Place) : Type 0 where
    pub clause : List SatLit
    pub standing : Standing
    pub stands : Stands input p clause standing
    pub all : AreAllIn standing

  joined_in : (p : Place) (v : Var) (s t : Standing) → AreAllIn (joined_standing p v s t) → AreAllIn s × AreAllIn t
  joined_in p v (start m l) (start n k) h = (tt, tt)
  joined_in p v (start m l) (line t) h = (tt, h)
  joined_in p v (line t) (start n k) h = (h, tt)
  joined_in p v (line t) (line u) h = (h.2, h.1)

  stepped_in : (p : Place) (v : Var) (a b : List SatLit) (s t : Standing) → AreAllIn (standing_after_step p v a s b t) → AreAllIn s × AreAllIn t
  stepped_in p v a b s t h = go (holds a (positive v) && holds b (negative v)) h
    where
      go : (x : Bool) → AreAllIn (if x then joined_standing p v s t else joined_standing p v t s) → AreAllIn s × AreAllIn t
      go true h = joined_in p v s t h
      go false h = let r = joined_in p v t s h in (r.1, r.0)

  -- what stands for the premises of the first steps of a chain
  pub record ArePremisesIn (entry : LogEntry) (k : ℕ) : Type 0 where
    pub first : IsIn (premise_place entry.chain.first)
    pub others : (j : ℕ) (step : ChainStep) → j < k → slice_get entry.chain.steps j ≡ Some step → IsIn (premise_place step.premise)

  chain_in : (p : Place) (c : List SatLit) (s : Standing) → Stands input p c s → AreAllIn s → (n k : ℕ) (entry : LogEntry) → p ≡ at_step n k → slice_get input.log n ≡ Some entry → ArePremisesIn entry k
  chain_in p c s (of_start m l e) all n k entry place at = cc
  chain_in p c s (of_instance m d i e) all n k entry place at = cc
  chain_in p c s (of_result m other d t e h) all n k entry place at = cc
  chain_in p c s (of_first m other d t e h) all n k entry place at =
      let number : m ≡ n = cc in
      let none : zero ≡ k = cc in
      let same : other ≡ entry = cc in
      record {
        first = subst (λ x. IsIn (premise_place x.chain.first)) same (record { clause = d; standing = t; stands = h; all = all });
        others = λ j step l f. absurd (omega (arith, none, l));
      }
  chain_in p c s (of_next m q other step a b d x y e f h g r) all n k entry place at =
      let number : m ≡ n = cc in
      let last : suc q ≡ k = cc in
      let same : other ≡ entry = cc in
      let parts = stepped_in (at_step m (suc q)) step.var a b x y all in
      let rest = chain_in (at_step m q) a x h parts.0 n q entry (ap (λ z. at_step z q) number) at in
      let premise : IsIn (premise_place step.premise) = record { clause = b; standing = y; stands = g; all = parts.1 } in
      record {
        first = rest.first;
        others = λ j also l is. go j also (nat_eq j q) refl (omega (arith, l, last)) is rest (ap (λ z. slice_get z.chain.steps q) (sym same) ∙ f) premise;
      }
    where
      go : (j : ℕ) (also : ChainStep) (b : Bool) → nat_eq j q ≡ b → j < suc q → slice_get entry.chain.steps j ≡ Some also → ArePremisesIn entry q → slice_get entry.chain.steps q ≡ Some step → IsIn (premise_place step.premise) → IsIn (premise_place also.premise)
      go j also true e l is rest here premise =
          let number : j ≡ q = eqb-true j q e in
          let same : step ≡ also = cc in
          subst (λ z. IsIn (premise_place z.premise)) same premise
      go j also false e l is rest here premise =
          let other = λ (same : j ≡ q). false≢true (sym e ∙ eq-eqb j q same) in
          rest.others j also (omega (arith, l, other)) is

  result_steps : (p : Place) (c : List SatLit) (s : Standing) → Stands input p c s → (n : ℕ) (entry : LogEntry) → p ≡ at_result n → slice_get input.log n ≡ Some entry → Stands input (at_step n (length entry.chain.steps)) c s
  result_steps p c s (of_start m l e) n entry place at = cc
  result_steps p c s (of_instance m d i e) n entry place at = cc
  result_steps p c s (of_first m other d t e h) n entry place at = cc
  result_steps p c s (of_next m q other step a b d x y e f h g r) n entry place at = cc
  result_steps p c s (of_result m other d t e h) n entry place at =
      let number : m ≡ n = cc in
      let same : other ≡ entry = cc in
      subst (λ z. Stands input (at_step z (length entry.chain.steps)) d t) number (subst (λ z. Stands input (at_step m (length z.chain.steps)) d t) same h)

  module _ (number : ℕ) (is_last : length input.log ≡ number + 1) (whole : IsIn (at_result number)) where
    premises_in : (n : ℕ) (entry : LogEntry) → slice_get input.log n ≡ Some entry → IsIn (at_result n) → ArePremisesIn entry (length entry.chain.steps)
    premises_in n entry e h =
        chain_in (at_step n (length entry.chain.steps)) h.clause h.standing (result_steps (at_result n) h.clause h.standing h.stands n entry refl e) h.all n (length entry.chain.steps) entry refl e

    pub used_in : (p : Place) → IsUsed input.log p → IsIn p
    used_in p (last_result n e) = let same : number ≡ n = omega (arith, is_last, e) in subst (λ z. IsIn (at_result z)) same whole
    used_in p (first_of n entry e u) = (premises_in n entry e (used_in (at_result n) u)).first
    used_in p (step_of n entry step e u there) =
        let index = index_of entry.chain.steps step there in
        (premises_in n entry e (used_in (at_result n) u)).others index.0 step (slice_get_within entry.chain.steps index.0 step index.1) index.1

    -- of the line of a used clause the property holds
    pub used_line : (n : ℕ) (c : List SatLit) (i : Instance) → IsUsed input.log (at_clause n) → slice_get input.clauses n ≡ Some (clause_by c i) → P (instance_line n c i)
    used_line n c i u e =
        let h = used_in (at_clause n) u in
        let both = one_stands input (at_clause n) h.clause c h.standing (line (instance_line n c i)) h.stands (of_instance n c i e) in
        subst AreAllIn both.1 h.all
