-- What stands for the parts of a chain.
use Rattle.std.proofs.Common.{◌≡◌, ◌<◌, ◌≤◌, ◌&&◌, if◌then◌else◌, ℕ, zero, suc, Bool, true, false, List, [], ◌∷◌, length, take, drop, Some, IsSome, option_map, slice_get, slice_index_or, refl, sym, ap, ◌∙◌, subst, arith}
use Rattle.std.proofs.lemmas.Option.{slice_get_within, slice_get-map, slice_get-get_or}
use Rattle.sat_base.specs.declared.literal.Var.{Var}
use Rattle.sat_base.specs.declared.literal.SatLit.{SatLit}
use Rattle.sat_base.specs.Literal.{positive, negative, holds}
use Rattle.sat_log.specs.declared.chain.Premise.{Premise}
use Rattle.sat_log.specs.declared.chain.Premise.TheVariants.{Clause, Result}
use Rattle.sat_log.specs.declared.chain.ChainStep.{ChainStep}
use Rattle.sat_log.specs.declared.chain.Chain.{Chain}
use Rattle.sat_log.specs.declared.log.LogEntry.{LogEntry}
use Rattle.sat_log.specs.Resolution.{each_once, HasNoRepeats, resolved}
use Rattle.sat_log.specs.Chains.{premise_clause, after_step, after_steps, results, IsLogOver}
use Rattle.sat_log.proofs.ResolutionLaws.{holds-without_repeats, without_repeats-without_repeats, resolved-without_repeats}
use Rattle.sat_log.proofs.ChainLaws.{and_then-Some, HasNoRepeats-resolved}
use Rattle.term_bank.specs.Content.{Content}
use Rattle.tableau_clauses.specs.Table.{Table, the_clauses}
use Rattle.rebuild_spec.specs.Trees.{at_step, at_result}
use Rattle.rebuild_spec.specs.Stands.{joined_standing, standing_after_step, premise_place, Stands, of_first, of_next, of_result}
use Rattle.rebuild_spec.proofs.ExistsLaws.{map_some, got_of-take}
use Rattle.tableau_rebuild.specs.Tables.{the_sources, the_input}
use Rattle.tableau_rebuild.specs.declared.draft.Draft.{Draft}
use Rattle.tableau_rebuild.specs.declared.arena.Standing.{Standing}
use Rattle.tableau_rebuild.specs.Internal.Arenas.{the_standing, IsStandingWithin, ExtendsDrafts, StandsFor, AreResults, IsJoined, IsThere, IsChained, HasStep}
use Rattle.tableau_rebuild.proofs.ArenaLaws.{standing_later}

pub got : {A : Type 0} (xs : List A) (n : ℕ) (x : A) → n < length xs → x ≡ slice_index_or xs n x → slice_get xs n ≡ Some x
got xs n x l e = slice_get-get_or xs n x l ∙ ap Some (sym e)

-- what a step makes, where the first clause has the variable or the second one
abbrev pub IsJoinedBy : Table → List Draft → List Draft → ℕ → ℕ → Var → Standing → Standing → Standing → Bool → Type 0
IsJoinedBy t ds new n k v s other r true = IsJoined t ds new (at_step n (suc k)) v s other r
IsJoinedBy t ds new n k v s other r false = IsJoined t ds new (at_step n (suc k)) v other s r

-- the entry of a result
result_entry : (log : List LogEntry) (n : ℕ) (c : List SatLit) → slice_get (results log) n ≡ Some c → (entry : LogEntry) × (slice_get log n ≡ Some entry) × (entry.result ≡ c)
result_entry log n c h = map_some (λ (e : LogEntry). e.result) (slice_get log n) c (sym (slice_get-map (λ (e : LogEntry). e.result) log n) ∙ h)

pub result_premise : (t : Table) (log : List LogEntry) (ds : List Draft) (standings : List Standing) (n : ℕ) (s : Standing) (c : List SatLit) → AreResults t log ds standings → n < length standings → s ≡ slice_index_or standings n s → slice_get (results log) n ≡ Some c → StandsFor t log ds (at_result n) c s
result_premise t log ds standings n s c known l e h =
    let found = result_entry log n c h in
    subst (λ k. StandsFor t log ds (at_result n) k s) found.2 (known n s found.0 (got standings n s l e) found.1)

module _ (t : Table) (log : List LogEntry) where
  pub premise_in : (n : ℕ) (p : Premise) (c : List SatLit) → premise_clause (the_clauses t) (results (take n log)) p ≡ Some c → IsThere (length (the_clauses t)) n p × (premise_clause (the_clauses t) (results log) p ≡ Some c)
  premise_in n (Clause m) c h = (slice_get_within (the_clauses t) m c h, h)
  premise_in n (Result m) c h =
      let found = result_entry (take n log) m c h in
      let there = got_of-take n log m found.0 found.1 in
      (there.0, slice_get-map (λ (e : LogEntry). e.result) log m ∙ ap (option_map (λ (e : LogEntry). e.result)) there.1 ∙ ap Some found.2)

  pub there_later : (m n : ℕ) (p : Premise) → m ≤ n → IsThere (length (the_clauses t)) m p → IsThere (length (the_clauses t)) n p
  there_later m n (Clause k) l h = h
  there_later m n (Result k) l h = omega (arith, l, h)

  drop-step : (steps : List ChainStep) (k : ℕ) (step : ChainStep) → slice_get steps k ≡ Some step → drop k steps ≡ step ∷ drop (suc k) steps
  drop-step [] k step h = cc
  drop-step (x ∷ steps) zero step h = let same : x ≡ step = cc in ap (λ y. y ∷ steps) same
  drop-step (x ∷ steps) (suc k) step h = drop-step steps k step h

  -- what is known of a step of a chain
  pub record StepFacts (n k : ℕ) (step : ChainStep) (clause : List SatLit) : Type 0 where
    pub premise : List SatLit
    pub there : IsThere (length (the_clauses t)) n step.premise
    pub is : premise_clause (the_clauses t) (results log) step.premise ≡ Some premise
    pub next : List SatLit
    pub resolves : resolved step.var clause premise ≡ Some next
    pub ahead : (entry : LogEntry) → slice_get log n ≡ Some entry → after_steps (the_clauses t) (results (take n log)) next (drop (suc k) entry.chain.steps) ≡ Some entry.result

  pub step_facts : (ds : List Draft) (n k : ℕ) (literals : List SatLit) (s : Standing) (step : ChainStep) (h : IsChained t log ds n k literals s) → HasStep log n k step → StepFacts n k step h.clause
  step_facts ds n k literals s step h has =
      let entry = has.entry in
      let clauses = the_clauses t in
      let outcomes = results (take n log) in
      let rest = drop (suc k) entry.chain.steps in
      let whole : after_steps clauses outcomes h.clause (step ∷ rest) ≡ Some entry.result = ap (after_steps clauses outcomes h.clause) (sym (drop-step entry.chain.steps k step has.is_step)) ∙ h.ahead entry has.is_entry in
      let next = and_then-Some (λ c. after_steps clauses outcomes c rest) (after_step clauses outcomes h.clause step) entry.result whole in
      let premise = and_then-Some (resolved step.var h.clause) (premise_clause clauses outcomes step.premise) next.0 next.1 in
      let there = premise_in n step.premise premise.0 premise.1 in
      record {
        premise = premise.0;
        there = there.0;
        is = there.1;
        next = next.0;
        resolves = premise.2;
        ahead = λ other at. same_entry entry other at has.is_entry next.0 next.2;
      }
    where
      same_entry : (entry other : LogEntry) → slice_get log n ≡ Some other → slice_get log n ≡ Some entry → (c : List SatLit) → after_steps (the_clauses t) (results (take n log)) c (drop (suc k) entry.chain.steps) ≡ Some entry.result → after_steps (the_clauses t) (results (take n log)) c (drop (suc k) other.chain.steps) ≡ Some other.result
      same_entry entry other at is c e =
          let same : entry ≡ other = cc in
          subst (λ (x : LogEntry). after_steps (the_clauses t) (results (take n log)) c (drop (suc k) x.chain.steps) ≡ Some x.result) same e

  pub no_repeats : (ds : List Draft) (n k : ℕ) (literals : List SatLit) (s : Standing) → IsChained t log ds n k literals s → HasNoRepeats literals
  no_repeats ds n k literals s h = subst HasNoRepeats (sym h.same) (without_repeats-without_repeats h.clause)

  pub resolves : (ds : List Draft) (n k : ℕ) (literals premise : List SatLit) (s : Standing) (step : ChainStep) → IsChained t log ds n k literals s → HasStep log n k step → premise_clause (the_clauses t) (results log) step.premise ≡ Some premise → IsSome (resolved step.var literals premise)
  resolves ds n k literals premise s step h has at =
      let facts = step_facts ds n k literals s step h has in
      let same : facts.premise ≡ premise = cc in
      let resolved_there = ap (λ x. resolved step.var x premise) h.same ∙ resolved-without_repeats step.var h.clause premise ∙ ap (resolved step.var h.clause) (sym same) ∙ facts.resolves in
      subst IsSome (sym resolved_there) refl

  -- a step more of a chain
  pub chained_more : (ds with_premise new : List Draft) (n k : ℕ) (literals premise made : List SatLit) (s other r : Standing) (step : ChainStep) → IsChained t log ds n k literals s → HasStep log n k step → ExtendsDrafts ds with_premise
      → premise_clause (the_clauses t) (results log) step.premise ≡ Some premise → StandsFor t log with_premise (premise_place step.premise) premise other → resolved step.var literals premise ≡ Some made
      → (is_first : Bool) → is_first ≡ (holds literals (positive step.var) && holds premise (negative step.var)) → IsJoinedBy t with_premise new n k step.var s other r is_first
      → IsChained t log new n (suc k) made r
  chained_more ds with_premise new n k literals premise made s other r step h has extends at stands is first side joins =
      let facts = step_facts ds n k literals s step h has in
      let same : facts.premise ≡ premise = cc in
      let whole : resolved step.var h.clause premise ≡ Some made = sym (ap (λ x. resolved step.var x premise) h.same ∙ resolved-without_repeats step.var h.clause premise) ∙ is in
      let next : Some facts.next ≡ Some made = sym facts.resolves ∙ ap (resolved step.var h.clause) same ∙ whole in
      let same_next : facts.next ≡ made = cc in
      record {
        clause = made;
        same = sym (HasNoRepeats-resolved step.var literals premise made is);
        stands = record { within = within first joins; stands = λ b atoms witnesses. one b atoms witnesses whole };
        ahead = λ entry there. subst (λ c. after_steps (the_clauses t) (results (take n log)) c (drop (suc k) entry.chain.steps) ≡ Some entry.result) same_next (facts.ahead entry there);
      }
    where
      within : (b : Bool) → IsJoinedBy t with_premise new n k step.var s other r b → IsStandingWithin t new r
      within true j = j.within
      within false j = j.within

      side_same : first ≡ (holds h.clause (positive step.var) && holds premise (negative step.var))
      side_same = side ∙ ap (λ x. holds x (positive step.var) && holds premise (negative step.var)) h.same ∙ ap (λ x. x && holds premise (negative step.var)) (holds-without_repeats h.clause (positive step.var))

      is_stepped : (b : Content) (atoms witnesses : List ℕ) → (x : Bool) → x ≡ (holds h.clause (positive step.var) && holds premise (negative step.var)) → IsJoinedBy t with_premise new n k step.var s other r x
          → the_standing (the_sources b.terms atoms t) new r ≡ standing_after_step (at_step n (suc k)) step.var h.clause (the_standing (the_sources b.terms atoms t) ds s) premise (the_standing (the_sources b.terms atoms t) with_premise other)
      is_stepped b atoms witnesses true e j =
          let before = the_standing (the_sources b.terms atoms t) ds s in
          let beside = the_standing (the_sources b.terms atoms t) with_premise other in
          j.is b.terms atoms ∙ ap (λ x. joined_standing (at_step n (suc k)) step.var x beside) (standing_later (the_sources b.terms atoms t) t ds with_premise s extends h.stands.within)
          ∙ ap (λ (x : Bool). if x then joined_standing (at_step n (suc k)) step.var before beside else joined_standing (at_step n (suc k)) step.var beside before) e
      is_stepped b atoms witnesses false e j =
          let before = the_standing (the_sources b.terms atoms t) ds s in
          let beside = the_standing (the_sources b.terms atoms t) with_premise other in
          j.is b.terms atoms ∙ ap (λ x. joined_standing (at_step n (suc k)) step.var beside x) (standing_later (the_sources b.terms atoms t) t ds with_premise s extends h.stands.within)
          ∙ ap (λ (x : Bool). if x then joined_standing (at_step n (suc k)) step.var before beside else joined_standing (at_step n (suc k)) step.var beside before) e

      one : (b : Content) (atoms witnesses : List ℕ) → resolved step.var h.clause premise ≡ Some made → Stands (the_input b atoms t log witnesses) (at_step n (suc k)) made (the_standing (the_sources b.terms atoms t) new r)
      one b atoms witnesses whole =
          subst (Stands (the_input b atoms t log witnesses) (at_step n (suc k)) made) (sym (is_stepped b atoms witnesses first side_same joins))
          (of_next n k has.entry step h.clause premise made (the_standing (the_sources b.terms atoms t) ds s) (the_standing (the_sources b.terms atoms t) with_premise other) has.is_entry has.is_step (h.stands.stands b atoms witnesses) (stands.stands b atoms witnesses) whole)

  module _ (right : IsLogOver (the_clauses t) log) where
    -- the first premise of a chain
    pub record FirstFacts (n : ℕ) (chain : Chain) : Type 0 where
      pub premise : List SatLit
      pub there : IsThere (length (the_clauses t)) n chain.first
      pub is : premise_clause (the_clauses t) (results log) chain.first ≡ Some premise
      pub ahead : (entry : LogEntry) → slice_get log n ≡ Some entry → after_steps (the_clauses t) (results (take n log)) premise entry.chain.steps ≡ Some entry.result

    pub chain_entry : (n : ℕ) (chain : Chain) → option_map (λ (e : LogEntry). e.chain) (slice_get log n) ≡ Some chain → (entry : LogEntry) × (slice_get log n ≡ Some entry) × (entry.chain ≡ chain)
    chain_entry n chain h = map_some (λ (e : LogEntry). e.chain) (slice_get log n) chain h

    pub first_facts : (n : ℕ) (chain : Chain) → option_map (λ (e : LogEntry). e.chain) (slice_get log n) ≡ Some chain → FirstFacts n chain
    first_facts n chain h =
        let found = chain_entry n chain h in
        let entry = found.0 in
        let clauses = the_clauses t in
        let outcomes = results (take n log) in
        let first = and_then-Some (λ c. after_steps clauses outcomes c entry.chain.steps) (premise_clause clauses outcomes entry.chain.first) entry.result (right n entry found.1) in
        let there = premise_in n entry.chain.first first.0 first.1 in
        subst (FirstFacts n) found.2
        (record { premise = first.0; there = there.0; is = there.1; ahead = λ other at. same_entry entry other at found.1 first.0 first.2 })
      where
        same_entry : (entry other : LogEntry) → slice_get log n ≡ Some other → slice_get log n ≡ Some entry → (c : List SatLit) → after_steps (the_clauses t) (results (take n log)) c entry.chain.steps ≡ Some entry.result → after_steps (the_clauses t) (results (take n log)) c other.chain.steps ≡ Some other.result
        same_entry entry other at is c e =
            let same : entry ≡ other = cc in
            subst (λ (x : LogEntry). after_steps (the_clauses t) (results (take n log)) c x.chain.steps ≡ Some x.result) same e

    -- a chain that begins
    pub chained_first : (ds : List Draft) (n : ℕ) (chain : Chain) (premise literals : List SatLit) (s : Standing) → option_map (λ (e : LogEntry). e.chain) (slice_get log n) ≡ Some chain → premise_clause (the_clauses t) (results log) chain.first ≡ Some premise → literals ≡ each_once premise → StandsFor t log ds (premise_place chain.first) premise s → IsChained t log ds n zero literals s
    chained_first ds n chain premise literals s h is made stands =
        let found = chain_entry n chain h in
        let facts = first_facts n chain h in
        let same : facts.premise ≡ premise = cc in
        record {
          clause = premise;
          same = made;
          stands = record {
            within = stands.within;
            stands = λ b atoms witnesses.
                of_first n found.0 premise (the_standing (the_sources b.terms atoms t) ds s) found.1
                (subst (λ (x : Chain). Stands (the_input b atoms t log witnesses) (premise_place x.first) premise (the_standing (the_sources b.terms atoms t) ds s)) (sym found.2) (stands.stands b atoms witnesses));
          };
          ahead = λ entry at. subst (λ c. after_steps (the_clauses t) (results (take n log)) c entry.chain.steps ≡ Some entry.result) same (facts.ahead entry at);
        }

    -- a chain that ends
    pub chained_last : (ds : List Draft) (n k : ℕ) (literals : List SatLit) (s : Standing) → IsChained t log ds n k literals s → (entry : LogEntry) → slice_get log n ≡ Some entry → k ≡ length entry.chain.steps → StandsFor t log ds (at_result n) entry.result s
    chained_last ds n k literals s h entry at count =
        let all : drop k entry.chain.steps ≡ [] = ap (λ j. drop j entry.chain.steps) count ∙ drop_all entry.chain.steps in
        let ends : Some h.clause ≡ Some entry.result = ap (after_steps (the_clauses t) (results (take n log)) h.clause) (sym all) ∙ h.ahead entry at in
        let same : h.clause ≡ entry.result = cc in
        subst (λ c. StandsFor t log ds (at_result n) c s) same
        (record {
          within = h.stands.within;
          stands = λ b atoms witnesses.
              of_result n entry h.clause (the_standing (the_sources b.terms atoms t) ds s) at
              (subst (λ j. Stands (the_input b atoms t log witnesses) (at_step n j) h.clause (the_standing (the_sources b.terms atoms t) ds s)) count (h.stands.stands b atoms witnesses));
        })
      where
        drop_all : (xs : List ChainStep) → drop (length xs) xs ≡ []
        drop_all [] = refl
        drop_all (x ∷ xs) = drop_all xs
