-- What resolution makes is implied: it is true wherever the clauses are.
use Rattle.std.proofs.Common.{◌≡◌, inl, inr, ◌≤◌, ◌+◌, ℕ, zero, suc, Bool, true, false, List, [], ◌∷◌, ◌++◌, Some, IsTrue, length, take, sym, ap, ◌∙◌, subst, arith}
use Rattle.std.specs.List.{slice_get, All}
use Rattle.std.proofs.lemmas.Bool.{false≢true, and_from, or_left, or_right, cases_Bool, false_from_ne_true, not_from_true, not_from_false}
use Rattle.std.proofs.lemmas.List.{take_more, take_all, map-append}
use Rattle.std.proofs.lemmas.List.Elements.{All-nil, All-push}
use Rattle.std.proofs.lemmas.Option.{slice_get_within, slice_get_cases, get_or_from_slice_get}
use Rattle.sat_base.specs.declared.literal.Var.{Var}
use Rattle.sat_base.specs.declared.literal.SatLit.{SatLit}
use Rattle.sat_base.specs.Literal.{positive, negative, same_literal, holds}
use Rattle.sat_base.specs.Truth.{literal_value, clause_value, AllTrue, only, Implies}
use Rattle.sat_base.proofs.LiteralLaws.{same_literal-true, holds-append}
use Rattle.sat_base.proofs.TruthLaws.{clause_value-within}
use Rattle.sat_log.specs.declared.chain.Premise.{Premise}
use Rattle.sat_log.specs.declared.chain.Premise.TheVariants.{Clause, Result}
use Rattle.sat_log.specs.declared.chain.ChainStep.{ChainStep}
use Rattle.sat_log.specs.declared.chain.Chain.{Chain}
use Rattle.sat_log.specs.declared.log.LogEntry.{LogEntry}
use Rattle.sat_log.specs.Resolution.{without_literal, resolvent, resolved}
use Rattle.sat_log.specs.Chains.{premise_clause, after_step, after_steps, chain_result, results, IsLogOver}
use Rattle.sat_log.proofs.ResolutionLaws.{holds-without, holds-without_repeats}
use Rattle.sat_log.proofs.ChainLaws.{Some-same, resolved_cases, and_then-Some}

-- a true literal is another than a false one
true_other : (value : Var → Bool) (l m : SatLit) → literal_value value l ≡ false → literal_value value m ≡ true → same_literal l m ≡ false
true_other value l m l_false m_true =
    false_from_ne_true (same_literal l m) (λ e. false≢true (sym l_false ∙ ap (literal_value value) (same_literal-true l m e) ∙ m_true))

-- where the variable is false, the first clause is true by a literal that stays
resolvent_by_first : (value : Var → Bool) (v : Var) (a b : List SatLit) → value v ≡ false → clause_value value a ≡ true → clause_value value (resolvent v a b) ≡ true
resolvent_by_first value v a b v_false =
    clause_value-within value a (resolvent v a b) (λ l h t.
    holds-without_repeats (without_literal (positive v) a ++ without_literal (negative v) b) l
    ∙ holds-append (without_literal (positive v) a) (without_literal (negative v) b) l
    ∙ or_left _ _ (holds-without (positive v) a l
    ∙ and_from _ _ h (not_from_false _ (true_other value (positive v) l v_false t))))

-- where the variable is true, so is the second one
resolvent_by_second : (value : Var → Bool) (v : Var) (a b : List SatLit) → value v ≡ true → clause_value value b ≡ true → clause_value value (resolvent v a b) ≡ true
resolvent_by_second value v a b v_true =
    clause_value-within value b (resolvent v a b) (λ l h t.
    holds-without_repeats (without_literal (positive v) a ++ without_literal (negative v) b) l
    ∙ holds-append (without_literal (positive v) a) (without_literal (negative v) b) l
    ∙ or_right (holds (without_literal (positive v) a) l) _ (holds-without (negative v) b l
    ∙ and_from _ _ h (not_from_false _ (true_other value (negative v) l (not_from_true _ v_true) t))))

pub resolvent_true : (value : Var → Bool) (v : Var) (a b : List SatLit) → clause_value value a ≡ true → clause_value value b ≡ true → clause_value value (resolvent v a b) ≡ true
resolvent_true value v a b a_true b_true =
    elim (cases_Bool (value v)) [
      | inl v_true ↦ resolvent_by_second value v a b v_true b_true
      | inr v_false ↦ resolvent_by_first value v a b v_false a_true
    ]

pub resolved_true : (value : Var → Bool) (v : Var) (a b outcome : List SatLit) → clause_value value a ≡ true → clause_value value b ≡ true → resolved v a b ≡ Some outcome
    → clause_value value outcome ≡ true
resolved_true value v a b outcome a_true b_true e =
    elim (resolved_cases v a b outcome e) [
      | inl own ↦ ap (clause_value value) own.2 ∙ resolvent_true value v a b a_true b_true
      | inr other ↦ ap (clause_value value) other.2 ∙ resolvent_true value v b a b_true a_true
    ]

-- an element of a list of true clauses is true
true_at : (value : Var → Bool) (clauses : List (List SatLit)) (n : ℕ) (clause : List SatLit) → AllTrue value clauses → slice_get clauses n ≡ Some clause → clause_value value clause ≡ true
true_at value clauses n clause all at =
    ap (clause_value value) (sym (get_or_from_slice_get clauses n clause clause at)) ∙ all n clause (slice_get_within clauses n clause at)

premise_true : (value : Var → Bool) (clauses outcomes : List (List SatLit)) (premise : Premise) (clause : List SatLit) → AllTrue value clauses → AllTrue value outcomes
    → premise_clause clauses outcomes premise ≡ Some clause → clause_value value clause ≡ true
premise_true value clauses outcomes (Clause n) clause all each at = true_at value clauses n clause all at
premise_true value clauses outcomes (Result n) clause all each at = true_at value outcomes n clause each at

after_steps_true : (value : Var → Bool) (clauses outcomes : List (List SatLit)) (clause : List SatLit) (steps : List ChainStep) (outcome : List SatLit) → AllTrue value clauses
    → AllTrue value outcomes → clause_value value clause ≡ true → after_steps clauses outcomes clause steps ≡ Some outcome → clause_value value outcome ≡ true
after_steps_true value clauses outcomes clause [] outcome all each t e = ap (clause_value value) (sym (Some-same clause outcome e)) ∙ t
after_steps_true value clauses outcomes clause (step ∷ steps) outcome all each t e =
    let next = and_then-Some (λ c. after_steps clauses outcomes c steps) (after_step clauses outcomes clause step) outcome e in
    let premise = and_then-Some (resolved step.var clause) (premise_clause clauses outcomes step.premise) next.0 next.1 in
    after_steps_true value clauses outcomes next.0 steps outcome all each
    (resolved_true value step.var clause premise.0 next.0 t (premise_true value clauses outcomes step.premise premise.0 all each premise.1) premise.2)
    next.2

chain_true : (value : Var → Bool) (clauses outcomes : List (List SatLit)) (chain : Chain) (outcome : List SatLit) → AllTrue value clauses → AllTrue value outcomes
    → chain_result clauses outcomes chain ≡ Some outcome → clause_value value outcome ≡ true
chain_true value clauses outcomes chain outcome all each e =
    let first = and_then-Some (λ c. after_steps clauses outcomes c chain.steps) (premise_clause clauses outcomes chain.first) outcome e in
    after_steps_true value clauses outcomes first.0 chain.steps outcome all each (premise_true value clauses outcomes chain.first first.0 all each first.1) first.2

-- the first n results of a right log are true wherever the clauses are
first_results_true : (value : Var → Bool) (clauses : List (List SatLit)) (log : List LogEntry) → IsLogOver clauses log → AllTrue value clauses → (n : ℕ) → n ≤ length log → AllTrue value (results (take n log))
first_results_true value clauses log right all zero h = All-nil (λ c. IsTrue (clause_value value c))
first_results_true value clauses log right all (suc n) h =
    elim (slice_get_cases log n).1 [
      | inl found ↦
          let entry = found.0 in
          let earlier = first_results_true value clauses log right all n (omega arith) in
          let place : suc n ≡ n + 1 = omega arith in
          let longer : results (take (suc n) log) ≡ results (take n log) ++ entry.result ∷ [] =
          ap (λ (k : ℕ). results (take k log)) place
          ∙ ap results (take_more log n entry found.1 ∙ ap (λ (e : LogEntry). take n log ++ e ∷ []) found.3)
          ∙ map-append (λ (e : LogEntry). e.result) (take n log) (entry ∷ []) in
          rw longer (All-push (λ c. IsTrue (clause_value value c)) (results (take n log)) entry.result earlier
          (chain_true value clauses (results (take n log)) entry.chain entry.result all earlier (right n entry found.2)))
      | inr past ↦ absurd (omega arith)
    ]

pub results_true : (value : Var → Bool) (clauses : List (List SatLit)) (log : List LogEntry) → IsLogOver clauses log → AllTrue value clauses → AllTrue value (results log)
results_true value clauses log right all =
    subst (λ (entries : List LogEntry). AllTrue value (results entries)) (take_all (length log) log (omega arith)) (first_results_true value clauses log right all (length log) (omega arith))

-- the clauses imply each result
pub results_implied : (clauses : List (List SatLit)) (log : List LogEntry) → IsLogOver clauses log → All (Implies clauses) (results log)
results_implied clauses log right = λ n d h atoms all. results_true (only atoms) clauses log right all n d h
