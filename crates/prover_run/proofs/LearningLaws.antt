-- What was learned, what it refutes, and where it is spent.
use Rattle.std.specs.Prelude.{◌≡◌, ◌≢◌, ◌≤◌, ◌<◌, ◌++◌, true, IsTrue, ℕ, get_or, List, [], ◌∷◌, map, length, Some, slice_get, Contains, refl}
use Rattle.std.proofs.Common.{sym, ap, subst, ◌∙◌, inl, inr, arith, append-nil}
use Rattle.std.proofs.lemmas.Bool.{false≢true, cases_lt}
use Rattle.std.proofs.lemmas.List.{map-append}
use Rattle.std.proofs.lemmas.List.Elements.{Contains-append_left, Contains-append_right, Contains-append_cases}
use Rattle.std.proofs.lemmas.Option.{same_Some, slice_get-get_or}
use Rattle.stt_core.specs.PlainProblem.{PlainProblem}
use Rattle.tableau_calculus.specs.Start.{start}
use Rattle.tableau_calculus.specs.declared.refutation.Refutation.{Refutation}
use Rattle.sat_base.specs.declared.literal.SatLit.{SatLit}
use Rattle.sat_base.specs.Literal.{holds}
use Rattle.sat_log.specs.Propagation.{ReachesFalse}
use Rattle.tableau_calculus.specs.Each.{Each}
use Rattle.search_spec.specs.Numbered.{IsNumber}
use Rattle.search_spec.specs.State.{State}
use Rattle.search_spec.specs.After.{state_after}
use Rattle.search_spec.specs.Unsatisfiable.{Clause, Unsatisfiable}
use Rattle.rebuild_spec.specs.Input.{literals_of}
use Rattle.rebuild_spec.proofs.LiteralLaws.{held_in, contains_held}
use Rattle.mode_file.specs.declared.Mode.{Mode}
use Rattle.prover_run.specs.Learning.{HasLearned, learned_clauses, AreSpent, PropagatesToFalse, AreRefutedWithin, IsLearnedAmong}
use Rattle.prover_run.specs.Ended.{setting_for, IsSpent, IsRefuted}
use Rattle.prover_run.proofs.ContainsLaws.{each-contains, each-from_contains, some-in}
use Rattle.prover_run.proofs.PropagatedLaws.{PropagatesToFalse-included, reaches-false, reaches-numbered}

module _ (clauses : List Clause) (learning : HasLearned clauses) where
  -- a learned clause holds a literal
  pub learned-filled : (clause : List SatLit) → Contains learning.learned clause → clause ≢ []
  learned-filled clause there empty =
      let turn = learning.in_turn in
      let k = there.0 in
      let at : slice_get learning.learned k ≡ Some clause = slice_get-get_or learning.learned k clause there.1 ∙ ap Some there.2 in
      let from = turn.each k (get_or turn.there k 0) clause (slice_get-get_or turn.there k 0 (omega (arith, there.1, turn.counted))) at in
      false≢true (subst (λ c. holds c from.new.literal ≡ true) empty from.new.member)

  learned-numbers : Each (Each (IsNumber learning.atoms)) learning.learned
  learned-numbers =
      each-from_contains (Each (IsNumber learning.atoms)) learning.learned
      (λ c there. each-from_contains (IsNumber learning.atoms) c
      (λ l held.
      let some = some-in (λ d. IsTrue (holds d l)) learning.numbered (learning.occurring c l there (held_in c l held)) in
      each-contains (IsNumber learning.atoms) some.0 l (each-contains (Each (IsNumber learning.atoms)) learning.numbered some.0 learning.numbers some.1) (contains_held some.0 l some.2)))

  all-numbers : Each (Each (IsNumber learning.atoms)) (learning.numbered ++ learning.learned)
  all-numbers =
      each-from_contains (Each (IsNumber learning.atoms)) (learning.numbered ++ learning.learned)
      (λ c there.
      elim (Contains-append_cases learning.numbered learning.learned c there) [
        | inl before ↦ each-contains (Each (IsNumber learning.atoms)) learning.numbered c learning.numbers before
        | inr later ↦ each-contains (Each (IsNumber learning.atoms)) learning.learned c learned-numbers later
      ])

  all-stand : map (literals_of learning.atoms) (learning.numbered ++ learning.learned) ≡ clauses ++ learned_clauses learning
  all-stand = map-append (literals_of learning.atoms) learning.numbered learning.learned ∙ ap (λ (cs : List Clause). cs ++ learned_clauses learning) learning.stand

  -- unit propagation over the numbered clauses, and over the clauses of formulas
  pub propagates-from_reaches : ReachesFalse (learning.numbered ++ learning.learned) [] → PropagatesToFalse (clauses ++ learned_clauses learning)
  propagates-from_reaches h = subst PropagatesToFalse all-stand (reaches-false learning.atoms (learning.numbered ++ learning.learned) h)

  pub reaches-from_propagates : (given : List SatLit) → PropagatesToFalse (clauses ++ learned_clauses learning) → ReachesFalse (learning.numbered ++ learning.learned) given
  reaches-from_propagates given h = reaches-numbered learning.atoms learning.apart (learning.numbered ++ learning.learned) all-numbers given (subst PropagatesToFalse (sym all-stand) h)

-- WITHOUT A CONFLICT

none-learned : (learned : List (List SatLit)) → length learned ≤ 0 → learned ≡ []
none-learned [] h = refl
none-learned (c ∷ learned) h = absurd (omega (arith, h))

-- without a conflict unit propagation over the clauses alone reaches a false clause
pub propagates-at_once : (clauses : List Clause) → AreRefutedWithin 0 clauses → PropagatesToFalse clauses
propagates-at_once clauses h =
    let none = none-learned h.learning.learned h.counted in
    subst PropagatesToFalse (ap (λ (ls : List (List SatLit)). clauses ++ map (literals_of h.learning.atoms) ls) none ∙ append-nil clauses) h.propagates

pub propagates-without_budget : (p : PlainProblem) (m : Mode) (n : ℕ) (refutation : Refutation) (refuted : IsRefuted p m n refutation) → m.conflicts ≡ 0 → PropagatesToFalse refuted.proved.state.clauses
propagates-without_budget p m n refutation refuted none = propagates-at_once refuted.proved.state.clauses (subst (λ c. AreRefutedWithin c refuted.proved.state.clauses) none refuted.within)

-- SPENT OR REFUTED

-- what was learned where the conflicts are spent doesn't refute the clauses
spent-open : (clauses : List Clause) (conflicts : ℕ) (spent : AreSpent clauses conflicts) → PropagatesToFalse (clauses ++ learned_clauses spent.learning) → ⊥
spent-open clauses conflicts spent h = spent.failing.consistent (reaches-from_propagates clauses spent.learning spent.failing.before h)

pub spent-unrefuted : (clauses others : List Clause) (conflicts budget : ℕ) (spent : AreSpent clauses conflicts) (refuted : AreRefutedWithin budget others) → others ≡ clauses → IsLearnedAmong refuted.learning spent.learning → ⊥
spent-unrefuted clauses others conflicts budget spent refuted same among =
    let few = learned_clauses refuted.learning in
    let many = learned_clauses spent.learning in
    spent-open clauses conflicts spent
    (PropagatesToFalse-included (others ++ few) (clauses ++ many)
    (λ c there.
    elim (Contains-append_cases others few c there) [
      | inl before ↦ Contains-append_left clauses many c (subst (λ (cs : List Clause). Contains cs c) same before)
      | inr later ↦ Contains-append_right clauses many c (among c later)
    ])
    refuted.propagates)

module _ (p : PlainProblem) (m : Mode) (n conflicts : ℕ) (refutation : Refutation) (spent : IsSpent (setting_for p m) (start p) conflicts) (refuted : IsRefuted p m n refutation) where
  -- a run that is proved goes on at least as long as one whose conflicts are spent
  pub spent-first : spent.commands ≤ n
  spent-first =
      elim (cases_lt n spent.commands) [
        | inl before ↦ (
            let goes_on = spent.until n before in
            let same : goes_on.state ≡ refuted.proved.state = same_Some goes_on.state refuted.proved.state (sym goes_on.open_state.comes_to ∙ refuted.proved.comes_to) in
            absurd (goes_on.open_state.satisfiable (subst (λ (s : State). Unsatisfiable s.clauses) (sym same) refuted.proved.unsatisfiable)))
        | inr later ↦ later
      ]

  -- and longer where it learned nothing else
  pub spent-before : IsLearnedAmong refuted.within.learning spent.spent.learning → spent.commands < n
  spent-before among =
      elim (cases_lt spent.commands n) [
        | inl before ↦ before
        | inr later ↦ (
            let one : n ≡ spent.commands = omega (arith, later, spent-first) in
            let same : refuted.proved.state ≡ spent.state = same_Some refuted.proved.state spent.state (sym refuted.proved.comes_to ∙ ap (state_after (setting_for p m) (start p)) one ∙ spent.comes_to) in
            absurd (spent-unrefuted spent.state.clauses refuted.proved.state.clauses conflicts m.conflicts spent.spent refuted.within (ap (λ (s : State). s.clauses) same) among))
      ]
