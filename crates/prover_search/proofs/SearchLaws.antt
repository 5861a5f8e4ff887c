-- A search at its start.
use Rattle.std.specs.Prelude.{◌≡◌, ◌≤◌, [], map, length}
use Rattle.std.proofs.Common.{sym, subst}
use Rattle.stt_core.specs.Typing.{Scope, IsScope}
use Rattle.stt_core.specs.Declarations.{scope_of}
use Rattle.stt_core.specs.PlainProblem.{PlainProblem}
use Rattle.stt_core.specs.TypedProblem.{IsTyped}
use Rattle.tableau_calculus.specs.Literals.{IsBranch}
use Rattle.tableau_calculus.specs.Start.{start}
use Rattle.tableau_calculus.proofs.StartMeets.{start_typed}
use Rattle.refute_print.specs.Sizes.{nesting}
use Rattle.tableau_calculus.specs.Each.{Each}
use Rattle.type_bound.specs.Modest.{IsModestProblem}
use Rattle.term_bank.specs.Content.{Content}
use Rattle.prover_state.specs.Internal.Standing.{without_witnesses}

module _ (p : PlainProblem) (typed : IsTyped p) (b : Content) (bases : b.bases ≡ p.declared.bases) (consts : b.consts ≡ p.declared.consts) where
  pub scope-same : without_witnesses b ≡ scope_of p.declared
  scope-same = λ i. record { bases = length (bases i); names = map (λ c. c.type) (consts i); witnesses = [] }

  pub scope-declared : IsScope (without_witnesses b)
  scope-declared = subst IsScope (sym scope-same) typed.scope

  pub start-declared : IsBranch (without_witnesses b) (start p)
  start-declared =
      let S : Scope → Type 0 = λ x. IsBranch x (start p) in
      subst S (sym scope-same) (start_typed p typed)

  pub names-modest : IsModestProblem 1024 p → Each (λ a. nesting a ≤ 1024) (without_witnesses b).names
  names-modest modest = subst (λ (x : Scope). Each (λ a. nesting a ≤ 1024) x.names) (sym scope-same) modest.names
