use Rattle.std.proofs.Common.{sym, ap, subst, subst₂}
use Rattle.std.specs.Prelude.{ℕ, List, length}
use Rattle.stt_core.specs.Typing.{Scope}
use Rattle.tableau_calculus.specs.Literals.{Literal}
use Rattle.search_spec.specs.State.{State, Setting}
use Rattle.search_spec.specs.Result.{IsExhausted, IsStopped}
use Rattle.sat_core.specs.Solver.{learned}
use Rattle.prover_state.specs.Internal.Standing.{setting_by, rows_in, the_state}
use Rattle.prover_search.specs.Internal.Running.{start_in}
use Rattle.prover_search.specs.Internal.Answers.{AnswersStep}
use Rattle.prover_search.specs.declared.stepped.Stepped.{Stepped}
use Rattle.rebuild_spec.specs.Input.{Input}
use Rattle.prover_run.specs.RunTables.{clauses_of}
use Rattle.prover_run.specs.Tree.{IsTreeAsked}
use Rattle.prover_run.specs.Internal.Ends.{RefutesWithTree, EndsFrom}
use Rattle.prover_run.specs.declared.ended.Ended.TheVariants.{Proved}
use Rattle.prover_run.proofs.RunLaws.{is-proved, is-exhausted, is-stopped, is-spent}
use Rattle.prover_run.proofs.running.next.Goals as goal

pub returns-in_ok-tree-in-Closed-clause-ended : goal.returns-in_ok-tree-in-Closed-clause-ended
returns-in_ok-tree-in-Closed-clause-ended g c = λ until.
    let t = c.args.search.now.core.tables in
    let q = c.args.search.now.core.plan in
    let u = c.step.new.self.core.tables in
    let p = c.step.new.self.core.plan in
    let refutation = c.in_ok-refutation-in-Closed.refutation in
    let nodes = c.args.nodes in
    let tree = c.in_ok-tree-in-Closed.tree in
    let n = length (learned u.solver) in
    let A : Stepped → Type 0 = λ s. AnswersStep (record { tables = t; plan = q }) (record { tables = u; plan = p }) s in
    let P : ℕ → Type 0 = λ k. EndsFrom (setting_by t q) (start_in t) nodes (Proved k refutation tree) in
    let I : Input → Type 0 = λ x. IsTreeAsked (setting_by u p).scope (start_in u) (start_in u) x nodes tree in
    let R : Scope → List Literal → Type 0 = λ scope ls. RefutesWithTree scope ls (the_state t q).rows (the_state t q).clauses n refutation nodes tree in
    let F : State → Type 0 = λ s. RefutesWithTree (setting_by u p).scope (start_in u) s.rows s.clauses n refutation nodes tree in
    let closed = subst A c.in-Closed.is c.in_ok-step.ensures.answers in
    let under_way = c.in_ok-step.ensures.under_way c.in_ok-step.ensures.ready in
    let by_tables = c.in_ok-refutation-in-Closed.ensures in
    let here : RefutesWithTree (setting_by u p).scope (start_in u) (rows_in u.basis) (clauses_of u) n refutation nodes tree =
    record { refutes = by_tables.refutes; tree = subst I (sym by_tables.input) c.in_ok-tree-in-Closed.ensures } in
    let over = subst F closed.stays.state here in
    let whole = subst₂ R (ap (λ (s : Setting). s.scope) c.in_ok-step.ensures.setting) c.in_ok-step.ensures.start over in
    subst P (sym c.commands.ensures) (is-proved t q c.requires.under_way.running u p refutation nodes tree closed under_way.running.right c.in_ok-step.ensures.setting whole until)

pub returns-in-Empty-clause-ended : goal.returns-in-Empty-clause-ended
returns-in-Empty-clause-ended g c = λ until.
    let t = c.args.search.now.core.tables in
    let q = c.args.search.now.core.plan in
    let u = c.step.new.self.core.tables in
    let p = c.step.new.self.core.plan in
    let A : Stepped → Type 0 = λ s. AnswersStep (record { tables = t; plan = q }) (record { tables = u; plan = p }) s in
    let P : ℕ → Type 0 = λ n. IsExhausted (setting_by t q) (start_in t) n in
    subst P (sym c.commands-in-Empty.ensures) (is-exhausted t q c.requires.under_way.running u p (subst A c.in-Empty.is c.in_ok-step.ensures.answers) until)

pub returns-in-Limit-clause-ended : goal.returns-in-Limit-clause-ended
returns-in-Limit-clause-ended g c = λ until.
    let t = c.args.search.now.core.tables in
    let q = c.args.search.now.core.plan in
    let u = c.step.new.self.core.tables in
    let p = c.step.new.self.core.plan in
    let A : Stepped → Type 0 = λ s. AnswersStep (record { tables = t; plan = q }) (record { tables = u; plan = p }) s in
    let P : ℕ → Type 0 = λ n. IsStopped (setting_by t q) (start_in t) n in
    subst P (sym c.commands-in-Limit.ensures) (is-stopped t q c.requires.under_way.running u p (subst A c.in-Limit.is c.in_ok-step.ensures.answers) until)

pub returns-in-Spent-clause-ended : goal.returns-in-Spent-clause-ended
returns-in-Spent-clause-ended g c = λ until.
    let t = c.args.search.now.core.tables in
    let q = c.args.search.now.core.plan in
    let u = c.step.new.self.core.tables in
    let p = c.step.new.self.core.plan in
    let A : Stepped → Type 0 = λ s. AnswersStep (record { tables = t; plan = q }) (record { tables = u; plan = p }) s in
    let under_way = c.in_ok-step.ensures.under_way c.in_ok-step.ensures.ready in
    is-spent t q c.requires.under_way.running u p c.in-Spent.conflicts (subst A c.in-Spent.is c.in_ok-step.ensures.answers) under_way.running.right c.equal_ids_for_equal_terms.ensures c.atoms_differ.ensures c.log-log.ensures.sound c.log-log.ensures.implied until
