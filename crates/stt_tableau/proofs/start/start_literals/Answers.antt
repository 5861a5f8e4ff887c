use Rattle.std.proofs.Common.{ap, ◌∙◌, option_map}
use Rattle.stt_core.specs.View.{the_term}
use Rattle.stt_core.specs.PlainProblem.{PlainProblem}
use Rattle.tableau_calculus.specs.Literals.{opposite}
use Rattle.tableau_calculus.specs.Start.{start}
use Rattle.tableau_calculus.proofs.StartLaws.{start-denied}
use Rattle.stt_tableau.proofs.start.start_literals.Goals as goal

pub returns-in_ok-add-in-Some : goal.returns-in_ok-add-in-Some
returns-in_ok-add-in-Some c =
    let i = c.problem.inside in
    let p : PlainProblem = record { declared = record { bases = i.signature.bases; consts = i.signature.consts }; assumed = i.assumed; marked = i.marked; conjecture = option_map the_term i.conjecture } in
    start-denied p (the_term c.in-Some.conjecture) c.opposite-denied.result c.in_ok-lits.lits c.add.new.lits
    (ap (option_map the_term) c.in-Some.is)
    (c.opposite-denied.ensures ∙ ap opposite c.in_ok-formula_literal-in-Some.ensures)
    c.in_ok-lits.ensures
    c.in_ok-add-in-Some.ensures
    ∙ ap start c.problem.view_is
