use Rattle.std.proofs.Common.{OnOk, IfErr, ap, subst}
use Rattle.tableau_calculus.specs.Start.{start}
use Rattle.tableau_calculus.specs.Refused.{IfRefused}
use Rattle.problem_start.specs.Unfolds.{unfolded_if}
use Rattle.refute_print.specs.TextView.{the_text}
use Rattle.refute_print.specs.Named.{names_of}
use Rattle.refute_check.specs.Numbered.{numbered_refutation}
use Rattle.refute_check.specs.Internal.Strictly.{IsAcceptedBy, FirstFailureBy}
use Rattle.refute_check.proofs.check.check_text.Goals as goal
use Rattle.stt_core.specs.Declarations.{scope_of}
use Rattle.stt_core.specs.PlainProblem.{PlainProblem}

pub returns-clause-accepted : goal.returns-clause-accepted
returns-clause-accepted c =
    let begin = start (unfolded_if c.args.unfolds c.args.problem.now) in
    subst (λ p. OnOk c.check_over.result (IsAcceptedBy c.args.strict (scope_of p.declared) begin (numbered_refutation (names_of p.declared.bases p.declared.consts) (the_text c.args.text.now)))) c.problem.view_is c.check_over.ensures.accepted

pub returns-clause-refused : goal.returns-clause-refused
returns-clause-refused c =
    let begin = start (unfolded_if c.args.unfolds c.args.problem.now) in
    subst (λ p. IfErr c.check_over.result (λ e. IfRefused e (FirstFailureBy c.args.strict (scope_of p.declared) begin (numbered_refutation (names_of p.declared.bases p.declared.consts) (the_text c.args.text.now))))) c.problem.view_is c.check_over.ensures.refused

pub check_over-requires-clause-own : goal.check_over-requires-clause-own
check_over-requires-clause-own c = ap (λ (p : PlainProblem). scope_of p.declared) c.problem.view_is
