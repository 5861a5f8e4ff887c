use Rattle.std.proofs.Common.{rules, []}
use Rattle.stt_core.specs.ScopeView.{the_scope}
use Rattle.tableau_calculus.proofs.FirstFailureLaws.{refused_not_accepted}
use Rattle.stt_tableau.proofs.accepts.accepts_plain.Goals as goal

pub returns-in_err-types-clause-refused_only : goal.returns-in_err-types-clause-refused_only
returns-in_err-types-clause-refused_only c =
    refused_not_accepted (the_scope c.args.sig.now []) c.args.start.now c.args.refutation.now c.from_residual.result (search rules)

pub returns-in_err-check_lines-clause-refused_only : goal.returns-in_err-check_lines-clause-refused_only
returns-in_err-check_lines-clause-refused_only c =
    refused_not_accepted (the_scope c.args.sig.now []) c.args.start.now c.args.refutation.now c.from_residual-in_err-check_lines.result (search rules)

pub returns-in_err-check_last-clause-refused_only : goal.returns-in_err-check_last-clause-refused_only
returns-in_err-check_last-clause-refused_only c =
    refused_not_accepted (the_scope c.args.sig.now []) c.args.start.now c.args.refutation.now c.from_residual-in_err-check_last.result (search rules)
