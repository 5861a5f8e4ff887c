use Rattle.std.proofs.Common.{decimal}
use Rattle.szs_report.specs.Report.{mode_lines, tree_lines}
use Rattle.szs_report.proofs.ReportLaws.{proof-pieces}
use Rattle.szs_report.proofs.report.proof.Goals as goal

pub returns : goal.returns
returns c = rw (← c.claim_status.ensures, proof-pieces c.claim_status.result.now c.args.name.now (decimal c.args.commands) (mode_lines c.args.mode) (tree_lines c.args.tree) c.args.text.now, ← c.mode_line.ensures, ← c.tree_line.ensures, ← c.from.ensures) c.of.ensures
