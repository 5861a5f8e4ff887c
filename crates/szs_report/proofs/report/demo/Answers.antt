use Rattle.std.proofs.Common.{decimal}
use Rattle.szs_report.proofs.ReportLaws.{demo-pieces}
use Rattle.szs_report.proofs.report.demo.Goals as goal

pub returns : goal.returns
returns c = rw (← c.claim_status.ensures, ← c.from.ensures, demo-pieces c.claim_status.result.now c.args.name.now (decimal c.from.result)) c.of.ensures
