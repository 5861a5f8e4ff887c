use Rattle.std.proofs.Common.{decimal}
use Rattle.szs_report.proofs.ReportLaws.{model-pieces}
use Rattle.szs_report.proofs.report.model.Goals as goal

pub returns : goal.returns
returns c = rw (← c.from.ensures, ← c.as_slice.ensures, model-pieces c.args.status.now c.args.name.now (decimal c.from.result) c.as_slice.result.now) c.of.ensures
