use Rattle.refute_share.proofs.Writes.{took_by, stopped_by}
use Rattle.refute_share.proofs.write_bytes.write.Goals as goal

pub returns-clause-took : goal.returns-clause-took
returns-clause-took g c = let w = c.write_all_counted.ensures in took_by _ _ _ _ _ c.write_all_counted.result _ w.appended w.quiet w.telling

pub returns-clause-stopped : goal.returns-clause-stopped
returns-clause-stopped g c = let w = c.write_all_counted.ensures in stopped_by _ _ _ _ _ c.write_all_counted.result _ w.failed w.cause w.later w.telling
