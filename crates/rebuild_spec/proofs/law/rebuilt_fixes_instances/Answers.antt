use Rattle.rebuild_spec.proofs.AlikeLaws.{fixes_instances}
use Rattle.rebuild_spec.proofs.law.rebuilt_fixes_instances.Goals as goal

pub returns : goal.returns
returns c = fixes_instances
