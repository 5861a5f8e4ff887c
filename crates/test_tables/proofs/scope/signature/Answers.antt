use Rattle.std.proofs.Common.{length}
use Rattle.test_tables.proofs.scope.signature.Goals as goal

pub returns : goal.returns
returns c = c.in_ok-declare.ensures (length c.new-sig.result.bases)
