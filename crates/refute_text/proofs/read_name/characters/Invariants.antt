use Rattle.std.proofs.Common.{◌≡◌, length}
use Rattle.refute_text.specs.Internal.Reader.{characters_at}
use Rattle.refute_text.proofs.Readers.{with_front}
use Rattle.refute_text.proofs.read_name.characters.Given as goal

abbrev pub invariant-loop-rest : goal.invariant-loop-rest
invariant-loop-rest l = with_front l.name (characters_at l.rest) ≡ characters_at l.bytes

abbrev pub decreases-loop-rest : goal.decreases-loop-rest
decreases-loop-rest l = length l.rest
