use Rattle.std.proofs.Common.{◌≡◌, length}
use Rattle.prover_state.specs.Internal.HeadTypes.{AreBaseHeads}
use Rattle.prover_state.proofs.head_types.first_bases.Given as goal

abbrev pub invariant-loop-n : goal.invariant-loop-n
invariant-loop-n l = record {
  many : length l.bases.items ≡ l.n;
  right : AreBaseHeads 0 l.bases.items;
}
