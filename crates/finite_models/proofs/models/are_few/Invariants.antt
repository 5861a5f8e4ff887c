use Rattle.std.proofs.Common.{◌≡◌, ◌≤◌, take}
use Rattle.finite_models.specs.Internal.Looking.{product}
use Rattle.finite_models.proofs.models.are_few.Given as goal

abbrev pub invariant-loop-size : goal.invariant-loop-size
invariant-loop-size l = (l.lists ≡ product (take l.size-index l.sizes)) × (l.lists ≤ 1048576)
