-- The terms of a list are smaller than the list.
use Rattle.std.specs.Prelude.{ℕ, ◌+◌, ◌≤◌, List, [], ◌∷◌, map}
use Rattle.std.proofs.Common.{arith}
use Rattle.stt_core.specs.Lambda.{Lambda, node_count}
use Rattle.stt_core.specs.Internal.Sizes.{node_counts}
use denote.Param.Weighed.{most}

-- what weighs no more than the term that it stands for
pub shared_fall :
    {X : Type 0} (weigh : X → ℕ) (term : X → Lambda)
    → ((x : X) → weigh x ≤ node_count (term x) + 1)
    → (xs : List X)
    → most weigh xs ≤ node_counts (map term xs)
shared_fall weigh term light [] = omega arith
shared_fall weigh term light (x ∷ xs) = omega (arith, light x, shared_fall weigh term light xs)
