use Rattle.std.proofs.Common.{[], ◌∷◌, refl, arith}
use Rattle.rebuild_spec.specs.Examples.{yes, no}
use Rattle.plain_tableau.specs.Trees.{closed, node, none, more}
use Rattle.plain_tableau.specs.Expansion.{found, open_at, over, closes, stays_open, is_over, makes, no_more, open_below, over_below, goes_on, grows}
use Rattle.plain_tableau.specs.Examples.{self_i0, self_i1, self_tree, SelfExpands, pointwise_instance, pointwise_tree, PointwiseExpands}
use Rattle.plain_tableau.proofs.law.examples_are_expanded.Goals as goal

self : SelfExpands
self =
    let b0 = no 0 ∷ [] in
    let b1 = no 0 ∷ no 1 ∷ [] in (
      grows (found self_tree) refl (makes 0 b0 self_i0 (found (more (node self_i1 b1 none) none)) refl refl (omega arith) (goes_on 1 b0 (no 1 ∷ []) [] (node self_i1 b1 none) (found none) (makes 1 b1 self_i1 (found none) refl refl (omega arith) (no_more 2 b1)) (no_more 2 b0))),
      record { lines = refl; needed = refl },
      grows over refl (makes 0 b0 self_i0 over refl refl (omega arith) (over_below 1 b0 (no 1 ∷ []) [] (is_over 1 b1 self_i1 refl refl (omega arith)))),
      grows (open_at b1) refl (makes 0 b0 self_i0 (open_at b1) refl refl (omega arith) (open_below 1 b0 (no 1 ∷ []) [] b1 (stays_open 1 b1 refl refl))),
    )

pointwise : PointwiseExpands
pointwise =
    let b = yes 0 ∷ no 1 ∷ [] in (
      grows (found pointwise_tree) refl (makes 0 b pointwise_instance (found (more closed none)) refl refl (omega arith) (goes_on 1 b (no 0 ∷ []) [] closed (found none) (closes 1 (yes 0 ∷ no 1 ∷ no 0 ∷ []) refl) (no_more 1 b))),
      record { lines = refl; needed = refl },
    )

pub returns : goal.returns
returns c = (self, pointwise)
