-- The terms inside a term are smaller.
use Rattle.std.specs.Prelude.{◌≤◌, max}
use Rattle.std.proofs.Common.{arith}
use Rattle.refute_print.specs.declared.tree.TextNode.{TextNode}
use Rattle.refute_print.specs.declared.tree.TextNode.TheVariants.{Lam, App}
use Rattle.refute_print.specs.declared.tree.TextTerm.TheDeep.{deep-TextNode}
use Rattle.refute_print.specs.Internal.TreeSizes.{tree_node_count, applied_falls}
use Rattle.refute_print.specs.TreeView.{the_text_head, the_text_node}

pub text_node_falls : (n : TextNode) → max (deep-TextNode n) 0 ≤ tree_node_count (the_text_node n)
text_node_falls (Lam a s) = omega arith
text_node_falls (App h us) = omega (arith, applied_falls (the_text_head h) us)
