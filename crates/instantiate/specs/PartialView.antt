-- The partial terms of the code as plain trees.
use Rattle.std.specs.Prelude.{List, [], ◌∷◌}
use Rattle.stt_core.specs.View.{the_type, the_head}
use Rattle.search_spec.specs.Partial.{Partial, hole, head, function, application}
use Rattle.instantiate.specs.declared.partial.PartialNode.{PartialNode}
use Rattle.instantiate.specs.declared.partial.PartialNode.TheVariants.{Hole, Lam, App}

-- a partial term applied to arguments, first one first
abbrev pub applications : Partial → List Partial → Partial
applications p [] = p
applications p (q ∷ qs) = applications (application p q) qs

abbrev pub the_partial_node : PartialNode → Partial
the_partial_node (Hole n) = hole n
the_partial_node (Lam a p) = function (the_type a) p.value
the_partial_node (App h ps) = applications (head (the_head h)) ps
