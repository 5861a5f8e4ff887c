use Rattle.std.proofs.Common.{ap, sym, ◌∙◌, arith}
use Rattle.stt_core.specs.View.{the_type, the_head}
use Rattle.instantiate.specs.PartialView.{the_partial_node}
use Rattle.instantiate.specs.Internal.Holes.{base_in}
use Rattle.instantiate.proofs.HoleLaws.{base_in-function, base_in-spine, base_among-found, base_among-later, node_count-at}
use Rattle.instantiate.proofs.partial.+hole_base.Goals as goal

pub Partial::hole_base-returns-in-Lam : goal.Partial::hole_base-returns-in-Lam
Partial::hole_base-returns-in-Lam t c =
    c.hole_base.ensures ∙ ap base_in c.deref.ensures ∙ sym (base_in-function (the_type c.in-Lam.field-0) c.in-Lam.body.value) ∙ ap base_in (ap the_partial_node (sym c.in-Lam.is) ∙ c.self.view_is)

pub Partial::hole_base-returns-in-App : goal.Partial::hole_base-returns-in-App
Partial::hole_base-returns-in-App t c =
    c.hole_base-in-App.ensures ∙ sym (base_in-spine (the_head c.in-App.field-0) c.in-App.args) ∙ ap base_in (ap the_partial_node (sym c.in-App.is) ∙ c.self.view_is)

pub Partials::hole_base-hole_base-requires : goal.Partials::hole_base-hole_base-requires
Partials::hole_base-hole_base-requires t c = (omega (arith, node_count-at c.args.self.now c.loop-i.i c.at.result.now c.at.ensures), tt)

pub Partials::hole_base-returns-in-Some : goal.Partials::hole_base-returns-in-Some
Partials::hole_base-returns-in-Some t c =
    base_among-found c.args.self.now c.loop-i.i c.in-Some.base c.at.result.now c.at.ensures c.in-Some.ensures ∙ c.loop-i.invariant

pub Partials::hole_base-loop-i-preserved : goal.Partials::hole_base-loop-i-preserved
Partials::hole_base-loop-i-preserved t c =
    base_among-later c.args.self.now c.loop-i.i c.at.result.now c.at.ensures c.in-None.ensures ∙ c.loop-i.invariant
