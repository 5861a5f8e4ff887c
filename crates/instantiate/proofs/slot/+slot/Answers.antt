use Rattle.std.proofs.lemmas.Result.{IfOk-weaker}
use Rattle.std.proofs.Common.{ap, sym, ◌∙◌, option_map, arith}
use Rattle.stt_core.specs.View.{the_head}
use Rattle.stt_core.specs.ContextView.{the_context}
use Rattle.term_bank.specs.Content.{content_scope}
use Rattle.instantiate.specs.PartialView.{the_partial_node}
use Rattle.instantiate.specs.Internal.Slots.{the_slot, slot_of}
use Rattle.instantiate.proofs.HoleLaws.{node_count-at, slots-spine, first_among-found, first_among-later}
use Rattle.instantiate.proofs.slot.+slot.Goals as goal

pub slot_among-slot_in-requires : goal.slot_among-slot_in-requires
slot_among-slot_in-requires t c = (omega (arith, node_count-at c.args.partials.now c.loop-i.i c.at.result.now c.at.ensures), tt)

pub slot_among-returns-in-Some : goal.slot_among-returns-in-Some
slot_among-returns-in-Some t c =
    first_among-found (slot_of (content_scope c.args.bank.now) (the_head c.args.head.now)) (the_context c.args.ctx.now) c.args.partials.now c.loop-i.i c.at.result.now c.at.ensures (the_slot c.in-Some.slot) (ap (option_map the_slot) (sym c.in-Some.is) ∙ c.in_ok-slot.ensures)
    ∙ c.loop-i.invariant

pub slot_among-loop-i-preserved : goal.slot_among-loop-i-preserved
slot_among-loop-i-preserved t c =
    first_among-later (slot_of (content_scope c.args.bank.now) (the_head c.args.head.now)) (the_context c.args.ctx.now) c.args.partials.now c.loop-i.i c.at.result.now c.at.ensures (ap (option_map the_slot) (sym c.in-None.is) ∙ c.in_ok-slot.ensures)
    ∙ c.loop-i.invariant

pub slot_in-returns-in-App : goal.slot_in-returns-in-App
slot_in-returns-in-App t c =
    IfOk-weaker c.slot_among.result _ _
    (λ o h. slots-spine (slot_of (content_scope c.args.bank.now) (the_head c.args.head.now)) (the_context c.args.ctx.now) (the_head c.in-App.field-0) c.in-App.args c.args.partial.now (option_map the_slot o)
    (ap the_partial_node (sym c.in-App.is) ∙ c.partial.view_is) h)
    c.slot_among.ensures
