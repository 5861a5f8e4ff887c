use Rattle.std.proofs.Common.{◌++◌, [], ◌∷◌, map, take, ap, ap₂, sym, ◌∙◌, arith}
use Rattle.stt_core.specs.Lift.{lift_by}
use Rattle.stt_core.proofs.ListLaws.{mapped_get, map-append, take_got}
use Rattle.term_bank.specs.Terms.{term_at}
use Rattle.term_bank.proofs.ClosedLaws.{closed_missing}
use Rattle.bank_normal.proofs.LiftLaws.{lift_by_none}
use Rattle.bank_normal.proofs.expanded.are_closed.Goals as goal

pub loop-i-preserved : goal.loop-i-preserved
loop-i-preserved c = λ by.
    let terms = c.args.bank.now.terms in
    let us = map (term_at terms) c.args.ids.now in
    let i = c.loop-i.i in
    let u = term_at terms c.at.result in
    let more = take_got us i u (mapped_get (term_at terms) c.args.ids.now i c.at.result c.at.ensures) in
    let closed = c.is_closed.ensures.0 c.if-not-is_closed.false in
    ap (map (lift_by by 0)) more
    ∙ map-append (lift_by by 0) (take i us) (u ∷ [])
    ∙ ap₂ (λ l x. l ++ x ∷ []) (c.loop-i.invariant by) (lift_by_none by 0 u (omega (arith, closed_missing u closed)))
    ∙ sym more
