use Rattle.std.proofs.Common.{take, refl, sym, subst, arith}
use Rattle.tableau_calculus.specs.Accepted.{ClosesBy, AreChildren}
use Rattle.tableau_calculus.proofs.ListLaws.{untrue}
use Rattle.tableau_calculus.proofs.ChildLaws.{children_length, children_at, children-more}
use Rattle.stt_tableau.proofs.children.are_children.Goals as goal

pub returns-then-len : goal.returns-then-len
returns-then-len c =
    let earlier = take c.args.count c.args.lines.now in
    (λ h. absurd (untrue h refl), λ h. absurd (omega (arith, c.if-len.true, c.len.ensures, c.len-2.ensures, children_length earlier c.args.branch.now c.args.alternatives.now c.args.children.now h)))

pub returns-then-not-closes_by : goal.returns-then-not-closes_by
returns-then-not-closes_by c =
    let earlier = take c.args.count c.args.lines.now in
    let closes = λ (h : AreChildren earlier c.args.branch.now c.args.alternatives.now c.args.children.now).
    c.closes_by.ensures.1 (subst (λ ls. ClosesBy earlier ls c.at-in-loop-i.result) (sym c.in_ok-extended.ensures) (children_at earlier c.args.branch.now c.args.alternatives.now c.args.children.now c.loop-i.i c.at.result.now c.at-in-loop-i.result h c.at.ensures c.at-in-loop-i.ensures)) in
    (λ h. absurd (untrue h refl), λ h. absurd (untrue (closes h) c.if-not-closes_by.true))

pub loop-i-preserved : goal.loop-i-preserved
loop-i-preserved c =
    let earlier = take c.args.count c.args.lines.now in
    children-more earlier c.args.branch.now c.args.alternatives.now c.args.children.now c.loop-i.i c.at.result.now c.at-in-loop-i.result c.at.ensures c.at-in-loop-i.ensures c.loop-i.invariant
    (subst (λ ls. ClosesBy earlier ls c.at-in-loop-i.result) c.in_ok-extended.ensures (c.closes_by.ensures.0 c.if-not-closes_by.false))
