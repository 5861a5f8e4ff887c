use Rattle.std.proofs.Common.{◌≡◌, refl, map, take, take_all, subst₂, arith}
use Rattle.std.proofs.lemmas.List.{length-map}
use Rattle.stt_core.proofs.ListLaws.{mapped_get}
use Rattle.tableau_calculus.specs.Accepted.{AreChildren}
use Rattle.tableau_calculus.proofs.ListLaws.{untrue}
use Rattle.tableau_calculus.proofs.ChildLaws.{children_length, children_at, children-more}
use Rattle.tableau_calculus.specs.Each.{Each}
use Rattle.refute_check.specs.Internal.Shared.{shared_atoms, literal_in, IsSharedNumber}
use Rattle.refute_check.proofs.ChildLaws.{clashes_closed}
use Rattle.refute_check.proofs.SharedLaws.{each_at}
use Rattle.refute_check.proofs.children.are_children.Goals as goal

pub returns-then-len : goal.returns-then-len
returns-then-len c = λ lines branch are n r.
    let as' = map (map (literal_in c.args.shared.now)) c.args.alternatives.now in
    (λ h. absurd (untrue h refl), λ h. absurd (omega (arith, c.if-len.true, c.len.ensures, c.len-2.ensures, length-map c.args.alternatives.now (map (literal_in c.args.shared.now)), children_length lines branch as' c.args.children.now h)))

pub set_of-requires-clause-numbers : goal.set_of-requires-clause-numbers
set_of-requires-clause-numbers c =
    each_at (Each (IsSharedNumber c.args.shared.now)) c.args.alternatives.now c.loop-i.i c.at.result.now c.requires.numbers c.at.ensures

pub returns-then-not-closes_by : goal.returns-then-not-closes_by
returns-then-not-closes_by c = λ lines branch are n r.
    let s = c.args.shared.now in
    let terms = shared_atoms s in
    let as' = map (map (literal_in s)) c.args.alternatives.now in
    let front = map (literal_in s) c.at.result.now in
    let at = mapped_get (map (literal_in s)) c.args.alternatives.now c.loop-i.i c.at.result.now c.at.ensures in
    let closed = c.is_closed_with-is_closed.ensures terms front branch n r c.in_ok-known.ensures.numbered c.in_ok-known.ensures.set (clashes_closed terms branch c.args.own.now c.clashes-own_is_closed.result n r c.clashes-own_is_closed.ensures) in
    let closes = λ (h : AreChildren lines branch as' c.args.children.now).
    (c.closes_by.ensures terms lines front branch are r c.in_ok-known.ensures.set closed).1 (children_at lines branch as' c.args.children.now c.loop-i.i front c.at-in-loop-i.result h at c.at-in-loop-i.ensures) in
    (λ h. absurd (untrue h refl), λ h. absurd (untrue (closes h) c.if-not-closes_by.true))

pub loop-i-preserved : goal.loop-i-preserved
loop-i-preserved c = λ lines branch are n r.
    let s = c.args.shared.now in
    let terms = shared_atoms s in
    let as' = map (map (literal_in s)) c.args.alternatives.now in
    let front = map (literal_in s) c.at.result.now in
    let at = mapped_get (map (literal_in s)) c.args.alternatives.now c.loop-i.i c.at.result.now c.at.ensures in
    let closed = c.is_closed_with-is_closed.ensures terms front branch n r c.in_ok-known.ensures.numbered c.in_ok-known.ensures.set (clashes_closed terms branch c.args.own.now c.clashes-own_is_closed.result n r c.clashes-own_is_closed.ensures) in
    children-more lines branch as' c.args.children.now c.loop-i.i front c.at-in-loop-i.result at c.at-in-loop-i.ensures (c.loop-i.invariant lines branch are n r)
    ((c.closes_by.ensures terms lines front branch are r c.in_ok-known.ensures.set closed).0 c.if-not-closes_by.false)

pub returns : goal.returns
returns c = λ lines branch are n r.
    let as' = map (map (literal_in c.args.shared.now)) c.args.alternatives.now in
    let i = c.loop-i.i in
    let many = length-map c.args.alternatives.now (map (literal_in c.args.shared.now)) in
    let sides : take i as' ≡ as' = take_all i as' (omega (arith, many, c.loop-i-test.false, c.len-i-end.ensures)) in
    let closing : take i c.args.children.now ≡ c.args.children.now = take_all i c.args.children.now (omega (arith, c.loop-i-test.false, c.len-i-end.ensures, c.len.ensures, c.len-2.ensures, c.if-len.false)) in
    (λ _. subst₂ (AreChildren lines branch) sides closing (c.loop-i.invariant lines branch are n r), λ _. refl)
