use Rattle.std.proofs.Common.{◌≡◌, List, length, refl, sym, ap, ◌∙◌, arith}
use Rattle.std.specs.List.{slice_get}
use Rattle.std.proofs.lemmas.Option.{slice_get_within}
use Rattle.sat_base.specs.declared.literal.SatLit.{SatLit}
use Rattle.sat_core.proofs.KeeperLaws.{if_none}
use Rattle.sat_core.proofs.ReasonLaws.{added_pair}
use Rattle.sat_core.proofs.sides.pair_of.Goals.{then-literals-ne2-via-then-literals-ne2, then-literals-ne2-via-else-literals-ne2+then-not-is_added}
use Rattle.sat_core.proofs.sides.pair_of.Goals as goal

pub returns-in_err-reason-clause-no : goal.returns-in_err-reason-clause-no
returns-in_err-reason-clause-no c = if_none c.from_residual.result _ (λ n is pair.
    let inside = slice_get_within c.args.propagator.now.clauses.items n pair.watched pair.there in
    let far = c.in_err-reason.ensures.none n is in
    absurd (omega (arith, inside, far)))

pub returns-then-literals-ne2-clause-no : goal.returns-then-literals-ne2-clause-no
returns-then-literals-ne2-clause-no c = λ n is pair.
    let e : n ≡ c.in_ok-reason.reason = c.in_ok-reason.ensures.only n is in
    let text = c.literals.ensures pair.watched (ap (slice_get c.args.propagator.now.clauses.items) (sym e) ∙ pair.there) in
    let two : length c.literals.result.now ≡ 2 = ap (λ (list : List SatLit). length list) text ∙ pair.two in
    elim c.then-literals-ne2.branch [
      | then-literals-ne2-via-then-literals-ne2 w ↦ absurd (omega (arith, two, w.if-literals-ne2.true))
      | then-literals-ne2-via-else-literals-ne2+then-not-is_added w ↦ absurd (w.if-not-is_added.ensures.no refl pair.number (ap (slice_get c.args.names.now) (sym e) ∙ pair.name))
    ]

pub returns-clause-pair : goal.returns-clause-pair
returns-clause-pair c =
    let p = c.args.propagator.now in
    let added = c.if-not-is_added.ensures.yes refl in
    added_pair p.clauses.items c.args.names.now c.in_ok-reason.reason added.0 c.literals.result.now c.in_ok-reason.ensures.within c.literals.ensures (omega (arith, c.if-literals-ne2.false)) added.1
