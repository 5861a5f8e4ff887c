use Rattle.std.proofs.Common.{◌≡◌, inl, inr, ℕ, List, length, get_or, refl, sym, ap, subst, ◌∙◌, arith}
use Rattle.std.specs.List.{slice_get}
use Rattle.std.proofs.lemmas.Bool.{cases_lt}
use Rattle.std.proofs.lemmas.Option.{slice_get_within, slice_get-get_or, get_or_from_slice_get}
use Rattle.sat_base.specs.declared.literal.Var.{Var}
use Rattle.sat_core.specs.Internal.Sides.{IsPaired, met_ones}
use Rattle.sat_core.proofs.sides.Sides.find.Goals as goal

pub returns-then-is_paired-clause-none : goal.returns-then-is_paired-clause-none
returns-then-is_paired-clause-none c = λ none.
    let met = c.met-var-items.result.now in
    absurd (none _ (record {
      place = c.loop-var.var-index;
      met = ap (λ (list : List Var). slice_get list c.loop-var.var-index) (sym c.met-var-items.ensures) ∙ slice_get-get_or met c.loop-var.var-index (record { 0 = 0 }) c.loop-var-test.true;
      paired = c.if-is_paired.ensures.yes refl;
    }))

pub loop-var-preserved : goal.loop-var-preserved
loop-var-preserved c =
    let met = c.met-var-items.result.now in
    record {
      none_yet = λ k v below at paired. elim (cases_lt k c.loop-var.var-index) [
        | inl less ↦ c.loop-var.invariant.none_yet k v less at paired
        | inr more ↦
            let same : k ≡ c.loop-var.var-index = omega (arith, below, more) in
            let is : get_or met c.loop-var.var-index (record { 0 = 0 }) ≡ v = ap (λ (n : ℕ). get_or met n (record { 0 = 0 })) (sym same) ∙ get_or_from_slice_get met k v (record { 0 = 0 }) at in
            c.if-is_paired.ensures.no refl (subst (λ (w : Var). IsPaired c.args.propagator.now c.args.names.now c.args.marks.now w) (sym is) paired)
      ];
      found = c.loop-var.invariant.found;
      made = c.loop-var.invariant.made;
    }

pub returns-clause-noted : goal.returns-clause-noted
returns-clause-noted c = λ v has.
    let inside = slice_get_within (met_ones c.args.marks.now) has.place v has.met in
    absurd (c.loop-var.invariant.none_yet has.place v
    (omega (arith, inside, ap (λ (list : List Var). length list) c.met-var-items.ensures, c.loop-var-test.false))
    (ap (λ (list : List Var). slice_get list has.place) c.met-var-items.ensures ∙ has.met) has.paired)
