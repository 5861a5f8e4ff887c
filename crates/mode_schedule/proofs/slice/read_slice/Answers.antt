use Rattle.std.proofs.Common.{inl, inr, subst, arith}
use Rattle.mode_file.specs.declared.number.NumberRefused.{NumberRefused}
use Rattle.mode_file.specs.Grammar.{HasNoNumber}
use Rattle.mode_schedule.specs.Grammar.{HasSlice}
use Rattle.mode_schedule.proofs.SliceLaws.{slice_read, no_slice}
use Rattle.mode_schedule.proofs.slice.read_slice.Goals as goal
use Rattle.mode_schedule.proofs.slice.read_slice.Goals.{then-number-eq0-via-then-number-eq0, then-number-eq0-via-else-number-eq0+then-number-gt-GREATEST_SLICE}

pub returns-in-Err-Missing : goal.returns-in-Err-Missing
returns-in-Err-Missing c =
    let N : NumberRefused → Type 0 = λ r. HasNoNumber c.args.line.now r in
    let none = no_slice c.args.line.now c.requires (subst N c.in-Err-Missing.field-0-is c.in-Err-Missing.ensures.refused) in
    λ read e. (omega (arith, e, c.if-blocks-ge-MOST_BLOCKS.false), none)

pub returns-in-Err-TooGreat : goal.returns-in-Err-TooGreat
returns-in-Err-TooGreat c =
    let N : NumberRefused → Type 0 = λ r. HasNoNumber c.args.line.now r in
    let far = subst N c.in-Err-TooGreat.field-0-is c.in-Err-TooGreat.ensures.refused in
    λ read e. (omega (arith, e, c.if-blocks-ge-MOST_BLOCKS.false), (far.0, slice_read c.args.line.now far.0 c.requires far.1, inr (omega (arith, far.2))))

pub returns-then-number-eq0 : goal.returns-then-number-eq0
returns-then-number-eq0 c =
    let has : HasSlice c.args.line.now c.in-Ok.number = slice_read c.args.line.now c.in-Ok.number c.requires c.in-Ok.ensures.number in
    λ read e. (
      omega (arith, e, c.if-blocks-ge-MOST_BLOCKS.false),
      elim c.then-number-eq0.branch [
        | then-number-eq0-via-then-number-eq0 w ↦ (c.in-Ok.number, has, inl (omega (arith, w.if-number-eq0.true)))
        | then-number-eq0-via-else-number-eq0+then-number-gt-GREATEST_SLICE w ↦ (c.in-Ok.number, has, inr (omega (arith, w.if-number-gt-GREATEST_SLICE.true)))
      ],
    )

pub returns : goal.returns
returns c =
    let has : HasSlice c.args.line.now c.in-Ok.number = slice_read c.args.line.now c.in-Ok.number c.requires c.in-Ok.ensures.number in
    (record { has = has; some = omega (arith, c.if-number-eq0.false); in_range = omega (arith, c.if-number-gt-GREATEST_SLICE.false) }, omega (arith, c.if-blocks-ge-MOST_BLOCKS.false))
