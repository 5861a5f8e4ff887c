use Rattle.std.proofs.Common.{◌∙◌, sym, inl, inr}
use Rattle.mode_file.proofs.NumeralLaws.{IsSplit, digits_some, digits_none}
use Rattle.mode_file.proofs.number.digits_in.Goals as goal
use Rattle.mode_file.proofs.number.digits_in.Goals.{else-not-is_empty-via-then-not-is_empty+then-is_decimal+else-is_ending, else-not-is_empty-via-then-not-is_empty+else-is_decimal, else-not-is_empty-via-else-not-is_empty}

pub returns-then-is_ending : goal.returns-then-is_ending
returns-then-is_ending c =
    let split : IsSplit c.args.bytes.now c.split_front-gap.result.front.now c.split_front-gap.result.rest.now c.split_front-number.result.front.now c.split_front-number.result.rest.now c.split_front-spaces.result.rest.now = record {
      gap_is = c.split_front-gap.ensures.front;
      rest_is = c.split_front-gap.ensures.rest;
      digits_are = c.split_front-number.ensures.front;
      tail_is = c.split_front-number.ensures.rest;
      ending_is = c.split_front-spaces.ensures.rest;
    } in
    digits_some _ _ _ _ _ _ split (sym c.is_empty.ensures ∙ c.if-not-is_empty.true) (sym c.is_decimal.ensures ∙ c.if-is_decimal.true) (sym c.is_ending.ensures ∙ c.if-is_ending.true)

pub returns-else-not-is_empty : goal.returns-else-not-is_empty
returns-else-not-is_empty c =
    let split : IsSplit c.args.bytes.now c.split_front-gap.result.front.now c.split_front-gap.result.rest.now c.split_front-number.result.front.now c.split_front-number.result.rest.now c.split_front-spaces.result.rest.now = record {
      gap_is = c.split_front-gap.ensures.front;
      rest_is = c.split_front-gap.ensures.rest;
      digits_are = c.split_front-number.ensures.front;
      tail_is = c.split_front-number.ensures.rest;
      ending_is = c.split_front-spaces.ensures.rest;
    } in
    elim c.else-not-is_empty.branch [
      | else-not-is_empty-via-then-not-is_empty+then-is_decimal+else-is_ending w ↦ digits_none _ _ _ _ _ _ split (inr (inr (sym w.is_ending.ensures ∙ w.if-is_ending.false)))
      | else-not-is_empty-via-then-not-is_empty+else-is_decimal w ↦ digits_none _ _ _ _ _ _ split (inr (inl (sym w.is_decimal.ensures ∙ w.if-is_decimal.false)))
      | else-not-is_empty-via-else-not-is_empty w ↦ digits_none _ _ _ _ _ _ split (inl (sym c.is_empty.ensures ∙ w.if-not-is_empty.false))
    ]
