use Rattle.std.proofs.Common.{◌≡◌, ◌∙◌, Some, None, sym, ap}
use Rattle.outside.specs.Fronts.{behind_front}
use Rattle.mode_file.specs.declared.bytes.ByteClass.TheVariants.{InWord}
use Rattle.mode_file.specs.Internal.Fronts.{is_in}
use Rattle.mode_file.specs.Internal.Reader.{digits_in}
use Rattle.mode_file.proofs.AssignLaws.{decimal, no_number, number_read, too_great}
use Rattle.mode_file.proofs.number.read_number.Goals as goal

pub value-requires : goal.value-requires
value-requires c = decimal c.split_front-word.result.rest.now _ (sym c.in-Some.ensures)

pub returns-in_default : goal.returns-in_default
returns-in_default c =
    let none : digits_in (behind_front (is_in InWord) c.args.line.now) ≡ None = ap digits_in (sym c.split_front-word.ensures.rest) ∙ sym c.in_default.ensures in
    record { number = tt; refused = no_number c.args.line.now none }

pub returns-in_default-value : goal.returns-in_default-value
returns-in_default-value c =
    let there : digits_in (behind_front (is_in InWord) c.args.line.now) ≡ Some c.in-Some.digits.now = ap digits_in (sym c.split_front-word.ensures.rest) ∙ sym c.in-Some.ensures in
    record { number = tt; refused = too_great c.args.line.now c.in-Some.digits.now there c.in_default-value.ensures }

pub returns : goal.returns
returns c =
    let there : digits_in (behind_front (is_in InWord) c.args.line.now) ≡ Some c.in-Some.digits.now = ap digits_in (sym c.split_front-word.ensures.rest) ∙ sym c.in-Some.ensures in
    record { number = number_read c.args.line.now c.in-Some.digits.now there _ c.in-Some-value.ensures; refused = tt }
