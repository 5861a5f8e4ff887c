use Rattle.std.proofs.lemmas.Str.{IsUtf8-from_ascii}
use Rattle.std.proofs.lemmas.Fmt.{IsAscii-from_digits}
use Rattle.mode_file.proofs.Numbers.{own, digits_of, value_some, value_none}
use Rattle.mode_file.proofs.number.value.Goals as goal

pub returns-in_default : goal.returns-in_default
returns-in_default c = absurd (c.in_default.ensures.cases.0 (IsUtf8-from_ascii c.args.digits.now (IsAscii-from_digits c.args.digits.now (own.to c.args.digits.now (digits_of c.args.digits.now c.requires).0))))

pub returns-in-Ok-parse : goal.returns-in-Ok-parse
returns-in-Ok-parse c = value_some c.parse.result c.args.digits.now c.in-Ok.text.now c.in-Ok-parse.number c.in-Ok-parse.is c.in-Ok.ensures.cases.0 (digits_of c.args.digits.now c.requires).0 c.parse.ensures.value.0

pub returns-in-Err : goal.returns-in-Err
returns-in-Err c =
    let digits = digits_of c.args.digits.now c.requires in
    value_none c.parse.result c.in-Err.field-0 c.args.digits.now c.in-Ok.text.now c.in-Err.is c.in-Ok.ensures.cases.0 digits.0 digits.1 c.parse.ensures.value.0
