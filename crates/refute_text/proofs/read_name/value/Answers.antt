use Rattle.std.proofs.lemmas.Str.{IsUtf8-from_ascii}
use Rattle.std.proofs.lemmas.Fmt.{IsAscii-from_digits}
use Rattle.refute_text.proofs.Numbers.{own, value_some, value_none}
use Rattle.refute_text.proofs.read_name.value.Goals as goal

pub returns-in_default : goal.returns-in_default
returns-in_default c = absurd (c.in_default.ensures.cases.0 (IsUtf8-from_ascii c.args.digits.now (IsAscii-from_digits c.args.digits.now (own.to c.args.digits.now c.requires.digits))))

pub returns-in-Ok-parse : goal.returns-in-Ok-parse
returns-in-Ok-parse c = value_some c.parse.result c.args.digits.now c.in-Ok.text.now c.in-Ok-parse.number c.in-Ok-parse.is c.in-Ok.ensures.cases.0 c.requires.digits c.parse.ensures.value.0

pub returns-in-Err : goal.returns-in-Err
returns-in-Err c = value_none c.parse.result c.in-Err.field-0 c.args.digits.now c.in-Ok.text.now c.in-Err.is c.in-Ok.ensures.cases.0 c.requires.digits c.requires.some c.parse.ensures.value.0
