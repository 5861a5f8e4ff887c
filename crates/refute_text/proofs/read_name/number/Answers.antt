use Rattle.std.proofs.Common.{ap, ◌∙◌}
use Rattle.std.specs.List.{list_all}
use Rattle.outside.specs.Decimal.{is_digit}
use Rattle.refute_text.proofs.Readers.{list_all-front}
use Rattle.refute_text.proofs.read_name.number.Goals as goal

pub value-requires-clause-digits : goal.value-requires-clause-digits
value-requires-clause-digits c = ap (list_all is_digit) c.digits-split.ensures.front ∙ list_all-front is_digit c.args.bytes.now
