use Rattle.std.proofs.Common.{[]}
use Rattle.stt_core.specs.SimpleType.{base}
use Rattle.test_bank.proofs.doubling.instance.Goals as goal

pub instantiate-requires-clause-fits : goal.instantiate-requires-clause-fits
instantiate-requires-clause-fits c =
    record { ctx = []; applies = record { argument = base 1; result = base 1; function_in = c.requires.function.canonical; argument_in = c.requires.argument.canonical } }

pub instantiate-requires-clause-right : goal.instantiate-requires-clause-right
instantiate-requires-clause-right c = c.new-normal.ensures c.args.bank.now
