use Rattle.std.proofs.Common.{[]}
use Rattle.stt_core.specs.SimpleType.{base}
use Rattle.test_bank.specs.Individuals.{NamesIndividuals, IsOf}
use Rattle.test_bank.proofs.doubling.interned.Given as goal

abbrev pub invariant-loop : goal.invariant-loop
invariant-loop l = NamesIndividuals l.bank × IsOf l.bank [] (base 1) l.first × IsOf l.bank [] (base 1) l.second
