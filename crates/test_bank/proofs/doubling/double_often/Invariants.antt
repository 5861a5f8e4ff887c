use Rattle.std.proofs.Common.{List}
use Rattle.stt_core.specs.SimpleType.{SimpleType, base}
use Rattle.term_bank.specs.Content.{Grows}
use Rattle.test_bank.specs.Individuals.{NamesIndividuals, IsOf, IsIndividual}
use Rattle.test_bank.proofs.doubling.double_often.Given as goal

abbrev pub invariant-loop : goal.invariant-loop
invariant-loop l =
    Grows l.fn.bank l.bank × NamesIndividuals l.bank × IsIndividual l.bank l.last
    × ((ctx : List SimpleType) → IsOf l.fn.bank ctx (base 1) l.term → IsOf l.bank ctx (base 1) l.last)
