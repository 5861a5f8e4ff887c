use Rattle.mating_rules.specs.Noted.{IsRightIndex}
use Rattle.test_tables.proofs.tables.Tables.count_noted.Given as goal

abbrev pub invariant-loop : goal.invariant-loop
invariant-loop l = IsRightIndex l.self.bank.terms l.self.lits l.index
