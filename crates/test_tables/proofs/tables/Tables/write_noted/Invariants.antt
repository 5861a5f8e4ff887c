use Rattle.mating_rules.specs.Noted.{IsRightIndex}
use Rattle.test_tables.proofs.tables.Tables.write_noted.Given as goal

abbrev pub invariant-loop-lit : goal.invariant-loop-lit
invariant-loop-lit l = IsRightIndex l.self.bank.terms l.self.lits l.index
