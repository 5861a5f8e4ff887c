use Rattle.test_tables.specs.Sound.{AreSoundTables}
use Rattle.test_tables.proofs.answer.write_each.Given as goal

abbrev pub invariant-loop-i : goal.invariant-loop-i
invariant-loop-i l = AreSoundTables l.tables
