use Rattle.test_tables.specs.Sound.{AreSoundTables}
use Rattle.test_tables.proofs.answer.write_numbers.Given as goal

abbrev pub invariant-loop-word : goal.invariant-loop-word
invariant-loop-word l = AreSoundTables l.tables
