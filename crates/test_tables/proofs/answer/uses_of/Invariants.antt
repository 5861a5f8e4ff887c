use Rattle.test_tables.specs.Sound.{AreSoundTables}
use Rattle.test_tables.proofs.answer.uses_of.Given as goal

abbrev pub invariant-loop-text : goal.invariant-loop-text
invariant-loop-text l = AreSoundTables l.tables
