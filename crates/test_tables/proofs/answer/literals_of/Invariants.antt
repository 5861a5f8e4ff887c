use Rattle.test_tables.specs.Sound.{AreSoundTables}
use Rattle.test_tables.proofs.answer.literals_of.Given as goal

abbrev pub invariant-loop-word : goal.invariant-loop-word
invariant-loop-word l = AreSoundTables l.tables
