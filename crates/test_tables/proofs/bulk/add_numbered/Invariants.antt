use Rattle.test_tables.specs.Sound.{AreSoundTables}
use Rattle.test_tables.proofs.bulk.add_numbered.Given as goal

abbrev pub invariant-loop-k : goal.invariant-loop-k
invariant-loop-k l = AreSoundTables l.tables
