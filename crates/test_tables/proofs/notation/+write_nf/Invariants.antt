use Rattle.stt_core.specs.Lambda.{node_count}
use Rattle.test_tables.proofs.notation.+write_nf.Given as goal

abbrev pub decreases-write_nf : goal.decreases-write_nf
decreases-write_nf l = node_count l.nf.now
