use Rattle.stt_core.specs.Lambda.{node_count}
use Rattle.stt_core.specs.View.{the_term}
use Rattle.stt_normal.proofs.normal.+normal_applied.Given as goal

abbrev pub decreases-normal_applied : goal.decreases-normal_applied
decreases-normal_applied l = node_count (the_term l.term.now)
