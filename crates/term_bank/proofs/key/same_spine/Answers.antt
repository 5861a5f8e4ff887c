use Rattle.stt_core.specs.View.{the_head}
use Rattle.term_bank.proofs.KeyLaws.{heads_same, heads_differ}
use Rattle.term_bank.proofs.key.same_spine.Goals as goal

pub returns-then-same : goal.returns-then-same
returns-then-same c = heads_same (the_head c.args.h.now) (the_head c.args.k.now) c.args.us.now c.args.vs.now c.same.result c.eq.result c.same.ensures c.if-same.true (rw (c.as_slice.ensures, c.as_slice-then-same.ensures) at c.eq.ensures)

pub returns-else-same : goal.returns-else-same
returns-else-same c = heads_differ (the_head c.args.h.now) (the_head c.args.k.now) c.args.us.now c.args.vs.now c.same.result c.same.ensures c.if-same.false
