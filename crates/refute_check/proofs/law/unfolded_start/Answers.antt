use Rattle.refute_check.proofs.AcceptanceLaws.{start_once, taken_named, taken_start}
use Rattle.refute_check.proofs.law.unfolded_start.Goals as goal

pub returns : goal.returns
returns c = record { once = start_once c.args.problem.now; named = taken_named c.args.problem.now; taken = taken_start c.args.problem.now }
