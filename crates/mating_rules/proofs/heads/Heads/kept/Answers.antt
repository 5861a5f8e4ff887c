use Rattle.std.proofs.Common.{sym}
use Rattle.mating_rules.proofs.HeadLaws.{kept-new}
use Rattle.mating_rules.proofs.heads.Heads.kept.Goals as goal

pub returns-in-None : goal.returns-in-None
returns-in-None c = sym (kept-new c.args.key.now c.args.positive c.args.self.now c.in-None.ensures.none)
