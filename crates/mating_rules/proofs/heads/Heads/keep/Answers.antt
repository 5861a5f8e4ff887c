use Rattle.std.proofs.Common.{not, sym, ◌∙◌}
use Rattle.mating_rules.proofs.HeadLaws.{kept-new}
use Rattle.mating_rules.proofs.heads.Heads.keep.Goals as goal

pub returns-in_ok-keep_first-in-None-clause-partners : goal.returns-in_ok-keep_first-in-None-clause-partners
returns-in_ok-keep_first-in-None-clause-partners c = c.new.ensures ∙ sym (kept-new c.args.key (not c.args.lit.positive) c.args.self.now c.in-None.ensures.none)
