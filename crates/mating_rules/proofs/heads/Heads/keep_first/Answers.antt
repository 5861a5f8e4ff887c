use Rattle.std.proofs.Common.{ap, ap₂, ◌∙◌}
use Rattle.stt_core.specs.SameTerm.{same_term}
use Rattle.indexmap.specs.IndexMap.{insert_entry}
use Rattle.mating_rules.specs.Noted.{kept_under}
use Rattle.mating_rules.proofs.HeadLaws.{insert-keeps}
use Rattle.mating_rules.proofs.heads.Heads.keep_first.Goals as goal

pub returns-clause-keeps : goal.returns-clause-keeps
returns-clause-keeps c = λ k sign.
    ap (kept_under k sign) (c.in_ok-insert.ensures.entries ∙ ap₂ (λ es s. insert_entry same_term es c.args.key s) c.self.view_is c.in_ok-lits.ensures)
    ∙ insert-keeps c.args.key c.args.lit c.args.self.now c.requires k sign
