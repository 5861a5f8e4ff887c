use Rattle.std.proofs.Common.{◌||◌, ap, ◌∙◌}
use Rattle.stt_core.specs.Lambda.{name}
use Rattle.stt_core.specs.View.{the_term}
use Rattle.delta_defs.specs.Definitions.{mentions}
use Rattle.delta_defs.proofs.definition.note_names.Goals as goal

pub returns-clause-names : goal.returns-clause-names
returns-clause-names c = λ k.
    c.in_ok-add_names.ensures k ∙ ap (λ b. mentions (name k) (the_term c.args.term.now) || b) (c.in_ok-add_name.ensures k)
