use Rattle.std.proofs.Common.{ap, sym, ◌∙◌, option_map}
use Rattle.stt_core.specs.View.{the_type, the_head}
use Rattle.term_bank.specs.Content.{content_scope}
use Rattle.instantiate.proofs.GrowLaws.{head_leaf, has_grown}
use Rattle.instantiate.proofs.growing.with_fitting.Goals as goal

pub returns-in_ok-with_head-in-Some-clause-filled : goal.returns-in_ok-with_head-in-Some-clause-filled
returns-in_ok-with_head-in-Some-clause-filled c = λ typed.
    has_grown (content_scope c.args.bank.now) c.sig-declared.ensures.declared c.args.partial (the_head c.args.head.now) typed c.requires (head_leaf c.args.head.now) (the_type c.in-Some.ty) c.in_ok-with_head-in-Some.field-0
    (ap (option_map the_type) (sym c.in-Some.is) ∙ c.in_ok-ty.ensures) c.in_ok-with_head-in-Some.ensures
