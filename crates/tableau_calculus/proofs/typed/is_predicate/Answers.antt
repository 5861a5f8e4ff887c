use Rattle.std.proofs.Common.{option_map, Some, ap, ◌∙◌}
use Rattle.stt_core.specs.SimpleType.{formula, same_type}
use Rattle.stt_core.specs.View.{the_type}
use Rattle.tableau_calculus.proofs.TypedLaws.{predicate_tells}
use Rattle.tableau_calculus.proofs.typed.is_predicate.Goals as goal

pub returns-in-Some-Arrow : goal.returns-in-Some-Arrow
returns-in-Some-Arrow c =
    let at = c.in-Some-Arrow in
    predicate_tells (option_map the_type c.args.found) (the_type at.field-0-0.value) (the_type at.outcome.value) c.same.result (ap (option_map the_type) at.is ∙ ap (λ t. Some (the_type t)) at.field-0-is) (c.same.ensures ∙ ap (λ t. same_type (the_type t) formula) c.deref.ensures)
