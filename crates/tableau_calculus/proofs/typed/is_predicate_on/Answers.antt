use Rattle.std.proofs.Common.{◌≡◌, option_map, Some, ◌&&◌, ap, ap₂, sym, ◌∙◌}
use Rattle.stt_core.specs.SimpleType.{predicate, formula, arrow, same_type}
use Rattle.stt_core.specs.View.{the_type}
use Rattle.tableau_calculus.proofs.TypedLaws.{type_tells}
use Rattle.tableau_calculus.proofs.typed.is_predicate_on.Goals as goal
use Rattle.tableau_calculus.proofs.typed.is_predicate_on.Goals.{then-same, else-same}

pub returns-after-same : goal.returns-after-same
returns-after-same c =
    let at = c.in-Some-Arrow in
    let first : c.same.result ≡ same_type (the_type at.argument.value) (the_type c.args.ty.now) = c.same.ensures ∙ ap (λ t. same_type (the_type t) (the_type c.args.ty.now)) c.deref.ensures in
    let whole : c.if-same.result ≡ (same_type (the_type at.argument.value) (the_type c.args.ty.now) && same_type (the_type at.outcome.value) formula) =
    elim c.if-same.branch [
      | then-same w ↦ w.result-is ∙ w.same-then-same.ensures ∙ ap₂ (λ x t. x && same_type (the_type t) formula) (sym w.if-same.true ∙ first) w.deref-then-same.ensures
      | else-same w ↦ w.result-is ∙ w.if-same.false ∙ ap (λ x. x && same_type (the_type at.outcome.value) formula) (sym w.if-same.false ∙ first)
    ]
    in
    type_tells (option_map the_type c.args.found) (arrow (the_type at.argument.value) (the_type at.outcome.value)) (predicate (the_type c.args.ty.now)) c.if-same.result (ap (option_map the_type) at.is ∙ ap (λ t. Some (the_type t)) at.field-0-is) whole
