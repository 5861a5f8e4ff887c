use Rattle.std.proofs.Common.{Bool, [], ◌∷◌, if◌then◌else◌, ap, ◌∙◌}
use Rattle.stt_core.specs.View.{the_type, the_head}
use Rattle.term_bank.specs.Terms.{term_at}
use Rattle.search_spec.specs.Selections.{by_choice, by_description, selection_by}
use Rattle.prover_state.proofs.selected.selected_by.Goals as goal

pub returns-in-Choice : goal.returns-in-Choice
returns-in-Choice c = λ terms h e.
    let f = term_at terms c.args.f in
    let a = the_type c.in-Choice.field-0 in
    (h, (a, ap (λ k. selection_by (the_head k) f) c.in-Choice.is ∙ ap (λ (b : Bool). if b then by_choice a f ∷ [] else []) e))

pub returns-in-Desc : goal.returns-in-Desc
returns-in-Desc c = λ terms h e.
    let f = term_at terms c.args.f in
    let a = the_type c.in-Desc.field-0 in
    (h, (a, ap (λ k. selection_by (the_head k) f) c.in-Desc.is ∙ ap (λ (b : Bool). if b then by_description a f ∷ [] else []) e))
