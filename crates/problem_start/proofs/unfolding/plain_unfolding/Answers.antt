use Rattle.problem_start.proofs.unfolding.plain_unfolding.Goals as goal

pub returns-clause-definitions : goal.returns-clause-definitions
returns-clause-definitions c = λ b.
    let w = c.new-outline.ensures.definitions b in
    record { outline = w.outline; forms = w.forms; definitions = w.definitions; typed = w.typed }
