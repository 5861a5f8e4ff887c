use Rattle.std.proofs.Common.{ap, sym, ◌∙◌}
use Rattle.std.specs.Prelude.{fold}
use Rattle.tableau_clauses.specs.Internal.Keys.{joined, clause_number, numbers-back}
use Rattle.tableau_clauses.proofs.key.Key.number.Goals as goal

pub returns : goal.returns
returns c =
    c.number_of.ensures
    ∙ ap (fold joined 0) (c.as_slice.ensures ∙ sym (numbers-back c.self.inside.codes.items))
    ∙ ap clause_number c.self.view_is
