use Rattle.std.proofs.Common.{ap₂, ◌∙◌, nat_eq}
use Rattle.std.specs.Cmp.Lexicographic.{pointwise}
use Rattle.search_spec.specs.Clauses.{same_clause}
use Rattle.search_spec.specs.Numbered.{numbers}
use Rattle.tableau_clauses.specs.Internal.Keys.{pointwise-same}
use Rattle.tableau_clauses.proofs.key.KeyPartialEq.eq.Goals as goal

pub returns : goal.returns
returns c =
    c.eq.ensures
    ∙ ap₂ (pointwise nat_eq) c.as_slice.ensures c.as_slice-2.ensures
    ∙ pointwise-same c.self.inside.codes.items c.other.inside.codes.items
    ∙ ap₂ (same_clause numbers) c.self.view_is c.other.view_is
