-- Laws of matching.
use Rattle.std.specs.Prelude.{◌≡◌, true, List, Option, Some, None}
use Rattle.stt_core.specs.SimpleType.{SimpleType}
use Rattle.stt_core.specs.Lambda.{Lambda}
use Rattle.tableau_calculus.specs.Each.{Each}
use Rattle.search_spec.specs.Closed.{is_closed}
use Rattle.search_spec.specs.Matching.Match.{Bindings, match_term}

-- what a variable stands for, where that is known, is closed
abbrev pub StandsForClosed : Option Lambda → Type 0
StandsForClosed None = Unit {0}
StandsForClosed (Some u) = is_closed u ≡ true

-- What is found is closed, whatever the pattern and the term are.
abbrev pub FoundTermsAreClosed : Type 0
FoundTermsAreClosed =
    (locals : List SimpleType) (t v : Lambda) (bindings found : Bindings)
    → Each StandsForClosed bindings
    → match_term locals t v bindings ≡ Some found
    → Each StandsForClosed found
