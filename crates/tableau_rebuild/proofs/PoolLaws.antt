-- Literals that were made of their numbers.
use Rattle.std.specs.Prelude.{◌≡◌, ℕ, true, List, map, option_map, Some, slice_get}
use Rattle.std.proofs.Common.{sym, ap, ◌∙◌}
use Rattle.std.proofs.lemmas.Option.{slice_get-map}
use Rattle.tableau_calculus.specs.Literals.{Literal}
use Rattle.sat_base.specs.declared.literal.SatLit.{SatLit}
use Rattle.sat_base.specs.Literal.{same_literal}
use Rattle.sat_base.proofs.LiteralLaws.{same_literal-true}

-- the literal of a number stands where the number does
pub made-at : (f : SatLit → Literal) (keys : List SatLit) (lits : List Literal) (place : ℕ) (literal : SatLit) → lits ≡ map f keys → (k : SatLit) × (slice_get keys place ≡ Some k) × (same_literal literal k ≡ true) → slice_get lits place ≡ Some (f literal)
made-at f keys lits place literal made stored =
    ap (λ ls. slice_get ls place) made
    ∙ slice_get-map f keys place
    ∙ ap (option_map f) stored.1
    ∙ ap (λ k. Some (f k)) (sym (same_literal-true literal stored.0 stored.2))
