-- Literals that say of a predicate that it doesn't hold everywhere, and the rows of their witnesses.
use Rattle.std.specs.Prelude.{◌≡◌, List, [], ◌∷◌, ◌++◌, if◌then◌else◌}
use Rattle.std.specs.List.{list_any}
use Rattle.sat_base.specs.declared.literal.SatLit.{SatLit}
use Rattle.stt_core.specs.SimpleType.{SimpleType}
use Rattle.stt_core.specs.Lambda.{Lambda, every}
use Rattle.tableau_calculus.specs.Literals.{minus}
use Rattle.tableau_calculus.specs.Witnesses.{Row}
use Rattle.literal_map.specs.Atoms.{bank_literal}
use Rattle.search_spec.specs.Witness.{same_row}
use Rattle.prover_state.specs.declared.tables.Basis.{Basis}

-- the literal says of the predicate on the type that it doesn't hold everywhere
abbrev pub Denies : Basis → SatLit → SimpleType → Lambda → Type 0
Denies g lit a f = bank_literal g.bank.terms g.lits lit ≡ minus (every a f)

-- the rows with this one, which comes last where it isn't there yet
abbrev pub with_row : List Row → Row → List Row
with_row rows r = if list_any (same_row r) rows then rows else rows ++ r ∷ []
