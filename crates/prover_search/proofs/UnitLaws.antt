-- The start units where further steps come.
use Rattle.std.specs.Prelude.{◌≡◌, ◌≢◌, List, [], ◌∷◌, ◌++◌, map, refl}
use Rattle.std.proofs.Common.{ap, ap₂, ◌∙◌, append-nil}
use Rattle.sat_base.specs.declared.literal.SatLit.{SatLit}
use Rattle.tableau_calculus.specs.Each.{Each}
use Rattle.search_spec.proofs.NamingLaws.{each-joined}
use Rattle.literal_map.specs.Atoms.{bank_literal}
use Rattle.literal_map.specs.declared.instance.Instance.{Instance}
use Rattle.tableau_clauses.specs.declared.origin.Origin.{Origin}
use Rattle.tableau_clauses.specs.declared.origin.Origin.TheVariants.{Start, Instance as From}
use Rattle.tableau_clauses.specs.Table.{Step, Table, clauses_in, units_in, start_units}
use Rattle.tableau_clauses.proofs.UnitLaws.{units-append}
use Rattle.prover_state.specs.declared.tables.Tables.{Tables}
use Rattle.prover_state.specs.Internal.Names.{IsNumberIn}
use Rattle.prover_state.specs.Internal.Standing.{IsBasis}
use Rattle.prover_state.specs.Internal.Steps.{StepsGrow}
use Rattle.prover_search.specs.Internal.Developing.{IsWider}
use Rattle.prover_search.specs.Internal.Running.{start_in}
use Rattle.prover_search.proofs.MadeStays.{literals-wider}

no_unit : (clause : List SatLit) (o : Origin) → o ≢ Start → units_in clause o ≡ []
no_unit clause Start h = absurd (h refl)
no_unit clause (From k) h = refl

no_units : (steps : List Step) → Each (λ s. s.1 ≢ Start) steps → start_units steps ≡ []
no_units [] h = refl
no_units (s ∷ steps) h = ap₂ (λ ls ks. ls ++ ks) (no_unit s.0 s.1 h.0) (no_units steps h.1)

pub units-grow : (Good : Instance → Type 0) (old new : Table) → StepsGrow Good old new → start_units new.0 ≡ start_units old.0
units-grow Good old new g = ap start_units g.clauses ∙ units-append old.0 g.further ∙ ap (λ ls. start_units old.0 ++ ls) (no_units g.further g.made) ∙ append-nil (start_units old.0)

unit_good : (P : SatLit → Type 0) (clause : List SatLit) (o : Origin) → Each P clause → Each P (units_in clause o)
unit_good P clause Start h = h
unit_good P clause (From k) h = tt

-- what holds of the literals of all clauses holds of the start units
pub units-good : (P : SatLit → Type 0) (steps : List Step) → Each (Each P) (clauses_in steps) → Each P (start_units steps)
units-good P [] h = tt
units-good P (s ∷ steps) h = each-joined P (units_in s.0 s.1) (start_units steps) (unit_good P s.0 s.1 h.0) (units-good P steps h.1)

-- the literals of the start units stay
pub start-stays : (t u : Tables) → IsBasis t.basis → IsWider t.basis u.basis → Each (Each (IsNumberIn t.basis.lits)) (clauses_in t.steps.0) → start_units u.steps.0 ≡ start_units t.steps.0 → start_in u ≡ start_in t
start-stays t u good w numbers same =
    ap (map (bank_literal u.basis.bank.terms u.basis.lits)) same
    ∙ literals-wider t.basis u.basis good w (start_units t.steps.0) (units-good (IsNumberIn t.basis.lits) t.steps.0 numbers)
