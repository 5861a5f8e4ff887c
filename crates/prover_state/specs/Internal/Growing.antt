-- Tables that grow.
use Rattle.std.specs.Prelude.{◌≡◌, ◌≤◌, suc, List, ◌++◌, length}
use Rattle.std.specs.List.{All}
use Rattle.search_spec.specs.State.{State}
use Rattle.term_bank.specs.Content.{Grows}
use Rattle.literal_map.specs.Atoms.{Begins}
use Rattle.tableau_rules.specs.Changes.{Widens}
use Rattle.prover_state.specs.declared.tables.Basis.{Basis}
use Rattle.prover_state.specs.Internal.Names.{Naming, IsPlace}

-- the second list is the first one with further elements behind it
abbrev pub Longer : {X : Type 0} → List X → List X → Type 0
Longer {X} xs ys = (more : List X) × (ys ≡ xs ++ more)

-- each number of the first names has what it stands for in the second ones
pub record Continues (old new : Naming) : Type 0 where
  pub within : All (IsPlace old.terms) old.atoms
  pub terms : Longer old.terms new.terms
  pub atoms : Longer old.atoms new.atoms
  pub sketches : Longer old.sketches new.sketches

-- further terms and atoms stand behind the earlier ones
pub record BasisGrows (old new : Basis) : Type 0 where
  pub bank : Grows old.bank new.bank
  pub lits : Begins old.lits new.lits
  pub witnesses : new.witnesses ≡ old.witnesses

-- further terms, atoms and witnesses stand behind the earlier ones, one witness at most
pub record BasisWidens (old new : Basis) : Type 0 where
  pub bank : Widens old.bank new.bank
  pub lits : Begins old.lits new.lits
  pub witnesses : Longer old.witnesses new.witnesses
  pub few : length new.witnesses ≤ suc (length old.witnesses)

-- what loops go over has become longer, and what is offered to holes is the same
pub record ExtendsState (old new : State) : Type 0 where
  pub noted : Longer old.noted new.noted
  pub terms : Longer old.terms new.terms
  pub rows : Longer old.rows new.rows
  pub parked : Longer old.parked new.parked
  pub offers : new.offers ≡ old.offers
