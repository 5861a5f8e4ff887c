-- How a command changes the tables.
use Rattle.std.specs.Prelude.{◌≡◌, ◌≤◌, suc, length}
use Rattle.literal_map.specs.Atoms.{Begins}
use Rattle.tableau_rules.specs.Changes.{Widens}
use Rattle.prover_state.specs.declared.tables.Basis.{Basis}
use Rattle.prover_state.specs.declared.tables.Core.{Core}
use Rattle.prover_state.specs.declared.tables.Tables.{Tables}
use Rattle.prover_state.specs.Internal.Growing.{Longer}
use Rattle.prover_state.specs.Internal.Standing.{IsRightState}
use Rattle.prover_state.specs.Internal.Steps.{IsMadeInstance, StepsGrow}

-- further terms, atoms and witnesses stand behind the earlier ones
pub record IsWider (old new : Basis) : Type 0 where
  pub bank : Widens old.bank new.bank
  pub lits : Begins old.lits new.lits
  pub witnesses : Longer old.witnesses new.witnesses

-- Further terms, atoms, witnesses, clauses and instances stand behind the earlier ones, each further instance is one of its rule, and the
-- number of commands is the same.
pub record Develops (old new : Tables) : Type 0 where
  pub basis : IsWider old.basis new.basis
  pub steps : StepsGrow (IsMadeInstance new.basis) old.steps new.steps
  pub done : new.done ≡ old.done

-- The search is right afterwards, its tables develop, it has one witness more at most, and its mode is the same.
pub record Advances {W : Type 0} (old new : Core W) : Type 0 where
  pub right : IsRightState new.tables new.plan
  pub develops : Develops old.tables new.tables
  pub witnesses : length new.tables.basis.witnesses ≤ suc (length old.tables.basis.witnesses)
  pub rule : new.plan.rule ≡ old.plan.rule

-- The search is right afterwards, its tables develop without a witness more, and its mode is the same.
pub record AdvancesAlone {W : Type 0} (old new : Core W) : Type 0 where
  pub right : IsRightState new.tables new.plan
  pub develops : Develops old.tables new.tables
  pub witnesses : new.tables.basis.witnesses ≡ old.tables.basis.witnesses
  pub rule : new.plan.rule ≡ old.plan.rule
