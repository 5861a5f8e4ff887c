-- What calls of the search have in common.
use Rattle.std.specs.Prelude.{◌≡◌, ◌<◌, ◌-◌, ◌^◌, length}
use Rattle.stt_core.specs.Lambda.{Lambda}
use Rattle.tableau_calculus.specs.Literals.{Literal}
use Rattle.sat_base.specs.declared.literal.SatLit.{SatLit}
use Rattle.search_spec.specs.State.{State, Setting}
use Rattle.literal_map.specs.Atoms.{bank_atom, bank_literal}
use Rattle.prover_state.specs.declared.tables.Basis.{Basis}
use Rattle.prover_state.specs.declared.tables.Core.{Core}
use Rattle.prover_state.specs.Internal.Standing.{setting_by, the_state, IsRightState}

-- the atom of a numbered literal
abbrev pub the_atom : Basis → SatLit → Lambda
the_atom g l = bank_atom g.bank.terms g.lits l.var.0

-- the literal that a numbered literal is
abbrev pub the_literal : Basis → SatLit → Literal
the_literal g l = bank_literal g.bank.terms g.lits l

-- what is declared, and the mode
abbrev pub setting_in : {W : Type 0} → Core W → Setting
setting_in core = setting_by core.tables core.plan

-- the state that the search stands for
abbrev pub state_in : {W : Type 0} → Core W → State
state_in core = the_state core.tables core.plan

-- the search is right, and there is a number for one witness more
pub record IsReadyCore {W : Type 0} (core : Core W) : Type 0 where
  pub right : IsRightState core.tables core.plan
  pub few : length core.tables.basis.witnesses < 2 ^ 32 - 1

-- the search is right afterwards, and its mode is the same
pub record StaysRight {W : Type 0} (old new : Core W) : Type 0 where
  pub right : IsRightState new.tables new.plan
  pub rule : new.plan.rule ≡ old.plan.rule
