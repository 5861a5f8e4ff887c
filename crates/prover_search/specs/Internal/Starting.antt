-- Start units.
use Rattle.std.specs.Prelude.{◌≡◌, [], ◌∷◌, ◌++◌, true, false, if◌then◌else◌, List, map, filter}
use Rattle.std.specs.List.{list_any}
use Rattle.stt_core.specs.PlainProblem.{PlainProblem}
use Rattle.tableau_calculus.specs.Literals.{Literal}
use Rattle.sat_base.specs.declared.literal.SatLit.{SatLit}
use Rattle.command_queue.specs.Queue.{Queue}
use Rattle.search_spec.specs.After.{nothing_yet}
use Rattle.search_spec.specs.Heads.{HeadOffers}
use Rattle.search_spec.specs.State.{State, Setting, process, with_commands}
use Rattle.head_offers.specs.Offering.{the_offers}
use Rattle.search_spec.specs.Clauses.{same_clause}
use Rattle.search_spec.specs.Numbered.{numbers}
use Rattle.search_spec.specs.Shallow.{is_shallow_literal}
use Rattle.literal_map.specs.Atoms.{bank_literal}
use Rattle.problem_start.specs.Unfolds.{start_literals, AreStartNumbers}
use Rattle.tableau_clauses.specs.declared.origin.Origin.TheVariants.{Start}
use Rattle.tableau_clauses.specs.Table.{Table, the_clauses}
use Rattle.prover_state.specs.declared.command.Planned.{Planned}
use Rattle.prover_state.specs.declared.command.Delays.{Delays}
use Rattle.prover_state.specs.declared.tables.Tables.{Tables}
use Rattle.prover_state.specs.declared.tables.Basis.{Basis}
use Rattle.prover_state.specs.Internal.Growing.{BasisGrows}
use Rattle.prover_state.specs.Internal.Standing.{setting_by, the_state, IsBasis, IsRightState}
use Rattle.prover_search.specs.Internal.Running.{start_in}

-- the literal's clause stands behind the earlier ones as a start unit, unless it is one of them
pub record AddsUnit (lit : SatLit) (old new : Table) : Type 0 where
  pub clauses : new.0 ≡ (if list_any (same_clause numbers (lit ∷ [])) (the_clauses old) then old.0 else old.0 ++ (lit ∷ [], Start) ∷ [])
  pub instances : new.1 ≡ old.1

-- the start of a run from these literals, where this is offered to holes
abbrev pub start_offering : HeadOffers → Setting → List Literal → State
start_offering offers setting start =
    let literals = filter is_shallow_literal start in
    with_commands setting.mode (map process literals)
    (record nothing_yet { clauses = map (λ l. l ∷ []) literals; seen = literals; offers = offers })

-- tables that began as the first ones, to which these literals of the start were added
pub record IsStarting (t0 : Tables) (q0 : Queue Planned Delays) (t : Tables) (q : Queue Planned Delays) (ls : List Literal) : Type 0 where
  pub state : the_state t q ≡ start_offering (the_offers t0.offers) (setting_by t0 q0) ls
  pub right : IsRightState t q
  pub basis : BasisGrows t0.basis t.basis
  pub units : start_in t ≡ filter is_shallow_literal ls
  pub instances : t.steps.1 ≡ []
  pub rule : q.rule ≡ q0.rule

-- what a literal of the start adds to the steps, unless it is too deep
pub record AddsStart (lit : SatLit) (t u : Tables) : Type 0 where
  pub deep : is_shallow_literal (bank_literal t.basis.bank.terms t.basis.lits lit) ≡ false → u.steps ≡ t.steps
  pub unit : is_shallow_literal (bank_literal t.basis.bank.terms t.basis.lits lit) ≡ true → AddsUnit lit t.steps u.steps

-- Terms, numbers of atoms and literals that stand for the start of the problem. There are no witnesses yet.
pub record IsPreparedFor (p : PlainProblem) (g : Basis) (lits : List SatLit) : Type 0 where
  pub basis : IsBasis g
  pub bases : g.bank.bases ≡ p.declared.bases
  pub consts : g.bank.consts ≡ p.declared.consts
  pub unwitnessed : g.witnesses ≡ []
  pub numbers : AreStartNumbers g.bank g.lits (start_literals p) lits
