-- The state that the tables stand for.
use Rattle.std.specs.Prelude.{◌≡◌, ◌≤◌, ◌&&◌, ◌||◌, not, ℕ, suc, Bool, List, [], ◌∷◌, map, filter, length, if◌then◌else◌}
use Rattle.std.specs.List.{All, list_any}
use Rattle.stt_core.specs.SimpleType.{SimpleType, base, same_type}
use Rattle.stt_core.specs.Lambda.{Lambda}
use Rattle.stt_core.specs.Typing.{Scope}
use Rattle.tableau_calculus.specs.Witnesses.{Row, with_rows}
use Rattle.sat_base.specs.declared.literal.SatLit.{SatLit}
use Rattle.tableau_calculus.specs.Each.{Each}
use Rattle.search_spec.specs.Heads.{places_to}
use Rattle.search_spec.specs.Partners.{has_equal_sides}
use Rattle.search_spec.specs.Terms.{ranges_over}
use Rattle.search_spec.specs.Witness.{has_hole_of}
use Rattle.search_spec.specs.State.{State, Setting, Sketch, Command}
use Rattle.search_spec.specs.After.{nothing_yet}
use Rattle.search_spec.specs.Internal.Loops.{Loop, queue_of}
use Rattle.term_bank.specs.Content.{Content}
use Rattle.term_bank.specs.Terms.{term_at}
use Rattle.bank_normal.specs.Right.{IsRightNormaliser as IsRightMemo}
use Rattle.literal_map.specs.Atoms.{bank_atom, bank_literal, IsAtom}
use Rattle.witness_names.specs.Rows.{rows_of, AreRows}
use Rattle.tableau_clauses.specs.Table.{the_clauses}
use Rattle.mating_rules.specs.Noted.{IsRightIndex}
use Rattle.instantiate.specs.Listing.{ids_of}
use Rattle.sat_core.specs.Solver.{learned}
use Rattle.command_queue.specs.declared.entry.Entry.{Entry}
use Rattle.command_queue.specs.Queue.{Queue}
use Rattle.prover_state.specs.declared.command.Planned.{Planned}
use Rattle.prover_state.specs.declared.command.Delays.{Delays}
use Rattle.prover_state.specs.declared.tables.Basis.{Basis}
use Rattle.prover_state.specs.declared.tables.Tables.{Tables}
use Rattle.prover_state.specs.Internal.Names.{Naming, typed_at, IsNumberIn, IsPlace}
use Rattle.prover_state.specs.Internal.Heads.{sketches_of, AreStems}
use Rattle.prover_state.specs.Internal.Holes.{holes_in}
use Rattle.head_offers.specs.Offering.{the_offers}
use Rattle.prover_state.specs.Internal.Offering.{ListsOffers}
use Rattle.prover_state.specs.Internal.Pending.{loop_at, IsEntry}
use Rattle.prover_state.specs.Internal.Selecting.{AreTaken}

-- what is declared, without witnesses
abbrev pub without_witnesses : Content → Scope
without_witnesses b = record { bases = length b.bases; names = map (λ c. c.type) b.consts; witnesses = [] }

abbrev pub rows_in : Basis → List Row
rows_in g = rows_of g.bank.terms g.witnesses

-- what is declared, with the witnesses
abbrev pub scope_by : Basis → Scope
scope_by g = with_rows (without_witnesses g.bank) (rows_in g)

abbrev pub setting_by : Tables → Queue Planned Delays → Setting
setting_by t q = record { scope = without_witnesses t.basis.bank; mode = q.rule.mode }

abbrev pub sketches_in : Tables → List Sketch
sketches_in t = sketches_of (scope_by t.basis) t.stems.items

abbrev pub naming_in : Tables → Naming
naming_in t = record { terms = t.basis.bank.terms; atoms = t.basis.lits; sketches = sketches_in t }

-- the state without the commands that wait
abbrev pub state_parts : Tables → State
state_parts t = record {
  clauses = map (map (bank_literal t.basis.bank.terms t.basis.lits)) (the_clauses t.steps);
  seen = map (bank_literal t.basis.bank.terms t.basis.lits) t.seen;
  noted = map (bank_literal t.basis.bank.terms t.basis.lits) t.noted.items;
  terms = map (typed_at t.basis.bank.terms) t.terms;
  chosen = map (term_at t.basis.bank.terms) t.chosen;
  described = map (term_at t.basis.bank.terms) t.described;
  rows = rows_in t.basis;
  parked = sketches_in t;
  queue = [];
  pushes = 0;
  done = t.done;
  moment = t.moment;
  offers = the_offers t.offers;
}

-- of the state, what loops of commands go over
abbrev pub sources : Tables → State
sources t = record nothing_yet {
  noted = map (bank_literal t.basis.bank.terms t.basis.lits) t.noted.items;
  terms = map (typed_at t.basis.bank.terms) t.terms;
  rows = rows_in t.basis;
  parked = sketches_in t;
  offers = the_offers t.offers;
}

-- the loops of the commands that wait
abbrev pub loops_in : Tables → List (Entry Planned) → List (Loop Command)
loops_in t entries = map (loop_at (without_witnesses t.basis.bank) (naming_in t) (sources t)) entries

-- the state that the tables and the commands that wait stand for
abbrev pub the_state : Tables → Queue Planned Delays → State
the_state t q = record (state_parts t) { queue = queue_of (loops_in t q.entries); pushes = q.pushes }

-- whether a literal says of a predicate on the type that it holds everywhere
abbrev pub is_universal : List Lambda → List ℕ → SimpleType → SatLit → Bool
is_universal terms atoms a l = l.positive && ranges_over a (bank_atom terms atoms l.var.0)

-- whether a literal can be the partner of another one: a negated equation with equal sides is none
abbrev pub can_pair : List Lambda → List ℕ → SatLit → Bool
can_pair terms atoms l = l.positive || not (has_equal_sides (bank_atom terms atoms l.var.0))

-- the places of the elements that pass a test, from a number on
abbrev pub places_where : {X : Type 0} → (X → Bool) → ℕ → List X → List ℕ
places_where test n [] = []
places_where test n (x ∷ xs) = if test x then n ∷ places_where test (suc n) xs else places_where test (suc n) xs

-- atoms, rows and what was worked out are right over the bank, and the witnesses with types are those of the rows
pub record IsBasis (g : Basis) : Type 0 where
  pub atoms : All (IsAtom g.bank) g.lits
  pub rows : AreRows g.bank g.witnesses
  pub typed : map (λ r. r.type) (rows_in g) ≡ g.bank.witnesses
  pub memo : IsRightMemo g.normal g.bank

-- the numbers in the tables are those of atoms, terms and partial terms, and what is kept twice agrees
pub record IsRightState (t : Tables) (q : Queue Planned Delays) : Type 0 where
  pub basis : IsBasis t.basis
  pub clauses : Each (Each (IsNumberIn t.basis.lits)) (the_clauses t.steps)
  pub solver : t.solver.clauses ≡ the_clauses t.steps
  pub seen : Each (IsNumberIn t.basis.lits) t.seen
  pub noted : Each (IsNumberIn t.basis.lits) t.noted.items
  pub index : IsRightIndex t.basis.bank.terms t.basis.lits t.index
  pub paired : t.index.noted ≡ filter (can_pair t.basis.bank.terms t.basis.lits) t.noted.items
  pub universals : (a : SimpleType) → ids_of a t.universals ≡ places_where (is_universal t.basis.bank.terms t.basis.lits a) 0 t.noted.items
  pub terms : Each (λ u. IsPlace t.basis.bank.terms u.1) t.terms
  pub chosen : Each (IsPlace t.basis.bank.terms) t.chosen
  pub described : Each (IsPlace t.basis.bank.terms) t.described
  pub walked : Each (IsPlace t.basis.bank.terms) t.walked
  pub taken :
      AreTaken (map (term_at t.basis.bank.terms) t.chosen) (map (term_at t.basis.bank.terms) t.described) t.basis.bank.terms t.walked
  pub offered : ListsOffers (the_offers t.offers) t.names t.bases.items (without_witnesses t.basis.bank)
  pub takers : (n : ℕ) → ids_of (base n) t.takers ≡ places_to n 0 (map (λ r. r.type) (rows_in t.basis))
  pub stems : AreStems (scope_by t.basis) [] t.stems.items
  pub open_holes : t.open_holes ≡ map (λ p. holes_in [] p.partial) (sketches_in t)
  pub roots : (a : SimpleType) → list_any (λ p. same_type a p.type) (sketches_in t) ≡ list_any (same_type a) t.roots
  pub holes : (n : ℕ) → ids_of (base n) t.holes ≡ places_where (has_hole_of n) 0 (sketches_in t)
  pub budget : length (learned t.solver) ≤ q.rule.mode.conflicts
  pub queue : Each (λ e. IsEntry (without_witnesses t.basis.bank) (naming_in t) (sources t) e.command) q.entries
