-- Where only the room of an agenda changes.
use Rattle.std.specs.Prelude.{◌≡◌, ◌≤◌, List, length}
use Rattle.std.proofs.Common.{sym, ap₂, subst}
use Rattle.sat_core.specs.Solver.{learned}
use Rattle.command_queue.specs.declared.entry.Entry.{Entry}
use Rattle.command_queue.specs.Queue.{Queue, GainsRoom}
use Rattle.tableau_calculus.specs.Each.{Each}
use Rattle.search_spec.specs.Internal.Loops.{queue_of}
use Rattle.prover_state.specs.declared.command.Planned.{Planned}
use Rattle.prover_state.specs.declared.command.Delays.{Delays}
use Rattle.prover_state.specs.declared.tables.Tables.{Tables}
use Rattle.prover_state.specs.Internal.Pending.{IsEntry}
use Rattle.prover_state.specs.Internal.Standing.{without_witnesses, naming_in, sources, state_parts, loops_in, the_state, IsRightState}

pub state-room : (t : Tables) (q q' : Queue Planned Delays) → GainsRoom q q' → the_state t q' ≡ the_state t q
state-room t q q' room = ap₂ (λ es n. record (state_parts t) { queue = queue_of (loops_in t es); pushes = n }) room.entries room.pushes

pub right-room : (t : Tables) (q q' : Queue Planned Delays) → GainsRoom q q' → IsRightState t q → IsRightState t q'
right-room t q q' room r =
    let B : Delays → Type 0 = λ d. length (learned t.solver) ≤ d.mode.conflicts in
    let Q : List (Entry Planned) → Type 0 = λ es. Each (λ e. IsEntry (without_witnesses t.basis.bank) (naming_in t) (sources t) e.command) es in
    record {
      basis = r.basis;
      clauses = r.clauses;
      solver = r.solver;
      seen = r.seen;
      noted = r.noted;
      universals = r.universals;
      terms = r.terms;
      chosen = r.chosen;
      described = r.described;
      walked = r.walked;
      taken = r.taken;
      index = r.index;
      paired = r.paired;
      offered = r.offered;
      takers = r.takers;
      stems = r.stems;
      open_holes = r.open_holes;
      roots = r.roots;
      holes = r.holes;
      budget = subst B (sym room.rule) r.budget;
      queue = subst Q (sym room.entries) r.queue;
    }
