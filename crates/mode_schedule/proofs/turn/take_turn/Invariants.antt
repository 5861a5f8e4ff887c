use Rattle.std.proofs.Common.{◌≡◌, ◌+◌, false}
use Rattle.prover_state.specs.Internal.Standing.{setting_by}
use Rattle.prover_search.specs.Internal.Running.{start_in}
use Rattle.mode_schedule.specs.Internal.Searching.{IsAt}
use Rattle.mode_schedule.proofs.turn.take_turn.Given as goal

abbrev pub invariant-loop-commands : goal.invariant-loop-commands
invariant-loop-commands g l =
    let t0 = l.fn.search.core.tables in
    record {
      at : IsAt (setting_by t0 l.fn.search.core.plan) (start_in t0) (t0.done + l._commands) l.search.core.tables l.search.core.plan l.search.mode;
      ready : l.search.is_refused ≡ false;
      mode : l.search.mode ≡ l.fn.search.mode;
    }
