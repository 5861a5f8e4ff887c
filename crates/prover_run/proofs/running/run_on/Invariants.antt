use Rattle.std.proofs.Common.{◌≡◌, false}
use Rattle.search_spec.specs.Result.{GoesOnUntil}
use Rattle.prover_state.specs.Internal.Standing.{setting_by}
use Rattle.prover_search.specs.Internal.Running.{start_in, IsUnderWay}
use Rattle.prover_run.proofs.running.run_on.Given as goal

abbrev pub invariant-loop-commands : goal.invariant-loop-commands
invariant-loop-commands g l =
    let t0 = l.fn.search.core.tables in
    let q0 = l.fn.search.core.plan in
    let t = l.search.core.tables in
    let q = l.search.core.plan in
    record {
      under_way : IsUnderWay t q l.search.mode;
      mode : l.search.mode ≡ l.fn.search.mode;
      ready : l.search.is_refused ≡ false;
      done : t.done ≡ l._commands;
      setting : setting_by t q ≡ setting_by t0 q0;
      start : start_in t ≡ start_in t0;
      until : GoesOnUntil (setting_by t0 q0) (start_in t0) l._commands;
    }
