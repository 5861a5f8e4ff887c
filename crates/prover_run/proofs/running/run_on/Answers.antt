use Rattle.std.proofs.Common.{refl}
use Rattle.prover_state.specs.Internal.Standing.{setting_by}
use Rattle.prover_search.specs.Internal.Running.{start_in}
use Rattle.prover_run.proofs.RunLaws.{until-nothing}
use Rattle.prover_run.proofs.running.run_on.Goals as goal

pub loop-commands-init : goal.loop-commands-init
loop-commands-init g c =
    let t = c.args.search.now.core.tables in
    let q = c.args.search.now.core.plan in
    record {
      under_way = c.requires.under_way;
      mode = refl;
      ready = c.requires.ready;
      done = c.requires.done;
      setting = refl;
      start = refl;
      until = until-nothing (setting_by t q) (start_in t);
    }
