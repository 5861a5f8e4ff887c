use Rattle.std.proofs.Common.{◌≡◌, ◌∙◌}
use Rattle.std.proofs.lemmas.Result.{IfOk-weaker}
use Rattle.delta_defs.specs.Unfolding.{unfolded_problem}
use Rattle.delta_defs.proofs.KeptModels.{keeps_types}
use Rattle.prover_state.specs.Internal.Standing.{setting_by}
use Rattle.prover_search.specs.Internal.Running.{start_in}
use Rattle.prover_search.proofs.SearchLaws.{scope-same}
use Rattle.prover_run.specs.Ended.{setting_for, EndsAs}
use Rattle.prover_run.specs.Internal.Ends.{EndsFrom}
use Rattle.prover_run.proofs.RunLaws.{ends-as}
use Rattle.prover_run.proofs.running.run_by.Goals as goal

pub returns : goal.returns
returns g c =
    let p = unfolded_problem c.args.problem.now in
    let m = c.args.mode.now in
    let made = c.in_ok-search.ensures in
    let t = c.in_ok-search.search.core.tables in
    let q = c.in_ok-search.search.core.plan in
    let scope = scope-same p (keeps_types c.args.problem.now c.requires.typed) t.basis.bank made.bases made.consts in
    let mode = made.under_way.mode ∙ made.mode in
    let setting : setting_by t q ≡ setting_for p m = λ i. record { scope = scope i; mode = mode i } in
    IfOk-weaker c.run_on-ended.result (EndsFrom (setting_by t q) (start_in t) c.args.nodes) (EndsAs p m c.args.nodes) (ends-as p m (setting_by t q) (start_in t) setting made.start c.args.nodes) c.run_on-ended.ensures
