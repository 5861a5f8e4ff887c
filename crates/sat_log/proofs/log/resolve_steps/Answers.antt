use Rattle.std.proofs.Common.{get_or, sym, ◌∙◌}
use Rattle.sat_log.specs.Chains.{results}
use Rattle.sat_log.proofs.ChainLaws.{HasNoRepeats-resolved, after_step_is, after_steps_more}
use Rattle.sat_log.proofs.log.resolve_steps.Goals as goal

pub loop-step-preserved : goal.loop-step-preserved
loop-step-preserved c =
    let clauses = c.args.clauses.now in
    let outcomes = results c.args.entries.now in
    let steps = c.args.steps.now in
    let i = c.loop-step.step-index in
    let so_far = c.loop-step.resolver in
    let next = c.resolve.new.self in
    record {
      once = HasNoRepeats-resolved _ so_far _ next c.in_ok-resolve.ensures.ok;
      ahead =
          sym (after_steps_more clauses outcomes so_far next steps i _ c.loop-step-test.true
          (after_step_is clauses outcomes so_far next _ _ (get_or steps i _) c.premise_clause-premise.ensures c.as_slice.ensures c.in_ok-resolve.ensures.ok))
          ∙ c.loop-step.invariant.ahead;
    }
