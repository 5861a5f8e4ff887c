use Rattle.std.proofs.Common.{◌≡◌, drop}
use Rattle.sat_log.specs.Resolution.{HasNoRepeats}
use Rattle.sat_log.specs.Chains.{after_steps, results}
use Rattle.sat_log.proofs.log.resolve_steps.Given as goal

-- what is left to do makes of the clause so far what all steps make of the first one
abbrev pub invariant-loop-step : goal.invariant-loop-step
invariant-loop-step l = record {
  once : HasNoRepeats l.resolver;
  ahead : after_steps l.clauses (results l.entries) l.resolver (drop l.step-index l.steps) ≡ after_steps l.clauses (results l.entries) l.fn.resolver l.steps;
}
