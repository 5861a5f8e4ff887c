use Rattle.std.proofs.Common.{Some, IsSome, sym, ap, subst, ◌∙◌}
use Rattle.sat_log.specs.Chains.{results}
use Rattle.sat_log.proofs.ResolutionLaws.{HasNoRepeats-made}
use Rattle.sat_log.proofs.ChainLaws.{after_steps-started}
use Rattle.sat_log.proofs.log.outcome.Goals as goal

pub resolve_steps-requires-clause-once : goal.resolve_steps-requires-clause-once
resolve_steps-requires-clause-once c = HasNoRepeats-made c.start.new.self c.as_slice.result.now c.in_ok-start.ensures.ok

pub resolve_steps-requires-clause-derives : goal.resolve_steps-requires-clause-derives
resolve_steps-requires-clause-derives c =
    subst IsSome
    (sym (after_steps-started c.args.clauses.now (results c.args.entries.now) c.args.first.now c.as_slice.result.now c.start.new.self c.args.steps.now
    c.requires.some_steps c.as_slice.ensures c.in_ok-start.ensures.ok))
    c.requires.derives

pub returns : goal.returns
returns c =
    sym (after_steps-started c.args.clauses.now (results c.args.entries.now) c.args.first.now c.as_slice.result.now c.start.new.self c.args.steps.now
    c.requires.some_steps c.as_slice.ensures c.in_ok-start.ensures.ok)
    ∙ c.in_ok-resolve_steps.ensures
    ∙ ap Some (sym c.in_ok-to_clause.ensures)
