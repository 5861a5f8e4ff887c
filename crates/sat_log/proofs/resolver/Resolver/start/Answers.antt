use Rattle.std.proofs.Common.{[], take, sym, ap, ◌∙◌}
use Rattle.std.proofs.lemmas.List.{take_more}
use Rattle.sat_log.specs.Resolution.{each_once}
use Rattle.sat_log.proofs.ResolutionLaws.{HasNoRepeats-made, added_more}
use Rattle.sat_log.proofs.resolver.Resolver.start.Goals as goal

pub add-requires : goal.add-requires
add-requires c = HasNoRepeats-made c.loop-literal.self (take c.loop-literal.literal-index c.args.literals.now) c.loop-literal.invariant

pub loop-literal-preserved : goal.loop-literal-preserved
loop-literal-preserved c =
    let literals = c.args.literals.now in
    let i = c.loop-literal.literal-index in
    added_more [] (take i literals) _ c.loop-literal.self c.add.new.self c.loop-literal.invariant c.in_ok-add.ensures.ok
    ∙ ap each_once (sym (take_more literals i _ c.loop-literal-test.true))

pub returns-in_err-add-clause-once : goal.returns-in_err-add-clause-once
returns-in_err-add-clause-once c = HasNoRepeats-made c.add.new.self _ (c.in_err-add.ensures.err ∙ c.loop-literal.invariant)

pub returns-clause-once : goal.returns-clause-once
returns-clause-once c = HasNoRepeats-made c.loop-literal.self _ c.loop-literal.invariant
