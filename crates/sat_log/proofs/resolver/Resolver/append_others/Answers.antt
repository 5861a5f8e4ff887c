use Rattle.std.proofs.Common.{◌++◌, List, take, sym, ap, ◌∙◌}
use Rattle.std.proofs.lemmas.Bool.{not-true, not-false}
use Rattle.sat_base.specs.declared.literal.SatLit.{SatLit}
use Rattle.sat_log.specs.Resolution.{without_literal, each_once}
use Rattle.sat_log.proofs.ResolutionLaws.{HasNoRepeats-made, added_more, others_more_kept, others_more_left}
use Rattle.sat_log.proofs.resolver.Resolver.append_others.Goals as goal
use Rattle.sat_log.proofs.resolver.Resolver.append_others.Goals.{then-ne+in_ok-add, else-ne}

pub add-requires : goal.add-requires
add-requires c =
    HasNoRepeats-made c.loop-literal.self (c.args.self.now ++ without_literal c.args.dropped (take c.loop-literal.literal-index c.args.literals.now)) c.loop-literal.invariant

pub loop-literal-preserved : goal.loop-literal-preserved
loop-literal-preserved c =
    let literals = c.args.literals.now in
    let i = c.loop-literal.literal-index in
    let clause = λ (r : List SatLit). each_once (c.args.self.now ++ r) in
    elim c.if-ne.branch [
      | then-ne+in_ok-add w ↦
          w.self-is
          ∙ added_more c.args.self.now (without_literal c.args.dropped (take i literals)) _ c.loop-literal.self w.add.new.self c.loop-literal.invariant w.in_ok-add.ensures.ok
          ∙ ap clause (sym (others_more_kept c.args.dropped literals i _ c.loop-literal-test.true (not-true _ (sym c.ne.ensures ∙ w.if-ne.true))))
      | else-ne w ↦
          w.self-is
          ∙ c.loop-literal.invariant
          ∙ ap clause (sym (others_more_left c.args.dropped literals i _ c.loop-literal-test.true (not-false _ (sym c.ne.ensures ∙ w.if-ne.false))))
    ]

pub returns-in_err-add-clause-once : goal.returns-in_err-add-clause-once
returns-in_err-add-clause-once c = HasNoRepeats-made c.add.new.self _ (c.in_err-add.ensures.err ∙ c.loop-literal.invariant)

pub returns-clause-once : goal.returns-clause-once
returns-clause-once c = HasNoRepeats-made c.loop-literal.self _ c.loop-literal.invariant
