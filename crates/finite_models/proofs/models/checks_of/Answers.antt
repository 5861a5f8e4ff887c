use Rattle.finite_models.specs.Internal.Stands.{frame_scope}
use Rattle.finite_models.proofs.LookLaws.{checks_more}
use Rattle.finite_models.proofs.models.checks_of.Goals as goal

pub compile_formula-requires-clause-term : goal.compile_formula-requires-clause-term
compile_formula-requires-clause-term c = c.requires.formulas c.loop-i.i c.at.result.now c.at.ensures

pub loop-i-preserved : goal.loop-i-preserved
loop-i-preserved c =
    let r = checks_more (frame_scope c.args.frame.now) c.args.frame.now.size c.args.frame.now.choosers.now c.args.assumed c.args.formulas.now c.loop-i.checks.items c.push.new.self.items c.loop-i.i c.at.result.now _ c.loop-i.invariant.count c.at.ensures c.loop-i.invariant.each (record { stands = c.in_ok-expr.ensures; wanted = c.wanted_at-wanted.ensures; reach = c.reach-reach.ensures }) c.in_ok-push.ensures.items in
    record { count = r.0; each = r.1 }
