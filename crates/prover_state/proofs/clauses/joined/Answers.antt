use Rattle.std.proofs.Common.{◌++◌, List, sym, ap, ◌∙◌}
use Rattle.sat_base.specs.declared.literal.SatLit.{SatLit}
use Rattle.prover_state.proofs.ShallowLaws.{joined_more}
use Rattle.prover_state.proofs.clauses.joined.Goals as goal

pub loop-i-preserved : goal.loop-i-preserved
loop-i-preserved c =
    sym (joined_more c.loop-i.all.items c.extend_from_slice.new.self.items c.args.lists.now c.loop-i.i c.at.result.now c.at.ensures
    (c.in_ok-extend_from_slice.ensures.items ∙ ap (λ (ls : List SatLit). c.loop-i.all.items ++ ls) c.as_slice.ensures))
    ∙ c.loop-i.invariant
