use Rattle.std.proofs.Common.{◌∙◌, take_all, arith, refl}
use Rattle.stt_core.proofs.ListLaws.{copy_more}
use Rattle.tableau_calculus.proofs.lit.Lits.try_clone.Goals as goal

pub loop-i-preserved : goal.loop-i-preserved
loop-i-preserved c =
    let lit = c.at-lit.result.now in
    copy_more c.args.self.now c.loop-i.i lit c.loop-i.lits c.share.new.self lit c.at-lit.ensures c.loop-i.invariant refl (c.in_ok-share.ensures.ok lit c.at-lit.ensures)

pub returns : goal.returns
returns c = c.loop-i.invariant ∙ take_all c.loop-i.i c.args.self.now (omega (arith, c.len-i-end.ensures))
