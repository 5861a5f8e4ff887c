use Rattle.std.proofs.Common.{◌++◌, ◌∙◌, ap, take_all, arith}
use Rattle.tableau_calculus.proofs.ChildLaws.{append_more}
use Rattle.stt_tableau.proofs.children.joined.Goals as goal

pub loop-i-preserved : goal.loop-i-preserved
loop-i-preserved c =
    append_more c.args.front.now c.args.back.now c.loop-i.i c.at.result.now c.loop-i.lits c.push.new.self c.in_ok-lit.lit c.at.ensures c.loop-i.invariant c.in_ok-lit.ensures c.in_ok-push.ensures.ok

pub returns : goal.returns
returns c = c.loop-i.invariant ∙ ap (λ l. c.args.front.now ++ l) (take_all c.loop-i.i c.args.back.now (omega (arith, c.len-i-end.ensures)))
