use Rattle.std.proofs.Common.{arith}
use Rattle.tableau_rules.proofs.SpineLaws.{takes_length, takes_at, differs_more, differs_all}
use Rattle.tableau_rules.proofs.TypedLaws.{sides_grown}
use Rattle.tableau_rules.proofs.spine.differences.Goals as goal

pub at-requires-in-loop-i : goal.at-requires-in-loop-i
at-requires-in-loop-i c =
    let k = c.args.arguments.now in
    omega (arith, takes_length c.args.bank.now c.requires.0 k.left k.right c.requires.1, c.loop-i-test.true, c.len-i-end.ensures)

pub differ-requires : goal.differ-requires
differ-requires c =
    let k = c.args.arguments.now in
    let b = c.args.bank.now in
    let at = takes_at b c.requires.0 k.left k.right c.loop-i.i c.at.result c.at-in-loop-i.result c.requires.1 c.at.ensures c.at-in-loop-i.ensures in
    (at.0, sides_grown b c.loop-i.bank c.loop-i.invariant.grows at.0 c.at.result c.at-in-loop-i.result at.1)

pub loop-i-preserved : goal.loop-i-preserved
loop-i-preserved c =
    let k = c.args.arguments.now in
    differs_more c.args.bank.now c.loop-i.bank c.differ.new.bank k.left k.right c.loop-i.i c.at.result c.at-in-loop-i.result c.in_ok-signed.signed c.loop-i.drafts c.push.new.self c.in_ok-alone.field-0
    c.loop-i.invariant c.at.ensures c.at-in-loop-i.ensures c.differ.ensures.grows c.in_ok-signed.ensures.differs c.in_ok-alone.ensures c.in_ok-push.ensures.ok

pub returns-clause-differ : goal.returns-clause-differ
returns-clause-differ c =
    let k = c.args.arguments.now in
    differs_all c.args.bank.now c.loop-i.bank k.left k.right c.loop-i.i c.loop-i.drafts c.loop-i.invariant (omega (arith, c.loop-i-test.false, c.len-i-end.ensures)) (takes_length c.args.bank.now c.requires.0 k.left k.right c.requires.1)
