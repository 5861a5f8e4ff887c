use Rattle.std.proofs.Common.{arith}
use Rattle.stt_core.specs.View.{the_head}
use Rattle.stt_core.proofs.SizeLaws.{argument_smaller}
use Rattle.test_tables.proofs.notation.+write_nf.Goals as goal

pub write_nf-requires : goal.write_nf-requires
write_nf-requires t c =
    let i = c.nf.inside in
    let smaller = argument_smaller i.binders (the_head i.head) i.args c.args.nf.now c.nf.view_is c.loop-i-2.i c.at-in-loop-i-2.result.now c.at-in-loop-i-2.ensures in
    (omega (arith, c.decreases, smaller), tt)
