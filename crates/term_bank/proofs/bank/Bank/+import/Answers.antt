use Rattle.std.proofs.Common.{◌<◌, arith}
use Rattle.stt_core.specs.Lambda.{node_count, applied}
use Rattle.stt_core.specs.View.{the_head, the_type}
use Rattle.stt_core.proofs.HeadLaws.{atom_head}
use Rattle.stt_core.proofs.SizeLaws.{argument_smaller}
use Rattle.term_bank.proofs.GrowLaws.{has_within}
use Rattle.term_bank.proofs.TreeLaws.{one_imported, argument_ready, spine_ready, binder_ready, binder_imported}
use Rattle.term_bank.proofs.bank.Bank.+import.Goals as goal

pub import-requires : goal.import-requires
import-requires t c =
    let i = c.nf.inside in
    let h : node_count c.at.result.now < node_count c.args.nf.now = argument_smaller i.binders (the_head i.head) i.args c.args.nf.now c.nf.view_is c.loop-i.i c.at.result.now c.at.ensures in
    (omega (arith, c.decreases, h), argument_ready c.args.self.now c.loop-i.self i.binders (the_head i.head) i.args c.args.nf.now c.loop-i.i c.at.result.now (atom_head i.head) c.loop-i.invariant.grows c.nf.view_is c.requires c.at.ensures)

pub loop-i-preserved : goal.loop-i-preserved
loop-i-preserved t c =
    one_imported c.args.self.now c.loop-i.self c.import.new.self c.nf.inside.args c.loop-i.i c.at.result.now c.loop-i.args c.push.new.self c.in_ok-arg.arg c.loop-i.invariant c.at.ensures c.in_ok-arg.ensures.grows c.in_ok-arg.ensures.term c.in_ok-push.ensures.ok

pub intern_app-requires-clause-typed : goal.intern_app-requires-clause-typed
intern_app-requires-clause-typed t c =
    let i = c.nf.inside in
    spine_ready c.args.self.now c.loop-i.self i.binders (the_head i.head) i.args c.args.nf.now c.loop-i.args c.as_slice.result.now c.loop-i.i c.loop-i.invariant.grows c.nf.view_is c.requires c.loop-i.invariant c.as_slice.ensures (omega (arith, c.len-i-end.ensures))

pub intern_lam-requires-clause-within : goal.intern_lam-requires-clause-within
intern_lam-requires-clause-within t c = has_within c.loop-k.self c.loop-k.id _ c.loop-k.invariant.has

pub intern_lam-requires-clause-typed : goal.intern_lam-requires-clause-typed
intern_lam-requires-clause-typed t c =
    let i = c.nf.inside in
    binder_ready c.args.self.now c.loop-k.self i.binders c.len-count.result c.loop-k.k (the_type c.at-in-loop-k.result.now) (applied (the_head i.head) i.args) c.args.nf.now c.loop-k.id c.loop-k.invariant.grows c.nf.view_is c.requires c.loop-k-test.true c.at-in-loop-k.ensures c.loop-k.invariant.has

pub loop-k-preserved : goal.loop-k-preserved
loop-k-preserved t c =
    let i = c.nf.inside in
    binder_imported c.args.self.now c.loop-k.self c.intern_lam.new.self i.binders c.len-count.result c.loop-k.k (the_type c.at-in-loop-k.result.now) (applied (the_head i.head) i.args) c.loop-k.id c.in_ok-id-2.id c.loop-k.invariant c.loop-k-test.true c.at-in-loop-k.ensures c.in_ok-id-2.ensures.grows c.in_ok-id-2.ensures.term
