use Rattle.std.proofs.Common.{[], arith}
use Rattle.stt_core.specs.ScopeView.{the_scope}
use Rattle.finite_models.specs.Symbols.{symbols_with}
use Rattle.finite_models.proofs.LookLaws.{not_all_small, sizes_more}
use Rattle.finite_models.proofs.RankLaws.{get_within}
use Rattle.finite_models.proofs.models.sizes_of.Goals as goal

pub returns-in-None : goal.returns-in-None
returns-in-None c =
    let xs = symbols_with (the_scope c.args.sig.now []) c.args.choosers.now in
    let l = c.in_ok-count.ensures in
    not_all_small c.args.s xs c.loop-i.i (omega arith) c.in-None.ensures

pub loop-i-preserved : goal.loop-i-preserved
loop-i-preserved c =
    let xs = symbols_with (the_scope c.args.sig.now []) c.args.choosers.now in
    let r = sizes_more c.args.s xs c.loop-i.sizes.items c.push.new.self.items c.loop-i.i c.in-Some.size c.loop-i.invariant.count c.loop-i.invariant.each c.in-Some.ensures c.in_ok-push-in-Some.ensures.items in
    record { count = r.0; each = r.1 }

pub returns : goal.returns
returns c =
    let xs = symbols_with (the_scope c.args.sig.now []) c.args.choosers.now in
    let e = c.in_ok-count.ensures in
    let n = c.loop-i.invariant.count in
    record { count = omega arith; each = λ i x g. c.loop-i.invariant.each i (let l = get_within xs i x g in omega arith) x g }
