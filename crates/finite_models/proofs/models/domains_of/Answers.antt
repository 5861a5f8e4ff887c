use Rattle.std.proofs.Common.{[]}
use Rattle.stt_core.specs.ScopeView.{the_scope}
use Rattle.finite_models.specs.Symbols.{symbols_with}
use Rattle.finite_models.proofs.LookLaws.{domains_more}
use Rattle.finite_models.proofs.models.domains_of.Goals as goal

pub domain_of-requires-clause-size : goal.domain_of-requires-clause-size
domain_of-requires-clause-size c = c.requires.sizes.each c.loop-i.i

pub loop-i-preserved : goal.loop-i-preserved
loop-i-preserved c =
    let r = domains_more c.args.s (symbols_with (the_scope c.args.sig.now []) c.args.choosers.now) c.loop-i.domains c.push.new.self c.loop-i.i c.in_ok-allowed.allowed.items c.loop-i.invariant.count c.loop-i.invariant.each c.in_ok-allowed.ensures c.in_ok-push.ensures.ok in
    record { count = r.0; each = r.1 }
