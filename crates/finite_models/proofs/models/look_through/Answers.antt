use Rattle.std.proofs.Common.{[]}
use Rattle.stt_core.specs.ScopeView.{the_scope}
use Rattle.finite_models.specs.Symbols.{symbols_with}
use Rattle.finite_models.proofs.GlueLaws.{domains_few, to_candidate}
use Rattle.finite_models.proofs.LookLaws.{ready_of}
use Rattle.finite_models.proofs.models.look_through.Goals as goal

pub first_sorted-requires-clause-few : goal.first_sorted-requires-clause-few
first_sorted-requires-clause-few c =
    domains_few c.args.s (symbols_with (the_scope c.args.sig.now []) c.args.choosers.now) c.args.sizes.now c.in_ok-domains.domains c.requires.sizes c.in_ok-domains.ensures

pub first_sorted-requires-clause-ready : goal.first_sorted-requires-clause-ready
first_sorted-requires-clause-ready c = λ vs a.
    let scope = the_scope c.args.sig.now [] in
    let k = to_candidate c.args.s (symbols_with scope c.args.choosers.now) c.in_ok-domains.domains vs c.in_ok-domains.ensures a in
    (ready_of scope c.args.s c.args.choosers.now c.args.assumed c.args.formulas.now c.in_ok-checks.checks.items c.in_ok-checks.ensures vs k)
