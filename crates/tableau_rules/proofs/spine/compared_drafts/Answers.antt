use Rattle.std.proofs.Common.{subst}
use Rattle.term_bank.specs.Terms.{term_at}
use Rattle.tableau_rules.specs.Internal.Compared.{AreArgumentsOf}
use Rattle.tableau_rules.proofs.SpineLaws.{arguments_fit, compared_found}
use Rattle.tableau_rules.proofs.spine.compared_drafts.Goals as goal

pub differences-requires : goal.differences-requires
differences-requires c =
    let b = c.args.bank.now in
    let k = c.in-Some.arguments in
    let h = subst (AreArgumentsOf b (term_at b.terms c.args.s) (term_at b.terms c.args.t)) c.in-Some.is c.in_ok-arguments.ensures in
    let f = arguments_fit b c.requires.0 c.sig-sig.ensures.declared c.args.s c.args.t k.left k.right c.requires.1 h in
    (f.0, f.2)

pub returns-in_ok-differences-in-Some-clause-compared : goal.returns-in_ok-differences-in-Some-clause-compared
returns-in_ok-differences-in-Some-clause-compared c =
    let b = c.args.bank.now in
    let k = c.in-Some.arguments in
    let h = subst (AreArgumentsOf b (term_at b.terms c.args.s) (term_at b.terms c.args.t)) c.in-Some.is c.in_ok-arguments.ensures in
    compared_found b c.differences.new.bank c.requires.0 c.sig-sig.ensures.declared c.args.s c.args.t k.left k.right c.requires.1 h c.in_ok-differences-in-Some.field-0 c.in_ok-differences-in-Some.ensures.differ
