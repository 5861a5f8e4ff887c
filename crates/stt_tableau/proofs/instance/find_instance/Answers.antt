use Rattle.std.proofs.Common.{sym, subst}
use Rattle.stt_core.specs.ScopeView.{the_scope}
use Rattle.tableau_calculus.specs.Checks.{FindsInstance}
use Rattle.stt_tableau.proofs.instance.find_instance.Goals as goal

pub returns-in_ok-at_two-in-AtTwo : goal.returns-in_ok-at_two-in-AtTwo
returns-in_ok-at_two-in-AtTwo c =
    let scope = the_scope c.args.sig.now c.args.types.now in
    subst (λ rule. FindsInstance scope c.args.rows.now c.args.branch.now rule c.in_ok-at_two-in-AtTwo.field-0) (sym c.in-AtTwo.is) (c.in_ok-at_two-in-AtTwo.ensures c.args.rows.now)

pub returns-in_ok-all_pos_instance-in-AllPos : goal.returns-in_ok-all_pos_instance-in-AllPos
returns-in_ok-all_pos_instance-in-AllPos c =
    let scope = the_scope c.args.sig.now c.args.types.now in
    subst (λ rule. FindsInstance scope c.args.rows.now c.args.branch.now rule c.in_ok-all_pos_instance-in-AllPos.field-0) (sym c.in-AllPos.is) (c.in_ok-all_pos_instance-in-AllPos.ensures c.args.rows.now)

pub returns-in_ok-with_predicate-in-WithPredicate : goal.returns-in_ok-with_predicate-in-WithPredicate
returns-in_ok-with_predicate-in-WithPredicate c =
    let scope = the_scope c.args.sig.now c.args.types.now in
    subst (λ rule. FindsInstance scope c.args.rows.now c.args.branch.now rule c.in_ok-with_predicate-in-WithPredicate.field-0) (sym c.in-WithPredicate.is) (c.in_ok-with_predicate-in-WithPredicate.ensures c.args.rows.now)
