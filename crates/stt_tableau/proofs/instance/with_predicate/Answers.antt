use Rattle.std.proofs.Common.{sym, subst}
use Rattle.stt_core.specs.ScopeView.{the_scope}
use Rattle.tableau_calculus.specs.Checks.{FindsInstance}
use Rattle.tableau_calculus.specs.declared.rule_use.RuleUse.TheVariants.{WithPredicate}
use Rattle.stt_tableau.proofs.instance.with_predicate.Goals as goal

pub returns-in_ok-cho_instance-in-Cho : goal.returns-in_ok-cho_instance-in-Cho
returns-in_ok-cho_instance-in-Cho c = λ rows.
    let scope = the_scope c.args.sig.now c.args.types.now in
    subst (λ rule. FindsInstance scope rows c.args.branch.now (WithPredicate rule c.args.f.now) c.in_ok-cho_instance-in-Cho.field-0) (sym c.in-Cho.is) (c.in_ok-cho_instance-in-Cho.ensures rows)

pub returns-in_ok-des_instance-in-Des : goal.returns-in_ok-des_instance-in-Des
returns-in_ok-des_instance-in-Des c = λ rows.
    let scope = the_scope c.args.sig.now c.args.types.now in
    subst (λ rule. FindsInstance scope rows c.args.branch.now (WithPredicate rule c.args.f.now) c.in_ok-des_instance-in-Des.field-0) (sym c.in-Des.is) (c.in_ok-des_instance-in-Des.ensures rows)
