use Rattle.std.proofs.Common.{sym, subst}
use Rattle.stt_core.specs.ScopeView.{the_scope}
use Rattle.tableau_calculus.specs.Checks.{FindsInstance}
use Rattle.tableau_calculus.specs.declared.rule_use.RuleUse.TheVariants.{AtTwo}
use Rattle.stt_tableau.proofs.instance.at_two.Goals as goal

pub returns-in-Close : goal.returns-in-Close
returns-in-Close c = λ rows.
    let scope = the_scope c.args.sig.now c.args.types.now in
    subst (λ rule. FindsInstance scope rows c.args.branch.now (AtTwo rule c.args.i c.args.j) c.close_instance.result) (sym c.in-Close.is) (c.close_instance.ensures scope rows)

pub returns-in_ok-mat_instance-in-Mat : goal.returns-in_ok-mat_instance-in-Mat
returns-in_ok-mat_instance-in-Mat c = λ rows.
    let scope = the_scope c.args.sig.now c.args.types.now in
    subst (λ rule. FindsInstance scope rows c.args.branch.now (AtTwo rule c.args.i c.args.j) c.in_ok-mat_instance-in-Mat.field-0) (sym c.in-Mat.is) (c.in_ok-mat_instance-in-Mat.ensures rows)

pub returns-in_ok-con_instance-in-Con : goal.returns-in_ok-con_instance-in-Con
returns-in_ok-con_instance-in-Con c = λ rows.
    let scope = the_scope c.args.sig.now c.args.types.now in
    subst (λ rule. FindsInstance scope rows c.args.branch.now (AtTwo rule c.args.i c.args.j) c.in_ok-con_instance-in-Con.field-0) (sym c.in-Con.is) (c.in_ok-con_instance-in-Con.ensures scope rows)
