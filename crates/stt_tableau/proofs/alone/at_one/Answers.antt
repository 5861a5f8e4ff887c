use Rattle.std.proofs.Common.{sym, subst}
use Rattle.stt_core.specs.ScopeView.{the_scope}
use Rattle.tableau_calculus.specs.Checks.{FindsInstance}
use Rattle.tableau_calculus.specs.declared.rule_use.RuleUse.TheVariants.{AtOne}
use Rattle.stt_tableau.proofs.alone.at_one.Goals as goal

pub returns-in-False : goal.returns-in-False
returns-in-False c =
    let scope = the_scope c.args.sig.now c.args.types.now in
    subst (λ rule. FindsInstance scope c.args.rows.now c.args.branch.now (AtOne rule c.args.i) c.false_instance.result) (sym c.in-False.is) (c.false_instance.ensures scope c.args.rows.now)

pub returns-in-Refl : goal.returns-in-Refl
returns-in-Refl c =
    let scope = the_scope c.args.sig.now c.args.types.now in
    subst (λ rule. FindsInstance scope c.args.rows.now c.args.branch.now (AtOne rule c.args.i) c.refl_instance.result) (sym c.in-Refl.is) (c.refl_instance.ensures scope c.args.rows.now)

pub returns-in_ok-imp_pos_instance-in-ImpPos : goal.returns-in_ok-imp_pos_instance-in-ImpPos
returns-in_ok-imp_pos_instance-in-ImpPos c =
    let scope = the_scope c.args.sig.now c.args.types.now in
    subst (λ rule. FindsInstance scope c.args.rows.now c.args.branch.now (AtOne rule c.args.i) c.in_ok-imp_pos_instance-in-ImpPos.field-0) (sym c.in-ImpPos.is) (c.in_ok-imp_pos_instance-in-ImpPos.ensures scope c.args.rows.now)

pub returns-in_ok-imp_neg_instance-in-ImpNeg : goal.returns-in_ok-imp_neg_instance-in-ImpNeg
returns-in_ok-imp_neg_instance-in-ImpNeg c =
    let scope = the_scope c.args.sig.now c.args.types.now in
    subst (λ rule. FindsInstance scope c.args.rows.now c.args.branch.now (AtOne rule c.args.i) c.in_ok-imp_neg_instance-in-ImpNeg.field-0) (sym c.in-ImpNeg.is) (c.in_ok-imp_neg_instance-in-ImpNeg.ensures scope c.args.rows.now)

pub returns-in_ok-bool_pos_instance-in-BoolPos : goal.returns-in_ok-bool_pos_instance-in-BoolPos
returns-in_ok-bool_pos_instance-in-BoolPos c =
    let scope = the_scope c.args.sig.now c.args.types.now in
    subst (λ rule. FindsInstance scope c.args.rows.now c.args.branch.now (AtOne rule c.args.i) c.in_ok-bool_pos_instance-in-BoolPos.field-0) (sym c.in-BoolPos.is) (c.in_ok-bool_pos_instance-in-BoolPos.ensures scope c.args.rows.now)

pub returns-in_ok-bool_neg_instance-in-BoolNeg : goal.returns-in_ok-bool_neg_instance-in-BoolNeg
returns-in_ok-bool_neg_instance-in-BoolNeg c =
    let scope = the_scope c.args.sig.now c.args.types.now in
    subst (λ rule. FindsInstance scope c.args.rows.now c.args.branch.now (AtOne rule c.args.i) c.in_ok-bool_neg_instance-in-BoolNeg.field-0) (sym c.in-BoolNeg.is) (c.in_ok-bool_neg_instance-in-BoolNeg.ensures scope c.args.rows.now)

pub returns-in_ok-fun_pos_instance-in-FunPos : goal.returns-in_ok-fun_pos_instance-in-FunPos
returns-in_ok-fun_pos_instance-in-FunPos c =
    let scope = the_scope c.args.sig.now c.args.types.now in
    subst (λ rule. FindsInstance scope c.args.rows.now c.args.branch.now (AtOne rule c.args.i) c.in_ok-fun_pos_instance-in-FunPos.field-0) (sym c.in-FunPos.is) (c.in_ok-fun_pos_instance-in-FunPos.ensures scope c.args.rows.now)

pub returns-in_ok-fun_neg_instance-in-FunNeg : goal.returns-in_ok-fun_neg_instance-in-FunNeg
returns-in_ok-fun_neg_instance-in-FunNeg c =
    let scope = the_scope c.args.sig.now c.args.types.now in
    subst (λ rule. FindsInstance scope c.args.rows.now c.args.branch.now (AtOne rule c.args.i) c.in_ok-fun_neg_instance-in-FunNeg.field-0) (sym c.in-FunNeg.is) (c.in_ok-fun_neg_instance-in-FunNeg.ensures scope c.args.rows.now)

pub returns-in_ok-all_neg_instance-in-AllNeg : goal.returns-in_ok-all_neg_instance-in-AllNeg
returns-in_ok-all_neg_instance-in-AllNeg c =
    let scope = the_scope c.args.sig.now c.args.types.now in
    subst (λ rule. FindsInstance scope c.args.rows.now c.args.branch.now (AtOne rule c.args.i) c.in_ok-all_neg_instance-in-AllNeg.field-0) (sym c.in-AllNeg.is) (c.in_ok-all_neg_instance-in-AllNeg.ensures scope)

pub returns-in_ok-dec_instance-in-Dec : goal.returns-in_ok-dec_instance-in-Dec
returns-in_ok-dec_instance-in-Dec c =
    let scope = the_scope c.args.sig.now c.args.types.now in
    subst (λ rule. FindsInstance scope c.args.rows.now c.args.branch.now (AtOne rule c.args.i) c.in_ok-dec_instance-in-Dec.field-0) (sym c.in-Dec.is) (c.in_ok-dec_instance-in-Dec.ensures c.args.rows.now)
