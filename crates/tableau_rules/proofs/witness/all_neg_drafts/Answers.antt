use Rattle.std.proofs.Common.{inl, inr, refl}
use Rattle.std.proofs.lemmas.Result.{IfOk-from_err}
use Rattle.stt_core.specs.Lambda.{constant, witness}
use Rattle.stt_core.specs.View.{the_type}
use Rattle.normal_forms.specs.Normal.{eta}
use Rattle.term_bank.proofs.GrowLaws.{grows_on, has_within}
use Rattle.witness_names.specs.Rows.{rows_of}
use Rattle.witness_names.proofs.StayLaws.{rows_grown}
use Rattle.tableau_rules.proofs.WideLaws.{widens_itself, widens_on, grown_wide, right_by}
use Rattle.tableau_rules.proofs.DeclareLaws.{declared_grown_rows}
use Rattle.tableau_rules.proofs.WitnessLaws.{on_err, denied_predicate, witnessed, may_be_witnessed, witness_neutral, witness_applies, value_made, all_neg_found, all_neg_positive, all_neg_other}
use Rattle.tableau_rules.proofs.witness.all_neg_drafts.Goals as goal

pub returns-then-p-clause-drafted : goal.returns-then-p-clause-drafted
returns-then-p-clause-drafted c = all_neg_positive c.args.bank.now (rows_of c.args.bank.now.terms c.args.witnesses.now) c.args.p c.if-p.true

pub returns-then-p-clause-widens : goal.returns-then-p-clause-widens
returns-then-p-clause-widens c = widens_itself c.args.bank.now

pub returns-in_err-ty-in-Some-clause-widens : goal.returns-in_err-ty-in-Some-clause-widens
returns-in_err-ty-in-Some-clause-widens c = widens_itself c.args.bank.now

pub witness_of-requires-clause-predicate : goal.witness_of-requires-clause-predicate
witness_of-requires-clause-predicate c = denied_predicate c.args.bank.now c.args.p c.in-Some.quantified c.requires.principal c.in-Some.ensures (the_type c.in_ok-ty-in-Some.ty) c.in_ok-ty-in-Some.ensures

pub returns-in_err-w-in-Some-clause-err : goal.returns-in_err-w-in-Some-clause-err
returns-in_err-w-in-Some-clause-err c =
    on_err _ (may_be_witnessed c.args.bank.now c.args.p c.in-Some.quantified c.requires.principal c.in-Some.ensures c.witness_of.new.bank c.witness_of.ensures.declares.widens c.if-p.false c.args.witnesses.now c.witness_of.new.witnesses c.in_err-w-in-Some.ensures.err)

pub returns-in_err-w-in-Some-clause-right : goal.returns-in_err-w-in-Some-clause-right
returns-in_err-w-in-Some-clause-right c = right_by c.args.normal.now c.args.bank.now c.witness_of.new.bank c.witness_of.ensures.declares.widens.consts c.witness_of.ensures.declares.terms c.requires.right

pub eta-requires-clause-fits : goal.eta-requires-clause-fits
eta-requires-clause-fits c =
    witness_neutral c.args.bank.now c.args.p c.in-Some.quantified c.requires.principal c.in-Some.ensures c.witness_of.new.bank c.witness_of.ensures.declares.widens c.if-p.false
    c.witness_of.new.witnesses c.in_ok-w-in-Some.w c.in_ok-w-in-Some.ensures.row c.in_ok-w-in-Some.ensures.all (the_type c.in_ok-ty-in-Some.ty) c.in_ok-ty-in-Some.ensures

pub eta-requires-clause-right : goal.eta-requires-clause-right
eta-requires-clause-right c = right_by c.args.normal.now c.args.bank.now c.witness_of.new.bank c.witness_of.ensures.declares.widens.consts c.witness_of.ensures.declares.terms c.requires.right

pub returns-in_err-witness-in-Some-clause-err : goal.returns-in_err-witness-in-Some-clause-err
returns-in_err-witness-in-Some-clause-err c =
    on_err _ (inr (witnessed c.args.bank.now c.args.p c.in-Some.quantified c.requires.principal c.in-Some.ensures c.eta.new.bank (widens_on c.args.bank.now c.witness_of.new.bank c.eta.new.bank c.witness_of.ensures.declares.widens (grown_wide c.witness_of.new.bank c.eta.new.bank c.eta.ensures.grows)) c.if-p.false c.args.witnesses.now c.witness_of.new.witnesses c.in_ok-w-in-Some.ensures.added))

pub returns-in_err-witness-in-Some-clause-widens : goal.returns-in_err-witness-in-Some-clause-widens
returns-in_err-witness-in-Some-clause-widens c = widens_on c.args.bank.now c.witness_of.new.bank c.eta.new.bank c.witness_of.ensures.declares.widens (grown_wide c.witness_of.new.bank c.eta.new.bank c.eta.ensures.grows)

pub returns-in_err-witness-in-Some-clause-rows : goal.returns-in_err-witness-in-Some-clause-rows
returns-in_err-witness-in-Some-clause-rows c = rows_grown c.witness_of.new.bank c.eta.new.bank c.eta.ensures.grows c.witness_of.new.witnesses c.witness_of.ensures.declares.rows

pub instantiate-requires-clause-arg_within : goal.instantiate-requires-clause-arg_within
instantiate-requires-clause-arg_within c = has_within c.eta.new.bank c.in_ok-witness-in-Some.witness (eta (the_type c.in_ok-ty-in-Some.ty) (constant (witness c.in_ok-w-in-Some.w))) c.in_ok-witness-in-Some.ensures.term

pub instantiate-requires-clause-fits : goal.instantiate-requires-clause-fits
instantiate-requires-clause-fits c =
    witness_applies c.args.bank.now c.args.p c.in-Some.quantified c.requires.principal c.in-Some.ensures c.witness_of.new.bank c.witness_of.ensures.declares.widens c.if-p.false
    c.witness_of.new.witnesses c.in_ok-w-in-Some.w c.in_ok-w-in-Some.ensures.row c.in_ok-w-in-Some.ensures.all (the_type c.in_ok-ty-in-Some.ty) c.in_ok-ty-in-Some.ensures
    c.eta.new.bank c.in_ok-witness-in-Some.witness c.eta.ensures.grows c.in_ok-witness-in-Some.ensures.term

pub returns-in_err-value-in-Some-clause-err : goal.returns-in_err-value-in-Some-clause-err
returns-in_err-value-in-Some-clause-err c =
    on_err _ (inr (witnessed c.args.bank.now c.args.p c.in-Some.quantified c.requires.principal c.in-Some.ensures c.instantiate.new.bank (widens_on c.args.bank.now c.witness_of.new.bank c.instantiate.new.bank c.witness_of.ensures.declares.widens (grown_wide c.witness_of.new.bank c.instantiate.new.bank (grows_on c.witness_of.new.bank c.eta.new.bank c.instantiate.new.bank c.eta.ensures.grows c.instantiate.ensures.grows))) c.if-p.false c.args.witnesses.now c.witness_of.new.witnesses c.in_ok-w-in-Some.ensures.added))

pub returns-in_err-value-in-Some-clause-widens : goal.returns-in_err-value-in-Some-clause-widens
returns-in_err-value-in-Some-clause-widens c = widens_on c.args.bank.now c.witness_of.new.bank c.instantiate.new.bank c.witness_of.ensures.declares.widens (grown_wide c.witness_of.new.bank c.instantiate.new.bank (grows_on c.witness_of.new.bank c.eta.new.bank c.instantiate.new.bank c.eta.ensures.grows c.instantiate.ensures.grows))

pub returns-in_err-value-in-Some-clause-rows : goal.returns-in_err-value-in-Some-clause-rows
returns-in_err-value-in-Some-clause-rows c = rows_grown c.witness_of.new.bank c.instantiate.new.bank (grows_on c.witness_of.new.bank c.eta.new.bank c.instantiate.new.bank c.eta.ensures.grows c.instantiate.ensures.grows) c.witness_of.new.witnesses c.witness_of.ensures.declares.rows

pub returns-in_ok-one-in-Some-clause-drafted : goal.returns-in_ok-one-in-Some-clause-drafted
returns-in_ok-one-in-Some-clause-drafted c =
    let b = c.args.bank.now in
    let d = c.witness_of.new.bank in
    let e = c.eta.new.bank in
    let m = c.instantiate.new.bank in
    let q = c.in-Some.quantified in
    let n = c.in_ok-value-in-Some.value in
    let ids = c.witness_of.new.witnesses in
    let w = c.in_ok-w-in-Some.w in
    let made = value_made b c.args.p q c.requires.principal c.in-Some.ensures d c.witness_of.ensures.declares.widens c.if-p.false
    ids w c.in_ok-w-in-Some.ensures.row c.in_ok-w-in-Some.ensures.all (the_type c.in_ok-ty-in-Some.ty) c.in_ok-ty-in-Some.ensures
    e c.in_ok-witness-in-Some.witness c.eta.ensures.grows c.in_ok-witness-in-Some.ensures.term m n c.instantiate.ensures.grows c.in_ok-value-in-Some.ensures.term in
    all_neg_found b c.args.p q c.requires.principal c.in-Some.ensures m (widens_on b d m c.witness_of.ensures.declares.widens (grown_wide d m (grows_on d e m c.eta.ensures.grows c.instantiate.ensures.grows))) c.if-p.false
    ids w c.in_ok-w-in-Some.ensures.row n made c.fails.result c.in_ok-one-in-Some.field-0 c.fails.ensures c.in_ok-one-in-Some.ensures

pub returns-in_ok-one-in-Some-clause-witnesses : goal.returns-in_ok-one-in-Some-clause-witnesses
returns-in_ok-one-in-Some-clause-witnesses c =
    witnessed c.args.bank.now c.args.p c.in-Some.quantified c.requires.principal c.in-Some.ensures c.instantiate.new.bank (widens_on c.args.bank.now c.witness_of.new.bank c.instantiate.new.bank c.witness_of.ensures.declares.widens (grown_wide c.witness_of.new.bank c.instantiate.new.bank (grows_on c.witness_of.new.bank c.eta.new.bank c.instantiate.new.bank c.eta.ensures.grows c.instantiate.ensures.grows))) c.if-p.false c.args.witnesses.now c.witness_of.new.witnesses c.in_ok-w-in-Some.ensures.added

pub returns-in_ok-one-in-Some-clause-widens : goal.returns-in_ok-one-in-Some-clause-widens
returns-in_ok-one-in-Some-clause-widens c = widens_on c.args.bank.now c.witness_of.new.bank c.instantiate.new.bank c.witness_of.ensures.declares.widens (grown_wide c.witness_of.new.bank c.instantiate.new.bank (grows_on c.witness_of.new.bank c.eta.new.bank c.instantiate.new.bank c.eta.ensures.grows c.instantiate.ensures.grows))

pub returns-in_ok-one-in-Some-clause-rows : goal.returns-in_ok-one-in-Some-clause-rows
returns-in_ok-one-in-Some-clause-rows c = rows_grown c.witness_of.new.bank c.instantiate.new.bank (grows_on c.witness_of.new.bank c.eta.new.bank c.instantiate.new.bank c.eta.ensures.grows c.instantiate.ensures.grows) c.witness_of.new.witnesses c.witness_of.ensures.declares.rows

pub returns-in_ok-one-in-Some-clause-all : goal.returns-in_ok-one-in-Some-clause-all
returns-in_ok-one-in-Some-clause-all c =
    declared_grown_rows c.witness_of.new.bank c.instantiate.new.bank (grows_on c.witness_of.new.bank c.eta.new.bank c.instantiate.new.bank c.eta.ensures.grows c.instantiate.ensures.grows) c.witness_of.new.witnesses c.witness_of.ensures.declares.rows c.in_ok-w-in-Some.ensures.all

pub returns-in-None-clause-drafted : goal.returns-in-None-clause-drafted
returns-in-None-clause-drafted c = all_neg_other c.args.bank.now (rows_of c.args.bank.now.terms c.args.witnesses.now) c.args.p c.in-None.ensures

pub returns-in-None-clause-widens : goal.returns-in-None-clause-widens
returns-in-None-clause-widens c = widens_itself c.args.bank.now

pub returns-in_err-one-in-Some-clause-err : goal.returns-in_err-one-in-Some-clause-err
returns-in_err-one-in-Some-clause-err c =
    on_err _ (inr (witnessed c.args.bank.now c.args.p c.in-Some.quantified c.requires.principal c.in-Some.ensures c.instantiate.new.bank (widens_on c.args.bank.now c.witness_of.new.bank c.instantiate.new.bank c.witness_of.ensures.declares.widens (grown_wide c.witness_of.new.bank c.instantiate.new.bank (grows_on c.witness_of.new.bank c.eta.new.bank c.instantiate.new.bank c.eta.ensures.grows c.instantiate.ensures.grows))) c.if-p.false c.args.witnesses.now c.witness_of.new.witnesses c.in_ok-w-in-Some.ensures.added))

pub returns-in_err-one-in-Some-clause-widens : goal.returns-in_err-one-in-Some-clause-widens
returns-in_err-one-in-Some-clause-widens c = widens_on c.args.bank.now c.witness_of.new.bank c.instantiate.new.bank c.witness_of.ensures.declares.widens (grown_wide c.witness_of.new.bank c.instantiate.new.bank (grows_on c.witness_of.new.bank c.eta.new.bank c.instantiate.new.bank c.eta.ensures.grows c.instantiate.ensures.grows))

pub returns-in_err-one-in-Some-clause-rows : goal.returns-in_err-one-in-Some-clause-rows
returns-in_err-one-in-Some-clause-rows c = rows_grown c.witness_of.new.bank c.instantiate.new.bank (grows_on c.witness_of.new.bank c.eta.new.bank c.instantiate.new.bank c.eta.ensures.grows c.instantiate.ensures.grows) c.witness_of.new.witnesses c.witness_of.ensures.declares.rows

pub returns-in_err-ty-in-Some-clause-drafted : goal.returns-in_err-ty-in-Some-clause-drafted
returns-in_err-ty-in-Some-clause-drafted c = IfOk-from_err _ _ c.from_residual.ensures.0

pub returns-in_err-ty-in-Some-clause-witnesses : goal.returns-in_err-ty-in-Some-clause-witnesses
returns-in_err-ty-in-Some-clause-witnesses c = IfOk-from_err _ _ c.from_residual.ensures.0

pub returns-in_err-ty-in-Some-clause-all : goal.returns-in_err-ty-in-Some-clause-all
returns-in_err-ty-in-Some-clause-all c = IfOk-from_err _ _ c.from_residual.ensures.0

pub returns-in_err-w-in-Some-clause-drafted : goal.returns-in_err-w-in-Some-clause-drafted
returns-in_err-w-in-Some-clause-drafted c = IfOk-from_err _ _ c.from_residual-in_err-w-in-Some.ensures.0

pub returns-in_err-w-in-Some-clause-witnesses : goal.returns-in_err-w-in-Some-clause-witnesses
returns-in_err-w-in-Some-clause-witnesses c = IfOk-from_err _ _ c.from_residual-in_err-w-in-Some.ensures.0

pub returns-in_err-w-in-Some-clause-all : goal.returns-in_err-w-in-Some-clause-all
returns-in_err-w-in-Some-clause-all c = IfOk-from_err _ _ c.from_residual-in_err-w-in-Some.ensures.0

pub returns-in_err-witness-in-Some-clause-drafted : goal.returns-in_err-witness-in-Some-clause-drafted
returns-in_err-witness-in-Some-clause-drafted c = IfOk-from_err _ _ c.from_residual-in_err-witness-in-Some.ensures.0

pub returns-in_err-witness-in-Some-clause-witnesses : goal.returns-in_err-witness-in-Some-clause-witnesses
returns-in_err-witness-in-Some-clause-witnesses c = IfOk-from_err _ _ c.from_residual-in_err-witness-in-Some.ensures.0

pub returns-in_err-witness-in-Some-clause-all : goal.returns-in_err-witness-in-Some-clause-all
returns-in_err-witness-in-Some-clause-all c = IfOk-from_err _ _ c.from_residual-in_err-witness-in-Some.ensures.0

pub returns-in_err-value-in-Some-clause-drafted : goal.returns-in_err-value-in-Some-clause-drafted
returns-in_err-value-in-Some-clause-drafted c = IfOk-from_err _ _ c.from_residual-in_err-value-in-Some.ensures.0

pub returns-in_err-value-in-Some-clause-witnesses : goal.returns-in_err-value-in-Some-clause-witnesses
returns-in_err-value-in-Some-clause-witnesses c = IfOk-from_err _ _ c.from_residual-in_err-value-in-Some.ensures.0

pub returns-in_err-value-in-Some-clause-all : goal.returns-in_err-value-in-Some-clause-all
returns-in_err-value-in-Some-clause-all c = IfOk-from_err _ _ c.from_residual-in_err-value-in-Some.ensures.0

pub returns-in_err-one-in-Some-clause-drafted : goal.returns-in_err-one-in-Some-clause-drafted
returns-in_err-one-in-Some-clause-drafted c = IfOk-from_err _ _ c.from_residual-in_err-one-in-Some.ensures.0

pub returns-in_err-one-in-Some-clause-witnesses : goal.returns-in_err-one-in-Some-clause-witnesses
returns-in_err-one-in-Some-clause-witnesses c = IfOk-from_err _ _ c.from_residual-in_err-one-in-Some.ensures.0

pub returns-in_err-one-in-Some-clause-all : goal.returns-in_err-one-in-Some-clause-all
returns-in_err-one-in-Some-clause-all c = IfOk-from_err _ _ c.from_residual-in_err-one-in-Some.ensures.0

pub returns-in_err-ty-in-Some-clause-err : goal.returns-in_err-ty-in-Some-clause-err
returns-in_err-ty-in-Some-clause-err c = on_err _ (inl refl)
