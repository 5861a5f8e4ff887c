use Rattle.std.proofs.lemmas.Result.{IfOk-from_err}
use Rattle.stt_core.specs.View.{the_type}
use Rattle.term_bank.proofs.GrowLaws.{grows_itself, grows_on}
use Rattle.bank_normal.proofs.RightLaws.{right_grown}
use Rattle.tableau_rules.proofs.TypedLaws.{declared_grown}
use Rattle.tableau_rules.proofs.ChoiceLaws.{predicate_grown}
use Rattle.tableau_rules.proofs.NowhereLaws.{predicate_function}
use Rattle.tableau_rules.proofs.VariableLaws.{type_declared, then_within, then_typed, both_within, both_typed, both_made}
use Rattle.tableau_rules.proofs.choice.both_same.Goals as goal

pub at_new_variable-inner-requires : goal.at_new_variable-inner-requires
at_new_variable-inner-requires c =
    (the_type c.args.ty.now, predicate_function c.at_outer_variable.new.bank (the_type c.args.ty.now) c.args.f (predicate_grown c.args.bank.now c.at_outer_variable.new.bank (the_type c.args.ty.now) c.args.f c.at_outer_variable.ensures.grows c.requires.predicate))

pub same_variables-requires-clause-declared : goal.same_variables-requires-clause-declared
same_variables-requires-clause-declared c =
    declared_grown c.args.bank.now c.at_outer_variable.new.bank c.at_outer_variable.ensures.grows (the_type c.args.ty.now)
    (type_declared c.args.bank.now (the_type c.args.ty.now) c.args.f c.requires.predicate)

pub intern_app-requires-clause-within : goal.intern_app-requires-clause-within
intern_app-requires-clause-within c =
    then_within c.args.bank.now (the_type c.args.ty.now) c.args.f c.requires.predicate c.at_outer_variable.new.bank c.at_outer_variable.new.bank c.same_variables.new.bank c.in_ok-outer.outer c.at_new_variable-inner.result c.in_ok-same.same
    c.at_outer_variable.ensures.grows (grows_itself c.at_outer_variable.new.bank) c.same_variables.ensures.grows c.in_ok-outer.ensures.term (c.at_new_variable-inner.ensures (the_type c.args.ty.now) (predicate_function c.at_outer_variable.new.bank (the_type c.args.ty.now) c.args.f (predicate_grown c.args.bank.now c.at_outer_variable.new.bank (the_type c.args.ty.now) c.args.f c.at_outer_variable.ensures.grows c.requires.predicate))) c.in_ok-same.ensures.term

pub intern_app-requires-clause-typed : goal.intern_app-requires-clause-typed
intern_app-requires-clause-typed c =
    then_typed c.args.bank.now (the_type c.args.ty.now) c.args.f c.requires.predicate c.at_outer_variable.new.bank c.at_outer_variable.new.bank c.same_variables.new.bank c.in_ok-outer.outer c.at_new_variable-inner.result c.in_ok-same.same
    c.at_outer_variable.ensures.grows (grows_itself c.at_outer_variable.new.bank) c.same_variables.ensures.grows c.in_ok-outer.ensures.term (c.at_new_variable-inner.ensures (the_type c.args.ty.now) (predicate_function c.at_outer_variable.new.bank (the_type c.args.ty.now) c.args.f (predicate_grown c.args.bank.now c.at_outer_variable.new.bank (the_type c.args.ty.now) c.args.f c.at_outer_variable.ensures.grows c.requires.predicate))) c.in_ok-same.ensures.term

pub intern_app-requires-2-clause-within : goal.intern_app-requires-2-clause-within
intern_app-requires-2-clause-within c =
    both_within c.args.bank.now (the_type c.args.ty.now) c.args.f c.requires.predicate c.at_outer_variable.new.bank c.at_outer_variable.new.bank c.same_variables.new.bank c.in_ok-outer.outer c.at_new_variable-inner.result c.in_ok-same.same
    c.at_outer_variable.ensures.grows (grows_itself c.at_outer_variable.new.bank) c.same_variables.ensures.grows c.in_ok-outer.ensures.term (c.at_new_variable-inner.ensures (the_type c.args.ty.now) (predicate_function c.at_outer_variable.new.bank (the_type c.args.ty.now) c.args.f (predicate_grown c.args.bank.now c.at_outer_variable.new.bank (the_type c.args.ty.now) c.args.f c.at_outer_variable.ensures.grows c.requires.predicate))) c.in_ok-same.ensures.term
    c.intern_app.new.self c.in_ok-then.then c.intern_app.ensures.grows c.in_ok-then.ensures.term

pub intern_app-requires-2-clause-typed : goal.intern_app-requires-2-clause-typed
intern_app-requires-2-clause-typed c =
    both_typed c.args.bank.now (the_type c.args.ty.now) c.args.f c.requires.predicate c.at_outer_variable.new.bank c.at_outer_variable.new.bank c.same_variables.new.bank c.in_ok-outer.outer c.at_new_variable-inner.result c.in_ok-same.same
    c.at_outer_variable.ensures.grows (grows_itself c.at_outer_variable.new.bank) c.same_variables.ensures.grows c.in_ok-outer.ensures.term (c.at_new_variable-inner.ensures (the_type c.args.ty.now) (predicate_function c.at_outer_variable.new.bank (the_type c.args.ty.now) c.args.f (predicate_grown c.args.bank.now c.at_outer_variable.new.bank (the_type c.args.ty.now) c.args.f c.at_outer_variable.ensures.grows c.requires.predicate))) c.in_ok-same.ensures.term
    c.intern_app.new.self c.in_ok-then.then c.intern_app.ensures.grows c.in_ok-then.ensures.term

pub returns-clause-term : goal.returns-clause-term
returns-clause-term c =
    both_made c.args.bank.now (the_type c.args.ty.now) c.args.f c.requires.predicate c.at_outer_variable.new.bank c.at_outer_variable.new.bank c.same_variables.new.bank c.in_ok-outer.outer c.at_new_variable-inner.result c.in_ok-same.same
    c.at_outer_variable.ensures.grows (grows_itself c.at_outer_variable.new.bank) c.same_variables.ensures.grows c.in_ok-outer.ensures.term (c.at_new_variable-inner.ensures (the_type c.args.ty.now) (predicate_function c.at_outer_variable.new.bank (the_type c.args.ty.now) c.args.f (predicate_grown c.args.bank.now c.at_outer_variable.new.bank (the_type c.args.ty.now) c.args.f c.at_outer_variable.ensures.grows c.requires.predicate))) c.in_ok-same.ensures.term
    c.intern_app.new.self c.in_ok-then.then c.intern_app.ensures.grows c.in_ok-then.ensures.term
    c.intern_app-2.new.self c.in_ok-intern_app.field-0 c.in_ok-intern_app.ensures.term

pub returns-clause-grows : goal.returns-clause-grows
returns-clause-grows c =
    grows_on c.args.bank.now c.at_outer_variable.new.bank c.intern_app-2.new.self c.at_outer_variable.ensures.grows
    (grows_on c.at_outer_variable.new.bank c.same_variables.new.bank c.intern_app-2.new.self c.same_variables.ensures.grows
    (grows_on c.same_variables.new.bank c.intern_app.new.self c.intern_app-2.new.self c.intern_app.ensures.grows c.intern_app-2.ensures.grows))

pub returns-clause-right : goal.returns-clause-right
returns-clause-right c =
    right_grown c.same_variables.new.normal c.same_variables.new.bank c.intern_app-2.new.self (grows_on c.same_variables.new.bank c.intern_app.new.self c.intern_app-2.new.self c.intern_app.ensures.grows c.intern_app-2.ensures.grows) c.same_variables.ensures.right

pub returns-in_err-intern_app-clause-right : goal.returns-in_err-intern_app-clause-right
returns-in_err-intern_app-clause-right c =
    right_grown c.same_variables.new.normal c.same_variables.new.bank c.intern_app-2.new.self (grows_on c.same_variables.new.bank c.intern_app.new.self c.intern_app-2.new.self c.intern_app.ensures.grows c.intern_app-2.ensures.grows) c.same_variables.ensures.right

pub at_outer_variable-requires-clause-predicate : goal.at_outer_variable-requires-clause-predicate
at_outer_variable-requires-clause-predicate c = c.requires.predicate

pub at_outer_variable-requires-clause-right : goal.at_outer_variable-requires-clause-right
at_outer_variable-requires-clause-right c = c.requires.right

pub returns-in_err-outer-clause-term : goal.returns-in_err-outer-clause-term
returns-in_err-outer-clause-term c = IfOk-from_err _ _ c.from_residual.ensures.0

pub returns-in_err-outer-clause-grows : goal.returns-in_err-outer-clause-grows
returns-in_err-outer-clause-grows c = c.at_outer_variable.ensures.grows

pub returns-in_err-outer-clause-right : goal.returns-in_err-outer-clause-right
returns-in_err-outer-clause-right c = c.at_outer_variable.ensures.right

pub same_variables-requires-clause-right : goal.same_variables-requires-clause-right
same_variables-requires-clause-right c = c.at_outer_variable.ensures.right

pub returns-in_err-same-clause-term : goal.returns-in_err-same-clause-term
returns-in_err-same-clause-term c = IfOk-from_err _ _ c.from_residual-in_err-same.ensures.0

pub returns-in_err-same-clause-grows : goal.returns-in_err-same-clause-grows
returns-in_err-same-clause-grows c = grows_on c.args.bank.now c.at_outer_variable.new.bank c.same_variables.new.bank c.at_outer_variable.ensures.grows c.same_variables.ensures.grows

pub returns-in_err-same-clause-right : goal.returns-in_err-same-clause-right
returns-in_err-same-clause-right c = c.same_variables.ensures.right

pub returns-in_err-then-clause-term : goal.returns-in_err-then-clause-term
returns-in_err-then-clause-term c = IfOk-from_err _ _ c.from_residual-in_err-then.ensures.0

pub returns-in_err-then-clause-grows : goal.returns-in_err-then-clause-grows
returns-in_err-then-clause-grows c = grows_on c.args.bank.now c.at_outer_variable.new.bank c.intern_app.new.self c.at_outer_variable.ensures.grows (grows_on c.at_outer_variable.new.bank c.same_variables.new.bank c.intern_app.new.self c.same_variables.ensures.grows c.intern_app.ensures.grows)

pub returns-in_err-then-clause-right : goal.returns-in_err-then-clause-right
returns-in_err-then-clause-right c = right_grown c.same_variables.new.normal c.same_variables.new.bank c.intern_app.new.self c.intern_app.ensures.grows c.same_variables.ensures.right

pub returns-in_err-intern_app-clause-term : goal.returns-in_err-intern_app-clause-term
returns-in_err-intern_app-clause-term c = IfOk-from_err _ _ c.from_residual-in_err-intern_app.ensures.0

pub returns-in_err-intern_app-clause-grows : goal.returns-in_err-intern_app-clause-grows
returns-in_err-intern_app-clause-grows c =
    grows_on c.args.bank.now c.at_outer_variable.new.bank c.intern_app-2.new.self c.at_outer_variable.ensures.grows
    (grows_on c.at_outer_variable.new.bank c.same_variables.new.bank c.intern_app-2.new.self c.same_variables.ensures.grows (grows_on c.same_variables.new.bank c.intern_app.new.self c.intern_app-2.new.self c.intern_app.ensures.grows c.intern_app-2.ensures.grows))
