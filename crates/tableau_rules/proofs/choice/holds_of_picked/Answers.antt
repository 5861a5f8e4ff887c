use Rattle.std.proofs.Common.{ap, sym, ◌∙◌, option_map}
use Rattle.std.proofs.lemmas.Result.{IfOk-from_err}
use Rattle.stt_core.specs.View.{the_type, the_head}
use Rattle.normal_forms.specs.Normal.{eta, apply}
use Rattle.term_bank.specs.Terms.{term_at}
use Rattle.term_bank.proofs.GrowLaws.{grows_itself, grows_on, grown_within, has_within}
use Rattle.tableau_rules.proofs.ChoiceLaws.{operator_typed, operator_fits, picked_fits, holds_fits, holds_made}
use Rattle.tableau_rules.proofs.choice.holds_of_picked.Goals as goal

pub eta-requires-clause-fits : goal.eta-requires-clause-fits
eta-requires-clause-fits c =
    operator_fits c.args.bank.now (the_type c.args.ty.now) (the_head c.args.operator.now) c.args.f c.requires.operator c.requires.predicate
    (the_type c.in-Some.operator_type) (sym (ap (option_map the_type) c.in-Some.is) ∙ c.in_ok-operator_type.ensures)

pub instantiate-requires-clause-fits : goal.instantiate-requires-clause-fits
instantiate-requires-clause-fits c =
    picked_fits c.args.bank.now (the_type c.args.ty.now) (the_head c.args.operator.now) c.args.f c.requires.operator c.requires.predicate
    (the_type c.in-Some.operator_type) (sym (ap (option_map the_type) c.in-Some.is) ∙ c.in_ok-operator_type.ensures)
    c.eta.new.bank c.in_ok-function-in-Some.function c.eta.ensures.grows c.in_ok-function-in-Some.ensures.term

pub instantiate-requires-in-Some-clause-arg_within : goal.instantiate-requires-in-Some-clause-arg_within
instantiate-requires-in-Some-clause-arg_within c =
    let b = c.eta.new.bank in
    has_within c.instantiate.new.bank c.in_ok-picked-in-Some.picked (apply (term_at b.terms c.in_ok-function-in-Some.function) (term_at b.terms c.args.f)) c.in_ok-picked-in-Some.ensures.term

pub instantiate-requires-in-Some-clause-fits : goal.instantiate-requires-in-Some-clause-fits
instantiate-requires-in-Some-clause-fits c =
    holds_fits c.args.bank.now (the_type c.args.ty.now) (the_head c.args.operator.now) c.args.f c.requires.operator c.requires.predicate
    (the_type c.in-Some.operator_type) (sym (ap (option_map the_type) c.in-Some.is) ∙ c.in_ok-operator_type.ensures)
    c.eta.new.bank c.in_ok-function-in-Some.function c.eta.ensures.grows c.in_ok-function-in-Some.ensures.term
    c.instantiate.new.bank c.in_ok-picked-in-Some.picked c.instantiate.ensures.grows c.in_ok-picked-in-Some.ensures.term

pub unreachable-requires : goal.unreachable-requires
unreachable-requires c =
    operator_typed c.args.bank.now (the_type c.args.ty.now) (the_head c.args.operator.now) c.args.f c.requires.operator c.requires.predicate
    (option_map the_type c.in_ok-operator_type.field-0) c.in_ok-operator_type.ensures (ap (option_map the_type) c.in-None.is)

pub returns-clause-term : goal.returns-clause-term
returns-clause-term c =
    holds_made c.args.bank.now (the_type c.args.ty.now) (the_head c.args.operator.now) c.args.f c.requires.operator c.requires.predicate
    (the_type c.in-Some.operator_type) (sym (ap (option_map the_type) c.in-Some.is) ∙ c.in_ok-operator_type.ensures)
    c.eta.new.bank c.in_ok-function-in-Some.function c.eta.ensures.grows c.in_ok-function-in-Some.ensures.term
    c.instantiate.new.bank c.in_ok-picked-in-Some.picked c.instantiate.ensures.grows c.in_ok-picked-in-Some.ensures.term
    c.instantiate-in-Some.new.bank c.in_ok-instantiate-in-Some.field-0 c.in_ok-instantiate-in-Some.ensures.term

pub returns-in_err-operator_type-clause-term : goal.returns-in_err-operator_type-clause-term
returns-in_err-operator_type-clause-term c = IfOk-from_err _ _ c.from_residual.ensures.0

pub returns-in_err-operator_type-clause-grows : goal.returns-in_err-operator_type-clause-grows
returns-in_err-operator_type-clause-grows c = grows_itself c.args.bank.now

pub returns-in_err-operator_type-clause-right : goal.returns-in_err-operator_type-clause-right
returns-in_err-operator_type-clause-right c = c.requires.right

pub eta-requires-clause-right : goal.eta-requires-clause-right
eta-requires-clause-right c = c.requires.right

pub returns-in_err-function-in-Some-clause-term : goal.returns-in_err-function-in-Some-clause-term
returns-in_err-function-in-Some-clause-term c = IfOk-from_err _ _ c.from_residual-in_err-function-in-Some.ensures.0

pub returns-in_err-function-in-Some-clause-grows : goal.returns-in_err-function-in-Some-clause-grows
returns-in_err-function-in-Some-clause-grows c = c.eta.ensures.grows

pub returns-in_err-function-in-Some-clause-right : goal.returns-in_err-function-in-Some-clause-right
returns-in_err-function-in-Some-clause-right c = c.eta.ensures.right

pub instantiate-requires-clause-lam_within : goal.instantiate-requires-clause-lam_within
instantiate-requires-clause-lam_within c = has_within c.eta.new.bank c.in_ok-function-in-Some.function (eta (the_type c.in-Some.operator_type) (the_head c.args.operator.now)) c.in_ok-function-in-Some.ensures.term

pub instantiate-requires-clause-arg_within : goal.instantiate-requires-clause-arg_within
instantiate-requires-clause-arg_within c = grown_within c.args.bank.now c.eta.new.bank c.args.f c.eta.ensures.grows c.requires.predicate.within

pub instantiate-requires-clause-right : goal.instantiate-requires-clause-right
instantiate-requires-clause-right c = c.eta.ensures.right

pub returns-in_err-picked-in-Some-clause-term : goal.returns-in_err-picked-in-Some-clause-term
returns-in_err-picked-in-Some-clause-term c = IfOk-from_err _ _ c.from_residual-in_err-picked-in-Some.ensures.0

pub returns-in_err-picked-in-Some-clause-grows : goal.returns-in_err-picked-in-Some-clause-grows
returns-in_err-picked-in-Some-clause-grows c = grows_on c.args.bank.now c.eta.new.bank c.instantiate.new.bank c.eta.ensures.grows c.instantiate.ensures.grows

pub returns-in_err-picked-in-Some-clause-right : goal.returns-in_err-picked-in-Some-clause-right
returns-in_err-picked-in-Some-clause-right c = c.instantiate.ensures.right

pub instantiate-requires-in-Some-clause-lam_within : goal.instantiate-requires-in-Some-clause-lam_within
instantiate-requires-in-Some-clause-lam_within c = grown_within c.args.bank.now c.instantiate.new.bank c.args.f (grows_on c.args.bank.now c.eta.new.bank c.instantiate.new.bank c.eta.ensures.grows c.instantiate.ensures.grows) c.requires.predicate.within

pub instantiate-requires-in-Some-clause-right : goal.instantiate-requires-in-Some-clause-right
instantiate-requires-in-Some-clause-right c = c.instantiate.ensures.right

pub returns-in_err-instantiate-in-Some-clause-term : goal.returns-in_err-instantiate-in-Some-clause-term
returns-in_err-instantiate-in-Some-clause-term c = IfOk-from_err _ _ c.from_residual-in_err-instantiate-in-Some.ensures.0

pub returns-in_err-instantiate-in-Some-clause-grows : goal.returns-in_err-instantiate-in-Some-clause-grows
returns-in_err-instantiate-in-Some-clause-grows c = grows_on c.args.bank.now c.eta.new.bank c.instantiate-in-Some.new.bank c.eta.ensures.grows (grows_on c.eta.new.bank c.instantiate.new.bank c.instantiate-in-Some.new.bank c.instantiate.ensures.grows c.instantiate-in-Some.ensures.grows)

pub returns-in_err-instantiate-in-Some-clause-right : goal.returns-in_err-instantiate-in-Some-clause-right
returns-in_err-instantiate-in-Some-clause-right c = c.instantiate-in-Some.ensures.right

pub returns-clause-grows : goal.returns-clause-grows
returns-clause-grows c = grows_on c.args.bank.now c.eta.new.bank c.instantiate-in-Some.new.bank c.eta.ensures.grows (grows_on c.eta.new.bank c.instantiate.new.bank c.instantiate-in-Some.new.bank c.instantiate.ensures.grows c.instantiate-in-Some.ensures.grows)

pub returns-clause-right : goal.returns-clause-right
returns-clause-right c = c.instantiate-in-Some.ensures.right
