use Rattle.std.proofs.Common.{List, ◌∷◌, Ok, ap, sym, subst, ◌∙◌}
use Rattle.std.proofs.lemmas.Result.{err_from_is_err_and}
use Rattle.stt_core.specs.TypedName.{TypedName}
use Rattle.stt_core.specs.View.{the_type}
use Rattle.thf_grammar.specs.View.{the_formula, the_vars, the_var}
use Rattle.type_check.specs.Internal.Answers.{AnswersCheck, RefusesAt}
use Rattle.type_check.specs.Outcome.{◌>>=◌}
use Rattle.stt_core.specs.Signature.{symbol_named}
use Rattle.thf_grammar.specs.declared.formula.Surface.{Surface}
use Rattle.type_check.specs.Terms.{TermReading, known_term, read_term, read_binder, bind}
use Rattle.type_check.specs.Internal.ScopeView.{the_binders, variables, named, placed_reading}
use Rattle.type_check.specs.Internal.TypedView.{the_typed}
use Rattle.type_check.proofs.BinderLaws.{refuses-then, read_binder-first}
use Rattle.type_check.proofs.ScopeLaws.{then-placed, bind-placed, constant-placed, truth-placed, operator-placed, negation-answers, infix-answers, everywhere-answers, somewhere-answers}
use Rattle.type_check.proofs.terms.+terms.Goals as goal

pub read_binder-returns-in_err-bound : goal.read_binder-returns-in_err-bound
read_binder-returns-in_err-bound t c =
    let d = c.args.declared.now in
    let scope = the_binders c.args.scope.now in
    let v = the_var c.in-Some.var.now in
    let here : TypedName = record { name = c.as_slice.result.now; type = the_type c.in_ok-a.a } in
    let body : List TypedName → TermReading = λ inner. read_term d inner (the_formula c.args.body.now) in
    let bound = bind c.args.at c.args.binder (the_type c.in_ok-a.a) in
    let rest = read_binder d c.args.at c.args.binder (the_vars c.in-Some.rest.now) (here ∷ variables scope) body in
    let first = read_binder-first d c.args.at c.args.binder (the_vars c.args.vars.now) v (the_vars c.in-Some.rest.now) (variables scope) body (the_type c.in_ok-a.a) c.as_slice.result.now (ap the_vars c.in-Some.ensures.cases.0) c.in_ok-a.ensures c.as_slice.ensures in
    let whole = ap (placed_reading scope) first ∙ then-placed scope (named here ∷ scope) rest bound bound (bind-placed scope c.args.at c.args.binder (the_type c.in_ok-a.a)) in
    let p = err_from_is_err_and c.from_residual-in_err-bound.result c.from_residual-in_err-bound.ensures.1 in
    rw (p.1, p.2) (subst (RefusesAt c.in_err-bound.field-0.0) (sym whole) (refuses-then c.in_err-bound.field-0.0 (placed_reading (named here ∷ scope) rest) bound c.in_err-bound.ensures))

pub read_binder-returns : goal.read_binder-returns
read_binder-returns t c =
    let d = c.args.declared.now in
    let scope = the_binders c.args.scope.now in
    let v = the_var c.in-Some.var.now in
    let here : TypedName = record { name = c.as_slice.result.now; type = the_type c.in_ok-a.a } in
    let body : List TypedName → TermReading = λ inner. read_term d inner (the_formula c.args.body.now) in
    let bound = bind c.args.at c.args.binder (the_type c.in_ok-a.a) in
    let rest = read_binder d c.args.at c.args.binder (the_vars c.in-Some.rest.now) (here ∷ variables scope) body in
    let first = read_binder-first d c.args.at c.args.binder (the_vars c.args.vars.now) v (the_vars c.in-Some.rest.now) (variables scope) body (the_type c.in_ok-a.a) c.as_slice.result.now (ap the_vars c.in-Some.ensures.cases.0) c.in_ok-a.ensures c.as_slice.ensures in
    let whole = ap (placed_reading scope) first ∙ then-placed scope (named here ∷ scope) rest bound bound (bind-placed scope c.args.at c.args.binder (the_type c.in_ok-a.a)) in
    subst (AnswersCheck the_typed c.bind.result) (sym (whole ∙ ap (λ r. r >>= bound) c.in_ok-bound.ensures ∙ ap bound (sym c.in_ok-bound-2.ensures))) c.bind.ensures

pub read_infix-returns : goal.read_infix-returns
read_infix-returns t c =
    let scope = the_binders c.args.scope.now in
    let read = λ (s : Surface). read_term c.args.declared.now (variables scope) (the_formula s) in
    subst (AnswersCheck the_typed c.combined.result) (sym (infix-answers scope c.args.at c.args.between (read c.args.left.now) (read c.args.right.now) (the_typed c.in_ok-x.x) (the_typed c.in_ok-y.y) c.in_ok-x.ensures c.in_ok-y.ensures)) c.combined.ensures

pub read_negated-returns : goal.read_negated-returns
read_negated-returns t c =
    let scope = the_binders c.args.scope.now in
    let read = λ (s : Surface). read_term c.args.declared.now (variables scope) (the_formula s) in
    subst (AnswersCheck the_typed c.negated.result) (sym (negation-answers scope c.args.at (read c.args.body.now) (the_typed c.in_ok-x.x) c.in_ok-x.ensures)) c.negated.ensures

pub read_quantified-returns-then-all : goal.read_quantified-returns-then-all
read_quantified-returns-then-all t c =
    let scope = the_binders c.args.scope.now in
    let read = λ (s : Surface). read_term c.args.declared.now (variables scope) (the_formula s) in
    subst (AnswersCheck the_typed c.everywhere.result) (sym (everywhere-answers scope c.args.at c.args.all (read c.args.predicate.now) (the_typed c.in_ok-x.x) c.if-all.true c.in_ok-x.ensures)) c.everywhere.ensures

pub read_quantified-returns : goal.read_quantified-returns
read_quantified-returns t c =
    let scope = the_binders c.args.scope.now in
    let read = λ (s : Surface). read_term c.args.declared.now (variables scope) (the_formula s) in
    subst (AnswersCheck the_typed c.somewhere.result) (sym (somewhere-answers scope c.args.at c.args.all (read c.args.predicate.now) (the_typed c.in_ok-x-2.x) c.if-all.false c.in_ok-x-2.ensures)) c.somewhere.ensures

pub read_term-returns-in-Name : goal.read_term-returns-in-Name
read_term-returns-in-Name t c =
    let d = c.args.declared.now in
    let scope = the_binders c.args.scope.now in
    let is = ap (λ (s : Surface). placed_reading scope (read_term d (variables scope) (the_formula s))) c.in-Name.is in
    let stays = constant-placed scope c.in-Name.at d.consts (symbol_named d.bases d.consts c.in-Name.name) in
    subst (AnswersCheck the_typed c.known.result) (sym (is ∙ stays ∙ ap (known_term c.in-Name.at) (sym c.constant.ensures))) c.known.ensures

pub read_term-returns-in_ok-truth-in-Truth : goal.read_term-returns-in_ok-truth-in-Truth
read_term-returns-in_ok-truth-in-Truth t c =
    let scope = the_binders c.args.scope.now in
    let is = ap (λ (s : Surface). placed_reading scope (read_term c.args.declared.now (variables scope) (the_formula s))) c.in-Truth.is in
    is ∙ ap Ok (truth-placed scope c.in-Truth.value ∙ sym c.in_ok-truth-in-Truth.ensures)

pub read_term-returns-in_ok-operator-in-Op : goal.read_term-returns-in_ok-operator-in-Op
read_term-returns-in_ok-operator-in-Op t c =
    let scope = the_binders c.args.scope.now in
    let is = ap (λ (s : Surface). placed_reading scope (read_term c.args.declared.now (variables scope) (the_formula s))) c.in-Op.is in
    is ∙ ap Ok (operator-placed scope c.in-Op.conn ∙ sym c.in_ok-operator-in-Op.ensures)
