use Rattle.stt_core.specs.View.{the_type}
use Rattle.term_bank.specs.Content.{content_scope}
use Rattle.term_bank.proofs.GrowLaws.{grows_on}
use Rattle.bank_normal.proofs.RightLaws.{right_grown}
use Rattle.tableau_rules.proofs.TypedLaws.{declared_grown}
use Rattle.tableau_rules.proofs.VariableLaws.{outer_neutral, inner_neutral, variables_typed, variables_within, variables_made}
use Rattle.tableau_rules.proofs.choice.same_variables.Goals as goal

pub eta-requires-clause-fits : goal.eta-requires-clause-fits
eta-requires-clause-fits c = outer_neutral (content_scope c.args.bank.now) (the_type c.args.ty.now) c.requires.declared

pub eta-requires-2-clause-fits : goal.eta-requires-2-clause-fits
eta-requires-2-clause-fits c = inner_neutral (content_scope c.eta.new.bank) (the_type c.args.ty.now) (declared_grown c.args.bank.now c.eta.new.bank c.eta.ensures.grows (the_type c.args.ty.now) c.requires.declared)

pub intern_app-requires-clause-within : goal.intern_app-requires-clause-within
intern_app-requires-clause-within c =
    variables_within c.eta.new.bank c.eta-2.new.bank (the_type c.args.ty.now) (the_type c.in_ok-try_clone.field-0) c.in_ok-outer.outer c.in_ok-inner.inner c.in_ok-try_clone.ensures c.eta-2.ensures.grows c.in_ok-outer.ensures.term c.in_ok-inner.ensures.term

pub intern_app-requires-clause-typed : goal.intern_app-requires-clause-typed
intern_app-requires-clause-typed c =
    variables_typed c.eta.new.bank c.eta-2.new.bank (the_type c.args.ty.now) (the_type c.in_ok-try_clone.field-0) c.in_ok-outer.outer c.in_ok-inner.inner c.in_ok-try_clone.ensures c.eta-2.ensures.grows c.in_ok-outer.ensures.term c.in_ok-inner.ensures.term
    (declared_grown c.args.bank.now c.eta-2.new.bank (grows_on c.args.bank.now c.eta.new.bank c.eta-2.new.bank c.eta.ensures.grows c.eta-2.ensures.grows) (the_type c.args.ty.now) c.requires.declared)

pub returns-clause-term : goal.returns-clause-term
returns-clause-term c =
    variables_made c.eta.new.bank c.eta-2.new.bank (the_type c.args.ty.now) (the_type c.in_ok-try_clone.field-0) c.in_ok-outer.outer c.in_ok-inner.inner c.in_ok-try_clone.ensures c.eta-2.ensures.grows c.in_ok-outer.ensures.term c.in_ok-inner.ensures.term
    c.intern_app.new.self c.in_ok-intern_app.field-0 c.in_ok-intern_app.ensures.term

pub returns-clause-right : goal.returns-clause-right
returns-clause-right c = right_grown c.eta-2.new.self c.eta-2.new.bank c.intern_app.new.self c.intern_app.ensures.grows c.eta-2.ensures.right
