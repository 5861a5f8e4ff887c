use Rattle.stt_core.specs.Lambda.{bound}
use Rattle.stt_core.specs.View.{the_type}
use Rattle.normal_forms.specs.Normal.{eta}
use Rattle.term_bank.specs.Content.{content_scope}
use Rattle.term_bank.proofs.GrowLaws.{has_within}
use Rattle.tableau_rules.proofs.VariableLaws.{type_declared, outer_neutral, outer_applies, outer_made}
use Rattle.tableau_rules.proofs.choice.at_outer_variable.Goals as goal

pub eta-requires-clause-fits : goal.eta-requires-clause-fits
eta-requires-clause-fits c = outer_neutral (content_scope c.args.bank.now) (the_type c.args.ty.now) (type_declared c.args.bank.now (the_type c.args.ty.now) c.args.f c.requires.predicate)

pub instantiate-requires-clause-arg_within : goal.instantiate-requires-clause-arg_within
instantiate-requires-clause-arg_within c = has_within c.eta.new.bank c.in_ok-variable.variable (eta (the_type c.args.ty.now) (bound 1)) c.in_ok-variable.ensures.term

pub instantiate-requires-clause-fits : goal.instantiate-requires-clause-fits
instantiate-requires-clause-fits c = outer_applies c.args.bank.now (the_type c.args.ty.now) c.args.f c.requires.predicate c.eta.new.bank c.in_ok-variable.variable c.eta.ensures.grows c.in_ok-variable.ensures.term

pub returns-clause-term : goal.returns-clause-term
returns-clause-term c = outer_made c.args.bank.now (the_type c.args.ty.now) c.args.f c.requires.predicate c.eta.new.bank c.in_ok-variable.variable c.eta.ensures.grows c.in_ok-variable.ensures.term c.instantiate.new.bank c.in_ok-instantiate.field-0 c.in_ok-instantiate.ensures.term
