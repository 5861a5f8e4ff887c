use Rattle.std.proofs.lemmas.Result.{IfOk-from_err}
use Rattle.stt_core.specs.View.{the_type}
use Rattle.term_bank.proofs.GrowLaws.{grows_on}
use Rattle.bank_normal.proofs.RightLaws.{right_grown}
use Rattle.tableau_rules.proofs.VariableLaws.{both_open, once_open, once_made}
use Rattle.tableau_rules.proofs.choice.at_most_once_of.Goals as goal

pub everywhere-requires : goal.everywhere-requires
everywhere-requires c = both_open c.args.bank.now (the_type c.args.ty.now) c.args.f c.requires.predicate c.both_same.new.bank c.in_ok-both.both c.both_same.ensures.grows c.in_ok-both.ensures.term

pub everywhere-requires-2 : goal.everywhere-requires-2
everywhere-requires-2 c =
    once_open c.args.bank.now (the_type c.args.ty.now) c.args.f c.requires.predicate c.both_same.new.bank c.in_ok-both.both c.both_same.ensures.grows c.in_ok-both.ensures.term
    c.everywhere.new.bank c.in_ok-of_inner.of_inner c.everywhere.ensures.grows c.in_ok-of_inner.ensures.term

pub returns-in_err-everywhere-clause-right : goal.returns-in_err-everywhere-clause-right
returns-in_err-everywhere-clause-right c =
    right_grown c.both_same.new.normal c.both_same.new.bank c.everywhere-2.new.bank (grows_on c.both_same.new.bank c.everywhere.new.bank c.everywhere-2.new.bank c.everywhere.ensures.grows c.everywhere-2.ensures.grows) c.both_same.ensures.right

pub returns-clause-term : goal.returns-clause-term
returns-clause-term c =
    once_made c.args.bank.now (the_type c.args.ty.now) c.args.f c.requires.predicate c.both_same.new.bank c.in_ok-both.both c.both_same.ensures.grows c.in_ok-both.ensures.term
    c.everywhere.new.bank c.in_ok-of_inner.of_inner c.everywhere.ensures.grows c.in_ok-of_inner.ensures.term
    c.everywhere-2.new.bank c.in_ok-everywhere.field-0 c.in_ok-everywhere.ensures.term

pub returns-clause-right : goal.returns-clause-right
returns-clause-right c =
    right_grown c.both_same.new.normal c.both_same.new.bank c.everywhere-2.new.bank (grows_on c.both_same.new.bank c.everywhere.new.bank c.everywhere-2.new.bank c.everywhere.ensures.grows c.everywhere-2.ensures.grows) c.both_same.ensures.right

pub returns-in_err-of_inner-clause-right : goal.returns-in_err-of_inner-clause-right
returns-in_err-of_inner-clause-right c = right_grown c.both_same.new.normal c.both_same.new.bank c.everywhere.new.bank c.everywhere.ensures.grows c.both_same.ensures.right

pub returns-in_err-both-clause-term : goal.returns-in_err-both-clause-term
returns-in_err-both-clause-term c = IfOk-from_err _ _ c.from_residual.ensures.0

pub returns-in_err-both-clause-grows : goal.returns-in_err-both-clause-grows
returns-in_err-both-clause-grows c = c.both_same.ensures.grows

pub returns-in_err-both-clause-right : goal.returns-in_err-both-clause-right
returns-in_err-both-clause-right c = c.both_same.ensures.right

pub returns-in_err-of_inner-clause-term : goal.returns-in_err-of_inner-clause-term
returns-in_err-of_inner-clause-term c = IfOk-from_err _ _ c.from_residual-in_err-of_inner.ensures.0

pub returns-in_err-of_inner-clause-grows : goal.returns-in_err-of_inner-clause-grows
returns-in_err-of_inner-clause-grows c = grows_on c.args.bank.now c.both_same.new.bank c.everywhere.new.bank c.both_same.ensures.grows c.everywhere.ensures.grows

pub returns-in_err-everywhere-clause-term : goal.returns-in_err-everywhere-clause-term
returns-in_err-everywhere-clause-term c = IfOk-from_err _ _ c.from_residual-in_err-everywhere.ensures.0

pub returns-in_err-everywhere-clause-grows : goal.returns-in_err-everywhere-clause-grows
returns-in_err-everywhere-clause-grows c = grows_on c.args.bank.now c.both_same.new.bank c.everywhere-2.new.bank c.both_same.ensures.grows (grows_on c.both_same.new.bank c.everywhere.new.bank c.everywhere-2.new.bank c.everywhere.ensures.grows c.everywhere-2.ensures.grows)

pub returns-clause-grows : goal.returns-clause-grows
returns-clause-grows c = grows_on c.args.bank.now c.both_same.new.bank c.everywhere-2.new.bank c.both_same.ensures.grows (grows_on c.both_same.new.bank c.everywhere.new.bank c.everywhere-2.new.bank c.everywhere.ensures.grows c.everywhere-2.ensures.grows)
