use Rattle.std.proofs.Common.{List, Some, sym, subst}
use Rattle.tableau_calculus.specs.Witnesses.{Row}
use Rattle.bank_normal.proofs.RightLaws.{right_grown}
use Rattle.tableau_rules.specs.Internal.Used.{DraftedBy}
use Rattle.tableau_rules.proofs.dispatch.unwitnessed_drafts.Goals as goal

pub returns-in_err-at_one-in-AtOne-clause-right : goal.returns-in_err-at_one-in-AtOne-clause-right
returns-in_err-at_one-in-AtOne-clause-right c = right_grown c.args.normal.now c.args.bank.now c.at_one.new.bank c.at_one.ensures.grows c.requires.right

pub returns-in_ok-at_one-in-AtOne-clause-drafted : goal.returns-in_ok-at_one-in-AtOne-clause-drafted
returns-in_ok-at_one-in-AtOne-clause-drafted c =
    subst (λ u. (rows : List Row) → DraftedBy c.at_one.new.bank c.args.lits.now rows u c.in_ok-at_one-in-AtOne.field-0) (sym c.in-AtOne.is) c.in_ok-at_one-in-AtOne.ensures.drafted

pub returns-in_ok-at_one-in-AtOne-clause-right : goal.returns-in_ok-at_one-in-AtOne-clause-right
returns-in_ok-at_one-in-AtOne-clause-right c = right_grown c.args.normal.now c.args.bank.now c.at_one.new.bank c.at_one.ensures.grows c.requires.right

pub returns-in_err-at_two-in-AtTwo-clause-right : goal.returns-in_err-at_two-in-AtTwo-clause-right
returns-in_err-at_two-in-AtTwo-clause-right c = right_grown c.args.normal.now c.args.bank.now c.at_two.new.bank c.at_two.ensures.grows c.requires.right

pub returns-in_ok-at_two-in-AtTwo-clause-drafted : goal.returns-in_ok-at_two-in-AtTwo-clause-drafted
returns-in_ok-at_two-in-AtTwo-clause-drafted c =
    subst (λ u. (rows : List Row) → DraftedBy c.at_two.new.bank c.args.lits.now rows u c.in_ok-at_two-in-AtTwo.field-0) (sym c.in-AtTwo.is) c.in_ok-at_two-in-AtTwo.ensures.drafted

pub returns-in_ok-at_two-in-AtTwo-clause-right : goal.returns-in_ok-at_two-in-AtTwo-clause-right
returns-in_ok-at_two-in-AtTwo-clause-right c = right_grown c.args.normal.now c.args.bank.now c.at_two.new.bank c.at_two.ensures.grows c.requires.right

pub returns-in_ok-all_pos-in-AllPos-clause-drafted : goal.returns-in_ok-all_pos-in-AllPos-clause-drafted
returns-in_ok-all_pos-in-AllPos-clause-drafted c =
    subst (λ u. (rows : List Row) → DraftedBy c.all_pos.new.bank c.args.lits.now rows u c.in_ok-all_pos-in-AllPos.field-0) (sym c.in-AllPos.is) c.in_ok-all_pos-in-AllPos.ensures.drafted

pub returns-in_ok-with_predicate-in-WithPredicate-clause-drafted : goal.returns-in_ok-with_predicate-in-WithPredicate-clause-drafted
returns-in_ok-with_predicate-in-WithPredicate-clause-drafted c =
    subst (λ u. (rows : List Row) → DraftedBy c.with_predicate.new.bank c.args.lits.now rows u c.in_ok-with_predicate-in-WithPredicate.field-0) (sym c.in-WithPredicate.is) (c.in_ok-with_predicate-in-WithPredicate.ensures.drafted c.args.lits.now)

pub returns-in_ok-cut-in-Cut-clause-drafted : goal.returns-in_ok-cut-in-Cut-clause-drafted
returns-in_ok-cut-in-Cut-clause-drafted c =
    subst (λ u. (rows : List Row) → DraftedBy c.args.bank.now c.args.lits.now rows u (Some c.in_ok-cut-in-Cut.field-0)) (sym c.in-Cut.is) c.in_ok-cut-in-Cut.ensures
