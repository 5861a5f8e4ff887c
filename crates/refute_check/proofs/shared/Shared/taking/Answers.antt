use Rattle.std.proofs.Common.{sym, subst}
use Rattle.refute_check.specs.Numbered.{numbered_rule}
use Rattle.refute_check.specs.Internal.Taking.{Takes}
use Rattle.refute_check.proofs.shared.Shared.taking.Goals as goal

pub returns-in-AtOne-clause-takes : goal.returns-in-AtOne-clause-takes
returns-in-AtOne-clause-takes c = λ ls h.
    subst (λ x. Takes c.args.self.now ls (numbered_rule c.args.numbering.now x) c.at_one.result) (sym c.in-AtOne.is) (c.at_one.ensures c.args.self.now ls h)

pub returns-in-AtTwo-clause-takes : goal.returns-in-AtTwo-clause-takes
returns-in-AtTwo-clause-takes c = λ ls h.
    subst (λ x. Takes c.args.self.now ls (numbered_rule c.args.numbering.now x) c.at_two.result) (sym c.in-AtTwo.is) (c.at_two.ensures c.args.self.now ls h)

pub returns-in_ok-at_term-in-AllPos-clause-takes : goal.returns-in_ok-at_term-in-AllPos-clause-takes
returns-in_ok-at_term-in-AllPos-clause-takes c = λ ls h.
    subst (λ x. Takes c.at_term.new.self ls (numbered_rule c.args.numbering.now x) c.in_ok-at_term-in-AllPos.field-0) (sym c.in-AllPos.is) (c.in_ok-at_term-in-AllPos.ensures.takes ls h)

pub returns-in_ok-of_predicate-in-WithPredicate-clause-takes : goal.returns-in_ok-of_predicate-in-WithPredicate-clause-takes
returns-in_ok-of_predicate-in-WithPredicate-clause-takes c = λ ls h.
    subst (λ x. Takes c.of_predicate.new.self ls (numbered_rule c.args.numbering.now x) c.in_ok-of_predicate-in-WithPredicate.field-0) (sym c.in-WithPredicate.is) (c.in_ok-of_predicate-in-WithPredicate.ensures.takes ls)

pub returns-in_ok-of_cut-in-Cut-clause-takes : goal.returns-in_ok-of_cut-in-Cut-clause-takes
returns-in_ok-of_cut-in-Cut-clause-takes c = λ ls h.
    subst (λ x. Takes c.of_cut.new.self ls (numbered_rule c.args.numbering.now x) c.in_ok-of_cut-in-Cut.field-0) (sym c.in-Cut.is) (c.in_ok-of_cut-in-Cut.ensures.takes ls)
