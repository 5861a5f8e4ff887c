use Rattle.std.proofs.Common.{sym}
use Rattle.tableau_calculus.specs.declared.rule_use.OfPredicate.TheVariants.{Cho, Des}
use Rattle.term_bank.specs.Terms.{term_at}
use Rattle.term_bank.proofs.GrowLaws.{grown_at}
use Rattle.tableau_rules.proofs.UseLaws.{predicate_by}
use Rattle.tableau_rules.proofs.dispatch.with_predicate.Goals as goal

pub returns-in_ok-cho_drafts-in-Cho-clause-drafted : goal.returns-in_ok-cho_drafts-in-Cho-clause-drafted
returns-in_ok-cho_drafts-in-Cho-clause-drafted c = λ atoms.
    let b = c.args.bank.now in
    let d = c.cho_drafts.new.bank in
    predicate_by d atoms c.args.rule c.args.term Cho (term_at b.terms c.args.term) c.in_ok-cho_drafts-in-Cho.field-0 c.in-Cho.is (sym (grown_at b d c.args.term c.cho_drafts.ensures.grows c.requires.term)) c.in_ok-cho_drafts-in-Cho.ensures.drafted

pub returns-in_ok-des_drafts-in-Des-clause-drafted : goal.returns-in_ok-des_drafts-in-Des-clause-drafted
returns-in_ok-des_drafts-in-Des-clause-drafted c = λ atoms.
    let b = c.args.bank.now in
    let d = c.des_drafts.new.bank in
    predicate_by d atoms c.args.rule c.args.term Des (term_at b.terms c.args.term) c.in_ok-des_drafts-in-Des.field-0 c.in-Des.is (sym (grown_at b d c.args.term c.des_drafts.ensures.grows c.requires.term)) c.in_ok-des_drafts-in-Des.ensures.drafted
