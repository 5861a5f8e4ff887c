use Rattle.tableau_calculus.proofs.ListLaws.{untrue}
use Rattle.term_bank.proofs.GrowLaws.{grows_itself}
use Rattle.tableau_rules.proofs.SpineDrafts.{dec_found, dec_not}
use Rattle.tableau_rules.proofs.spine.dec_drafts.Goals as goal

pub returns-then-not-is_plain_base-clause-drafted : goal.returns-then-not-is_plain_base-clause-drafted
returns-then-not-is_plain_base-clause-drafted c = λ rows.
    let b = c.args.bank.now in
    dec_not b b rows (grows_itself b) c.args.p c.requires c.in-Some.equation c.in-Some.ensures (λ h. untrue (c.is_plain_base.ensures.1 h) c.if-not-is_plain_base.true)

pub returns-in_ok-compared_drafts-in-Some-clause-drafted : goal.returns-in_ok-compared_drafts-in-Some-clause-drafted
returns-in_ok-compared_drafts-in-Some-clause-drafted c = λ rows.
    let n = c.is_plain_base.ensures.0 c.if-not-is_plain_base.false in
    dec_found c.args.bank.now c.compared_drafts.new.bank rows c.compared_drafts.ensures.grows c.args.p c.requires c.in-Some.equation c.in-Some.ensures c.if-p.false n.0 n.1 c.in_ok-compared_drafts-in-Some.field-0 c.in_ok-compared_drafts-in-Some.ensures.compared
