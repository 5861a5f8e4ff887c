use Rattle.std.proofs.Common.{[], ◌∷◌, sym, ◌∙◌, arith, true≢false}
use Rattle.stt_core.specs.Lambda.{implication}
use Rattle.term_bank.specs.Terms.{term_at}
use Rattle.tableau_rules.proofs.PartLaws.{implication_count, implication_is, implication_head_none}
use Rattle.tableau_rules.proofs.part.implication_of.Goals as goal

pub returns-then-len-ne2 : goal.returns-then-len-ne2
returns-then-len-ne2 c =
    let b = c.args.bank.now in
    implication_count b (term_at b.terms c.args.id) c.in-Some.spine c.in-Some.ensures (λ n. absurd (omega (arith, n, c.len.ensures, c.if-len-ne2.true)))

pub returns-then-is_implication_head : goal.returns-then-is_implication_head
returns-then-is_implication_head c =
    let b = c.args.bank.now in
    implication_is b (term_at b.terms c.args.id) c.in-Some.spine c.in-Some.ensures (c.is_implication_head.ensures.0 c.if-is_implication_head.true) c.at.result c.at-then-is_implication_head.result (omega (arith, c.len.ensures, c.if-len-ne2.false)) c.at.ensures c.at-then-is_implication_head.ensures

pub returns-else-is_implication_head : goal.returns-else-is_implication_head
returns-else-is_implication_head c =
    let b = c.args.bank.now in
    implication_head_none b (term_at b.terms c.args.id) c.in-Some.spine c.in-Some.ensures (λ e. true≢false (sym (c.is_implication_head.ensures.1 e) ∙ c.if-is_implication_head.false))

pub returns-in-None : goal.returns-in-None
returns-in-None c = λ s u. c.in-None.ensures implication (s ∷ u ∷ [])
