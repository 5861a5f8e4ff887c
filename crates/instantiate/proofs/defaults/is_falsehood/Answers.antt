use Rattle.std.proofs.Common.{map, sym, ap, ◌∙◌, arith}
use Rattle.std.proofs.lemmas.List.{length-map}
use Rattle.stt_core.specs.View.{the_head}
use Rattle.term_bank.specs.Terms.{term_at, shape_term}
use Rattle.term_bank.specs.NodeView.{the_shape}
use Rattle.search_spec.specs.Defaults.{is_falsehood}
use Rattle.instantiate.proofs.DefaultLaws.{falsehood-others, falsehood-alone}
use Rattle.instantiate.proofs.defaults.is_falsehood.Goals as goal

pub returns-then-len-ne0 : goal.returns-then-len-ne0
returns-then-len-ne0 c =
    let ts = c.args.bank.now.terms in
    let is = c.in-App.args in
    sym
    (ap is_falsehood (c.node.ensures.term ∙ ap (λ n. shape_term ts (the_shape n)) c.in-App.is)
    ∙ falsehood-others (the_head c.in-App.head) (map (term_at ts) is) (λ n. absurd (omega (arith, n, length-map is (term_at ts), c.len.ensures, c.if-len-ne0.true))))

pub returns-else-len-ne0 : goal.returns-else-len-ne0
returns-else-len-ne0 c =
    let ts = c.args.bank.now.terms in
    let is = c.in-App.args in
    c.is_falsity.ensures
    ∙ falsehood-alone (the_head c.in-App.head) (map (term_at ts) is) (omega (arith, length-map is (term_at ts), c.len.ensures, c.if-len-ne0.false))
    ∙ sym (ap is_falsehood (c.node.ensures.term ∙ ap (λ n. shape_term ts (the_shape n)) c.in-App.is))
