use Rattle.std.proofs.Common.{◌&&◌, Bool, map, sym, ap, ◌∙◌, arith}
use Rattle.std.proofs.lemmas.List.{length-map}
use Rattle.stt_core.specs.View.{the_head}
use Rattle.stt_core.proofs.HeadLaws.{atom_head}
use Rattle.term_bank.specs.Terms.{term_at, shape_term}
use Rattle.term_bank.specs.NodeView.{the_shape}
use Rattle.search_spec.specs.Defaults.{holds_of_nothing, is_default_term}
use Rattle.instantiate.proofs.DefaultLaws.{default-others, default-single, default-unchosen}
use Rattle.instantiate.proofs.defaults.is_default_term.Goals as goal

pub returns-then-len-ne1 : goal.returns-then-len-ne1
returns-then-len-ne1 c =
    let ts = c.args.bank.now.terms in
    let is = c.in-App.args in
    sym
    (ap is_default_term (c.node.ensures.term ∙ ap (λ n. shape_term ts (the_shape n)) c.in-App.is)
    ∙ default-others (the_head c.in-App.head) (atom_head c.in-App.head) (map (term_at ts) is) (λ n. absurd (omega (arith, n, length-map is (term_at ts), c.len.ensures, c.if-len-ne1.true))))

pub returns-then-not-is_value_choice : goal.returns-then-not-is_value_choice
returns-then-not-is_value_choice c =
    let ts = c.args.bank.now.terms in
    let is = c.in-App.args in
    sym
    (ap is_default_term (c.node.ensures.term ∙ ap (λ n. shape_term ts (the_shape n)) c.in-App.is)
    ∙ default-unchosen (the_head c.in-App.head) (map (term_at ts) is) (omega (arith, length-map is (term_at ts), c.len.ensures, c.if-len-ne1.false)) (sym c.is_value_choice.ensures ∙ c.if-not-is_value_choice.true))

pub returns-else-not-is_value_choice : goal.returns-else-not-is_value_choice
returns-else-not-is_value_choice c =
    let ts = c.args.bank.now.terms in
    let is = c.in-App.args in
    let chosen = sym c.is_value_choice.ensures ∙ c.if-not-is_value_choice.false in
    c.holds_of_nothing.ensures
    ∙ sym
    (ap is_default_term (c.node.ensures.term ∙ ap (λ n. shape_term ts (the_shape n)) c.in-App.is)
    ∙ default-single (the_head c.in-App.head) (term_at ts) is c.at.result (omega (arith, c.len.ensures, c.if-len-ne1.false)) c.at.ensures
    ∙ ap (λ (b : Bool). b && holds_of_nothing (term_at ts c.at.result)) chosen)
