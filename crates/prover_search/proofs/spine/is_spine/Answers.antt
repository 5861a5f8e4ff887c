use Rattle.std.proofs.Common.{map, sym, ap, ◌∙◌, arith}
use Rattle.std.proofs.lemmas.List.{length-map}
use Rattle.stt_core.specs.View.{the_head}
use Rattle.stt_core.proofs.HeadLaws.{atom_head}
use Rattle.term_bank.specs.Terms.{term_at, shape_term}
use Rattle.term_bank.specs.NodeView.{the_shape}
use Rattle.search_spec.specs.Spine.{is_spine}
use Rattle.prover_search.proofs.ShapedLaws.{spine-none, spine-some}
use Rattle.prover_search.proofs.spine.is_spine.Goals as goal

pub returns-then-len-eq0 : goal.returns-then-len-eq0
returns-then-len-eq0 c =
    let ts = c.args.bank.now.terms in
    let is = c.in-App.args in
    sym
    (ap is_spine (c.node.ensures.term ∙ ap (λ n. shape_term ts (the_shape n)) c.in-App.is)
    ∙ spine-none (the_head c.in-App.head) (atom_head c.in-App.head) (map (term_at ts) is) (omega (arith, length-map is (term_at ts), c.len.ensures, c.if-len-eq0.true)))

pub returns-else-len-eq0 : goal.returns-else-len-eq0
returns-else-len-eq0 c =
    let ts = c.args.bank.now.terms in
    let is = c.in-App.args in
    c.is_compared.ensures
    ∙ sym
    (ap is_spine (c.node.ensures.term ∙ ap (λ n. shape_term ts (the_shape n)) c.in-App.is)
    ∙ spine-some (the_head c.in-App.head) (atom_head c.in-App.head) (map (term_at ts) is) (λ n. absurd (omega (arith, n, length-map is (term_at ts), c.len.ensures, c.if-len-eq0.false))))

pub returns-in-Lam : goal.returns-in-Lam
returns-in-Lam c =
    let ts = c.args.bank.now.terms in
    sym (ap is_spine (c.node.ensures.term ∙ ap (λ n. shape_term ts (the_shape n)) c.in-Lam.is))
