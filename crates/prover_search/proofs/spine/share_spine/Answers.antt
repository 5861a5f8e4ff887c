use Rattle.std.proofs.Common.{Bool, sym, ap, ◌∙◌}
use Rattle.std.specs.Prelude.{◌&&◌}
use Rattle.term_bank.specs.Terms.{term_at}
use Rattle.search_spec.specs.Spine.{same_head}
use Rattle.prover_search.proofs.spine.share_spine.Goals as goal

pub returns-then-is_spine : goal.returns-then-is_spine
returns-then-is_spine c =
    let ts = c.args.bank.now.terms in
    c.has_its_head.ensures ∙ ap (λ (x : Bool). x && same_head (term_at ts c.args.s) (term_at ts c.args.t)) (sym c.if-is_spine.true ∙ c.is_spine.ensures)

pub returns-else-is_spine : goal.returns-else-is_spine
returns-else-is_spine c =
    let ts = c.args.bank.now.terms in
    ap (λ (x : Bool). x && same_head (term_at ts c.args.s) (term_at ts c.args.t)) (sym c.if-is_spine.false ∙ c.is_spine.ensures)
