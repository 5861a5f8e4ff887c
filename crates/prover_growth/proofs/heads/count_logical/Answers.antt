use Rattle.std.proofs.Common.{◌≡◌, ◌+◌, Bool, length, sym, ap, ◌∙◌, arith}
use Rattle.search_spec.specs.Heads.{logical_heads}
use Rattle.head_offers.specs.Offering.{the_offers}
use Rattle.prover_state.specs.Internal.Standing.{scope_by}
use Rattle.prover_growth.proofs.HeadCounts.{own-formulas, own-choice, own-none}
use Rattle.prover_growth.proofs.heads.count_logical.Goals as goal

pub returns-then-base-eq0 : goal.returns-then-base-eq0
returns-then-base-eq0 c =
    let t = c.args.tables.now in
    let many : c.len-bases.result ≡ length t.bases.items = omega (arith, c.len-bases.ensures, t.bases.ok.0) in
    c.in_ok-plus.ensures ∙ ap (λ k. k + 4) c.in_ok-pairs.ensures
    ∙ own-formulas t c.requires.right.0 c.requires.right.1 c.args.base c.len-bases.result many (omega (arith, c.if-base-eq0.true)) _

pub returns-then-choice_fits : goal.returns-then-choice_fits
returns-then-choice_fits c =
    let t = c.args.tables.now in
    own-choice (the_offers t.offers) (scope_by t.basis) c.args.base (omega (arith, c.if-base-eq0.false))
    ∙ ap (λ (b : Bool). length (logical_heads (the_offers t.offers) (scope_by t.basis) c.args.base b)) (sym (sym c.choice_fits.ensures ∙ c.if-choice_fits.true))

pub returns : goal.returns
returns c =
    let t = c.args.tables.now in
    own-none (the_offers t.offers) (scope_by t.basis) c.args.base (omega (arith, c.if-base-eq0.false))
    ∙ ap (λ (b : Bool). length (logical_heads (the_offers t.offers) (scope_by t.basis) c.args.base b)) (sym (sym c.choice_fits.ensures ∙ c.if-choice_fits.false))
