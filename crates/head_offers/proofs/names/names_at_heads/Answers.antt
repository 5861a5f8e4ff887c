use Rattle.std.proofs.Common.{Bool, ◌||◌, sym, ap, ◌∙◌, arith}
use Rattle.term_bank.specs.Terms.{term_at}
use Rattle.search_spec.specs.Offers.{is_name}
use Rattle.head_offers.specs.Internal.Marks.{is_flagged}
use Rattle.head_offers.specs.Internal.Passing.{head_passes}
use Rattle.head_offers.proofs.PassLaws.{any-more}
use Rattle.head_offers.proofs.names.names_at_heads.Goals as goal

pub loop-i-preserved : goal.loop-i-preserved
loop-i-preserved c =
    let ts = c.args.bank.now.terms in
    let inv = c.loop-i.invariant in
    record {
      length = c.mark_name.ensures.length ∙ inv.length;
      flags = λ k h. any-more (λ id. head_passes (is_name k) (term_at ts id)) c.args.found.now c.loop-i.i _ _ _ (omega (arith, c.loop-i-test.true)) (inv.flags k h) (c.mark_name.ensures.flags k (omega (arith, h, inv.length)) ∙ ap (λ (b : Bool). is_flagged c.loop-i.flags.items k || b) (sym (c.name_at-name.ensures k)));
    }
