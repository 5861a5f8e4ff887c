use Rattle.std.proofs.Common.{◌≡◌, Bool, List, map, ap, subst, ◌∙◌}
use Rattle.std.specs.Prelude.{filter, IfOk}
use Rattle.stt_core.specs.Lambda.{Constant}
use Rattle.tableau_calculus.specs.Start.{without_repeats}
use Rattle.term_bank.specs.Content.{content_scope}
use Rattle.term_bank.specs.Terms.{term_at}
use Rattle.literal_map.specs.Atoms.{bank_literal}
use Rattle.search_spec.specs.Heads.{HeadOffers}
use Rattle.search_spec.specs.Offers.{has_in_start}
use Rattle.search_spec.specs.Shallow.{is_shallow_literal}
use Rattle.head_offers.specs.Offering.{the_offers, occurs_among, offered_where}
use Rattle.prover_search.proofs.OfferedLaws.{occurs-start}
use Rattle.prover_search.proofs.offered.start_offers.Goals as goal

pub returns : goal.returns
returns c =
    let b = c.args.basis.now in
    let ls = map (bank_literal b.bank.terms b.lits) c.args.start.now in
    let terms = map (term_at b.bank.terms) c.as_slice.result.now in
    let are = ap (map (term_at b.bank.terms)) c.as_slice.ensures.value ∙ c.in_ok-atoms.ensures.atoms in
    let occurs : (test : Constant → Bool) → occurs_among terms test ≡ has_in_start test (filter is_shallow_literal (without_repeats ls)) = occurs-start ls terms are in
    subst (λ (x : HeadOffers). IfOk c.offered_heads.result (λ o. the_offers o ≡ x)) (ap (offered_where c.args.mode.now (content_scope b.bank)) (λ i test. occurs test i)) c.offered_heads.ensures
