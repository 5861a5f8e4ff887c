use Rattle.std.proofs.Common.{◌≡◌, ◌+◌, ◌||◌, ◌==◌, ℕ, Bool, true, false, List, length, map, sym, ap, ◌∙◌, arith}
use Rattle.std.proofs.lemmas.Bool.{ne_eqb}
use Rattle.std.proofs.lemmas.List.{length-map}
use Rattle.stt_core.specs.TypedName.{TypedName}
use Rattle.term_bank.specs.Content.{content_scope}
use Rattle.term_bank.specs.Terms.{term_at}
use Rattle.search_spec.specs.Offers.{is_name, is_over, is_selection, offers_unseen, answers_from}
use Rattle.head_offers.specs.Offering.{occurs_among}
use Rattle.head_offers.specs.Internal.Passing.{any_passes}
use Rattle.head_offers.proofs.FlagLaws.{all-true, seen-are}
use Rattle.head_offers.proofs.offers.offered_heads.Goals as goal

pub returns-then-mode-eq0 : goal.returns-then-mode-eq0
returns-then-mode-eq0 c =
    let mode = c.args.mode.now in
    let scope = content_scope c.args.bank.now in
    let occurs = occurs_among (map (term_at c.args.bank.now.terms) c.args.start.now) in
    let names : c.len-names.result ≡ length scope.names = (let l = length-map c.args.bank.now.consts (λ (x : TypedName). x.type) in omega (arith, c.len-names.ensures, ap length c.sig.ensures.consts, l)) in
    let bases : c.in_ok-bases.bases ≡ scope.bases + 2 = omega (arith, c.in_ok-bases.ensures, c.len.ensures, ap length c.sig-2.ensures.bases) in
    let none : mode.names ≡ 0 = omega (arith, c.if-mode-eq0.true) in
    let unseen : offers_unseen mode ≡ true = ap (λ m. m == 0) none in
    let n_test : ℕ → Bool = λ k. offers_unseen mode || occurs (is_name k) in
    let b_test : ℕ → Bool = λ k. offers_unseen mode || occurs (is_over scope.names k) in
    let ns = c.in_ok-vec.ensures.items_if_clones_equal (λ y e. e) ∙ all-true n_test (λ k. ap (λ (b : Bool). b || occurs (is_name k)) unseen) 0 c.len-names.result ∙ ap (answers_from n_test 0) names in
    let bs = c.in_ok-vec-2.ensures.items_if_clones_equal (λ y e. e) ∙ all-true b_test (λ k. ap (λ (b : Bool). b || occurs (is_over scope.names k)) unseen) 0 c.in_ok-bases.bases ∙ ap (answers_from b_test 0) bases in
    let cs : true ≡ (offers_unseen mode || occurs is_selection) = sym (ap (λ (b : Bool). b || occurs is_selection) unseen) in
    λ i. record { names = ns i; bases = bs i; choices = cs i }

pub returns : goal.returns
returns c =
    let mode = c.args.mode.now in
    let ts = c.args.bank.now.terms in
    let scope = content_scope c.args.bank.now in
    let occurs = occurs_among (map (term_at ts) c.args.start.now) in
    let names : c.len-names.result ≡ length scope.names = (let l = length-map c.args.bank.now.consts (λ (x : TypedName). x.type) in omega (arith, c.len-names.ensures, ap length c.sig.ensures.consts, l)) in
    let bases : c.in_ok-bases.bases ≡ scope.bases + 2 = omega (arith, c.in_ok-bases.ensures, c.len.ensures, ap length c.sig-2.ensures.bases) in
    let unseen : offers_unseen mode ≡ false = ne_eqb mode.names 0 (λ e. absurd (omega (arith, e, c.if-mode-eq0.false))) in
    let ns = seen-are c.in_ok-names_at_heads.field-0.items (offers_unseen mode) (λ k. occurs (is_name k)) c.len-names.result (length scope.names) unseen names c.in_ok-names_at_heads.ensures.length
    (λ k h. c.in_ok-names_at_heads.ensures.flags k h ∙ ap (any_passes ts (is_name k)) c.as_slice.ensures.value ∙ c.in_ok-found.ensures.heads (is_name k)) in
    let bs = seen-are c.in_ok-bases_at_heads.field-0.items (offers_unseen mode) (λ k. occurs (is_over scope.names k)) c.in_ok-bases.bases (scope.bases + 2) unseen bases c.in_ok-bases_at_heads.ensures.length
    (λ k h. c.in_ok-bases_at_heads.ensures.flags k h ∙ ap (any_passes ts (is_over scope.names k)) c.as_slice-2.ensures.value ∙ c.in_ok-found.ensures.heads (is_over scope.names k)) in
    let cs : c.selects_at_heads.result ≡ (offers_unseen mode || occurs is_selection) =
    c.selects_at_heads.ensures ∙ ap (any_passes ts is_selection) c.as_slice-3.ensures.value ∙ c.in_ok-found.ensures.heads is_selection ∙ sym (ap (λ (b : Bool). b || occurs is_selection) unseen) in
    λ i. record { names = ns i; bases = bs i; choices = cs i }
