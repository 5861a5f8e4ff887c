use Rattle.std.proofs.Common.{List, map, slice_get, option_map, sym, ap, subst, ◌∙◌}
use Rattle.stt_core.specs.TypedName.{TypedName}
use Rattle.stt_core.specs.Lambda.{Lambda}
use Rattle.stt_core.specs.Canonical.{IsCanonical}
use Rattle.stt_core.specs.View.{the_head}
use Rattle.stt_core.proofs.HeadLaws.{atom_head}
use Rattle.term_bank.specs.Content.{content_scope}
use Rattle.term_bank.specs.Terms.{term_at, shape_term}
use Rattle.term_bank.specs.NodeView.{the_shape}
use Rattle.term_bank.proofs.TypeLaws.{head_typed}
use Rattle.search_spec.specs.Offers.{is_over}
use Rattle.head_offers.specs.Internal.Passing.{head_passes, has_base_if_any}
use Rattle.head_offers.proofs.PassLaws.{passes-applied, some-name-passes, no-name-passes, mapped-type}
use Rattle.head_offers.proofs.bases.type_at.Goals as goal

pub returns-in-Some : goal.returns-in-Some
returns-in-Some c = λ n.
    let ts = c.args.bank.now.terms in
    let scope = content_scope c.args.bank.now in
    let h = the_head c.in-App.head in
    let us = map (term_at ts) c.in-App.args in
    let is = c.node.ensures.term ∙ ap (λ n. shape_term ts (the_shape n)) c.in-App.is in
    let typed = c.node.ensures.typed in
    let C : Lambda → Type 0 = λ t. IsCanonical scope typed.ctx typed.type t in
    let told = c.type_of.ensures ∙ ap (λ (cs : List TypedName). option_map (λ (x : TypedName). x.type) (slice_get cs c.in-Some.k)) c.sig.ensures.consts ∙ mapped-type c.args.bank.now.consts c.in-Some.k in
    ap (head_passes (is_over scope.names n)) is
    ∙ passes-applied (is_over scope.names n) h us
    ∙ some-name-passes scope typed.ctx n c.in-Some.k h c.in-Some.ensures _ told (head_typed scope typed.ctx typed.type h us (atom_head c.in-App.head) (subst C is typed.canonical))

pub returns-in-None : goal.returns-in-None
returns-in-None c = λ n.
    let ts = c.args.bank.now.terms in
    let names = (content_scope c.args.bank.now).names in
    let h = the_head c.in-App.head in
    ap (head_passes (is_over names n)) (c.node.ensures.term ∙ ap (λ n. shape_term ts (the_shape n)) c.in-App.is)
    ∙ passes-applied (is_over names n) h (map (term_at ts) c.in-App.args)
    ∙ no-name-passes names n h (atom_head c.in-App.head) c.in-None.ensures
    ∙ ap (has_base_if_any n) (sym c.ranged_type.ensures)
