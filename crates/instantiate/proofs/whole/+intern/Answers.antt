use Rattle.std.proofs.lemmas.Result.{IfOk-weaker}
use Rattle.std.proofs.Common.{map, ap, sym, subst, ◌∙◌, ◌≡◌, arith}
use Rattle.stt_core.specs.View.{the_type, the_head}
use Rattle.stt_core.specs.Lambda.{Lambda, lam}
use Rattle.stt_core.proofs.HeadLaws.{atom_head}
use Rattle.search_spec.specs.Partial.{head as the_leaf, function}
use Rattle.term_bank.specs.Content.{content_scope, HasTerm}
use Rattle.term_bank.specs.Terms.{IsTypedTerm}
use Rattle.term_bank.proofs.GrowLaws.{has_within, has_at}
use Rattle.term_bank.proofs.TreeLaws.{one_imported}
use Rattle.instantiate.specs.PartialView.{the_partial_node, applications}
use Rattle.instantiate.specs.Internal.PartialSizes.{partial_node_count, applications_fall}
use Rattle.instantiate.specs.Internal.Holes.{base_in}
use Rattle.instantiate.specs.Internal.Blanks.{term_of}
use Rattle.instantiate.proofs.HoleLaws.{node_count-at, base_in-function, base_in-spine}
use Rattle.instantiate.proofs.WholeLaws.{term_of-spine, none_at, body_typed, arguments_typed, at_typed, map-at, spine_same, lam_ready, app_ready}
use Rattle.instantiate.proofs.whole.+intern.Goals as goal

-- A FUNCTION

pub intern-intern-requires : goal.intern-intern-requires
intern-intern-requires t c =
    let a = the_type c.in-Lam.ty in
    let p = c.deref.result.now in
    let it : function a p ≡ c.args.partial.now = ap (function a) c.deref.ensures ∙ ap the_partial_node (sym c.in-Lam.is) ∙ c.partial.view_is in
    let Typed : Lambda → Type 0 = λ u. IsTypedTerm (content_scope c.args.bank.now) u in (
      omega (arith, ap partial_node_count it),
      (sym (base_in-function a p) ∙ ap base_in it ∙ c.requires.whole, body_typed (content_scope c.args.bank.now) a (term_of p) (subst Typed (ap term_of (sym it)) c.requires.typed)),
    )

pub intern-intern_lam-requires-clause-within : goal.intern-intern_lam-requires-clause-within
intern-intern_lam-requires-clause-within t c = has_within c.intern.new.bank c.in_ok-body-in-Lam.body (term_of c.deref.result.now) c.in_ok-body-in-Lam.ensures.term

pub intern-intern_lam-requires-clause-typed : goal.intern-intern_lam-requires-clause-typed
intern-intern_lam-requires-clause-typed t c =
    let a = the_type c.in-Lam.ty in
    let p = c.deref.result.now in
    let it : function a p ≡ c.args.partial.now = ap (function a) c.deref.ensures ∙ ap the_partial_node (sym c.in-Lam.is) ∙ c.partial.view_is in
    lam_ready c.args.bank.now c.intern.new.bank a p c.in_ok-body-in-Lam.body (term_of c.args.partial.now) c.in_ok-body-in-Lam.ensures.grows (ap term_of (sym it)) c.requires.typed c.in_ok-body-in-Lam.ensures.term

pub intern-returns-in_ok-body-in-Lam-clause-term : goal.intern-returns-in_ok-body-in-Lam-clause-term
intern-returns-in_ok-body-in-Lam-clause-term t c =
    let a = the_type c.in-Lam.ty in
    let p = c.deref.result.now in
    let it : function a p ≡ c.args.partial.now = ap (function a) c.deref.ensures ∙ ap the_partial_node (sym c.in-Lam.is) ∙ c.partial.view_is in
    let same = ap (lam a) (has_at c.intern.new.bank c.in_ok-body-in-Lam.body (term_of p) c.in_ok-body-in-Lam.ensures.term) ∙ ap term_of it in
    IfOk-weaker c.intern_lam.result _ _ (λ id h. subst (HasTerm c.intern_lam.new.self id) same h) c.intern_lam.ensures.term

-- A HEAD WITH ITS ARGUMENTS

pub intern-intern_all-requires : goal.intern-intern_all-requires
intern-intern_all-requires t c =
    let h = the_head c.in-App.head in
    let qs = c.in-App.args in
    let it : applications (the_leaf h) qs ≡ c.args.partial.now = ap the_partial_node (sym c.in-App.is) ∙ c.partial.view_is in
    let Typed : Lambda → Type 0 = λ u. IsTypedTerm (content_scope c.args.bank.now) u in (
      omega (arith, ap partial_node_count it, applications_fall (the_leaf h) qs),
      (sym (base_in-spine h qs) ∙ ap base_in it ∙ c.requires.whole, arguments_typed c.args.bank.now h qs (atom_head c.in-App.head) (subst Typed (ap term_of (sym it) ∙ term_of-spine h qs) c.requires.typed)),
    )

pub intern-intern_app-requires-clause-typed : goal.intern-intern_app-requires-clause-typed
intern-intern_app-requires-clause-typed t c =
    let h = the_head c.in-App.head in
    let qs = c.in-App.args in
    let it : applications (the_leaf h) qs ≡ c.args.partial.now = ap the_partial_node (sym c.in-App.is) ∙ c.partial.view_is in
    app_ready c.args.bank.now c.intern_all.new.bank h qs c.in_ok-args-in-App.args c.as_slice.result.now (term_of c.args.partial.now) c.in_ok-args-in-App.ensures.grows (ap term_of (sym it) ∙ term_of-spine h qs) c.requires.typed c.in_ok-args-in-App.ensures.terms c.as_slice.ensures

pub intern-returns-in_ok-args-in-App-clause-term : goal.intern-returns-in_ok-args-in-App-clause-term
intern-returns-in_ok-args-in-App-clause-term t c =
    let h = the_head c.in-App.head in
    let qs = c.in-App.args in
    let it : applications (the_leaf h) qs ≡ c.args.partial.now = ap the_partial_node (sym c.in-App.is) ∙ c.partial.view_is in
    let same = spine_same c.intern_all.new.bank h c.in_ok-args-in-App.args c.as_slice.result.now (map term_of qs) c.in_ok-args-in-App.ensures.terms c.as_slice.ensures ∙ sym (term_of-spine h qs) ∙ ap term_of it in
    IfOk-weaker c.intern_app.result _ _ (λ id h. subst (HasTerm c.intern_app.new.self id) same h) c.intern_app.ensures.term

-- ALL ARGUMENTS

pub intern_all-intern-requires : goal.intern_all-intern-requires
intern_all-intern-requires t c =
    let ps = c.args.partials.now in
    let p = c.at.result.now in (
      omega (arith, node_count-at ps c.loop-i.i p c.at.ensures),
      (none_at ps c.loop-i.i p c.requires.whole c.at.ensures, at_typed c.args.bank.now c.loop-i.bank ps c.loop-i.i p c.loop-i.invariant.grows c.requires.typed c.at.ensures),
    )

pub intern_all-loop-i-preserved : goal.intern_all-loop-i-preserved
intern_all-loop-i-preserved t c =
    let ps = c.args.partials.now in
    let p = c.at.result.now in
    one_imported c.args.bank.now c.loop-i.bank c.intern.new.bank (map term_of ps) c.loop-i.i (term_of p) c.loop-i.ids c.push.new.self c.in_ok-id.id c.loop-i.invariant (map-at ps c.loop-i.i p c.at.ensures) c.in_ok-id.ensures.grows c.in_ok-id.ensures.term c.in_ok-push.ensures.ok
