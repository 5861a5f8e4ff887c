-- Partial terms without holes.
use Rattle.std.specs.Prelude.{◌≡◌, ℕ, zero, suc, List, [], ◌∷◌, map, Option, Some, None, option_map, option_and_then, slice_get, refl}
use Rattle.std.proofs.Common.{ap, ap₂, sym, ◌∙◌, subst}
use Rattle.std.proofs.lemmas.Option.{same_Some, slice_get-map}
use Rattle.stt_core.specs.SimpleType.{SimpleType}
use Rattle.stt_core.specs.Lambda.{Lambda, lam, app, applied}
use Rattle.stt_core.specs.Typing.{Scope}
use Rattle.stt_core.proofs.SpineLaws.{IsAtom}
use Rattle.search_spec.specs.Partial.{Partial, hole, head, function, application, or_else, whole_term}
use Rattle.term_bank.specs.Content.{Content, content_scope, HasTerm, Grows}
use Rattle.term_bank.specs.Terms.{term_at, IsTypedTerm}
use Rattle.term_bank.proofs.GrowLaws.{grows_itself, grown_scope, has_at}
use Rattle.term_bank.proofs.TypeLaws.{body_of}
use Rattle.term_bank.proofs.TreeLaws.{argument_ready}
use Rattle.instantiate.specs.PartialView.{applications}
use Rattle.instantiate.specs.Internal.Holes.{base_in, base_among}
use Rattle.instantiate.specs.Internal.Blanks.{term_of}
use Rattle.instantiate.specs.Internal.Interned.{AreTyped}
use Rattle.term_bank.specs.Internal.Places.{HaveTerms}
use Rattle.instantiate.proofs.HoleLaws.{base_in-function, base_in-application}

term_of-applications : (p : Partial) (qs : List Partial) → term_of (applications p qs) ≡ applied (term_of p) (map term_of qs)
term_of-applications p [] = refl
term_of-applications p (q ∷ qs) = term_of-applications (application p q) qs

pub term_of-spine : (h : Lambda) (qs : List Partial) → term_of (applications (head h) qs) ≡ applied h (map term_of qs)
term_of-spine h qs = term_of-applications (head h) qs

-- NO HOLES

neither : {A : Type 0} (x y : Option A) → or_else x y ≡ None → (x ≡ None) × (y ≡ None)
neither (Some x) y e = cc
neither None y e = (refl, e)

pub none_at : (ps : List Partial) (i : ℕ) (p : Partial) → base_among ps ≡ None → slice_get ps i ≡ Some p → base_in p ≡ None
none_at [] i p e at = cc
none_at (q ∷ ps) zero p e at = ap base_in (sym (same_Some q p at)) ∙ (neither (base_in q) (base_among ps) e).0
none_at (q ∷ ps) (suc i) p e at = none_at ps i p (neither (base_in q) (base_among ps) e).1 at

pub whole-none : (p : Partial) → base_in p ≡ None → whole_term p ≡ Some (term_of p)
whole-none (hole n) e = cc
whole-none (head h) e = refl
whole-none (function a p) e = ap (option_map (lam a)) (whole-none p (sym (base_in-function a p) ∙ e))
whole-none (application p q) e =
    let both = neither (base_in p) (base_in q) (sym (base_in-application p q) ∙ e) in
    ap₂ (λ x y. option_and_then (λ s. option_map (app s) y) x) (whole-none p both.0) (whole-none q both.1)

pub whole-hole : (p : Partial) (n : ℕ) → Some n ≡ base_in p → whole_term p ≡ None
whole-hole (hole m) n e = refl
whole-hole (head h) n e = cc
whole-hole (function a p) n e = ap (option_map (lam a)) (whole-hole p n (e ∙ base_in-function a p))
whole-hole (application p q) n e = go (base_in p) refl (e ∙ base_in-application p q) (λ m f. whole-hole p m f) (λ g. whole-hole q n g)
  where
    go : (x : Option ℕ) → base_in p ≡ x → Some n ≡ or_else x (base_in q) → ((m : ℕ) → Some m ≡ base_in p → whole_term p ≡ None) → (Some n ≡ base_in q → whole_term q ≡ None) → option_and_then (λ s. option_map (app s) (whole_term q)) (whole_term p) ≡ None
    go (Some m) f g left right = ap (option_and_then (λ s. option_map (app s) (whole_term q))) (left m (sym f))
    go None f g left right = ap₂ (λ x y. option_and_then (λ s. option_map (app s) y) x) (whole-none p f) (right g)

-- TERMS OF A BANK

pub body_typed : (scope : Scope) (a : SimpleType) (t : Lambda) → IsTypedTerm scope (lam a t) → IsTypedTerm scope t
body_typed scope a t h = let d = body_of scope h.ctx a h.type t h.canonical in record { ctx = a ∷ h.ctx; type = d.result; canonical = d.canonical }

pub arguments_typed : (b : Content) (h : Lambda) (qs : List Partial) → IsAtom h → IsTypedTerm (content_scope b) (applied h (map term_of qs)) → AreTyped (content_scope b) (map term_of qs)
arguments_typed b h qs o typed i u at = argument_ready b b [] h (map term_of qs) (applied h (map term_of qs)) i u o (grows_itself b) refl typed at

pub at_typed : (old new : Content) (ps : List Partial) (i : ℕ) (p : Partial) → Grows old new → AreTyped (content_scope old) (map term_of ps) → slice_get ps i ≡ Some p → IsTypedTerm (content_scope new) (term_of p)
at_typed old new ps i p g typed at =
    let P : Scope → Type 0 = λ s. IsTypedTerm s (term_of p) in
    subst P (sym (grown_scope old new g)) (typed i (term_of p) (slice_get-map term_of ps i ∙ ap (option_map term_of) at))

pub map-at : (ps : List Partial) (i : ℕ) (p : Partial) → slice_get ps i ≡ Some p → slice_get (map term_of ps) i ≡ Some (term_of p)
map-at ps i p at = slice_get-map term_of ps i ∙ ap (option_map term_of) at

pub spine_same : (b : Content) (h : Lambda) (ids slice : List ℕ) (us : List Lambda) → HaveTerms b ids us → slice ≡ ids → applied h (map (term_at b.terms) slice) ≡ applied h us
spine_same b h ids slice us r e = ap (applied h) (ap (map (term_at b.terms)) e ∙ r.are)

pub lam_ready : (old new : Content) (a : SimpleType) (p : Partial) (id : ℕ) (t : Lambda) → Grows old new → t ≡ lam a (term_of p) → IsTypedTerm (content_scope old) t → HasTerm new id (term_of p) → IsTypedTerm (content_scope new) (lam a (term_at new.terms id))
lam_ready old new a p id t g e typed has =
    let P : Scope → Type 0 = λ s. IsTypedTerm s (lam a (term_at new.terms id)) in
    let Q : Lambda → Type 0 = λ u. IsTypedTerm (content_scope old) u in
    subst P (sym (grown_scope old new g)) (subst Q (e ∙ ap (lam a) (sym (has_at new id (term_of p) has))) typed)

pub app_ready : (old new : Content) (h : Lambda) (qs : List Partial) (ids slice : List ℕ) (t : Lambda) → Grows old new → t ≡ applied h (map term_of qs) → IsTypedTerm (content_scope old) t → HaveTerms new ids (map term_of qs) → slice ≡ ids → IsTypedTerm (content_scope new) (applied h (map (term_at new.terms) slice))
app_ready old new h qs ids slice t g e typed have same =
    let P : Scope → Type 0 = λ s. IsTypedTerm s (applied h (map (term_at new.terms) slice)) in
    let Q : Lambda → Type 0 = λ u. IsTypedTerm (content_scope old) u in
    subst P (sym (grown_scope old new g)) (subst Q (e ∙ sym (spine_same new h ids slice (map term_of qs) have same)) typed)
