-- Whole terms that are taken in.
use Rattle.std.proofs.Common.{◌≡◌, ℕ, zero, suc, ◌+◌, ◌-◌, ◌<◌, ◌≤◌, List, [], ◌∷◌, ◌++◌, map, take, take_all, drop, length, slice_get, Some, refl, sym, ap, ap₂, subst, ◌∙◌, arith}
use Rattle.std.specs.Prelude.{All}
use Rattle.std.proofs.lemmas.List.Elements.{All-push}
use Rattle.stt_core.specs.SimpleType.{SimpleType}
use Rattle.stt_core.specs.Lambda.{Lambda, lam, lambdas, applied}
use Rattle.stt_core.specs.Typing.{Scope}
use Rattle.stt_core.proofs.SpineLaws.{IsAtom}
use Rattle.stt_core.proofs.ListLaws.{take_got, drop_got, map-append}
use Rattle.term_bank.specs.Terms.{term_at, IsTypedTerm}
use Rattle.term_bank.specs.Content.{Content, content_scope, HasTerm, Grows}
use Rattle.term_bank.proofs.GrowLaws.{grows_on, grown_scope, grown_all, grown_terms, has_within, has_at}
use Rattle.term_bank.proofs.TypeLaws.{body_of, argument_typed}

-- the bank has grown, and these places have these terms
pub record AreImported (old new : Content) (terms : List Lambda) (ids : List ℕ) : Type 0 where
  pub grows : Grows old new
  pub within : All (λ i. i < length new.terms) ids
  pub are : map (term_at new.terms) ids ≡ terms

pub record IsImported (old new : Content) (id : ℕ) (t : Lambda) : Type 0 where
  pub grows : Grows old new
  pub has : HasTerm new id t

-- one more
pub one_imported : (old b c : Content) (us : List Lambda) (i : ℕ) (u : Lambda) (ids all : List ℕ) (id : ℕ) → AreImported old b (take i us) ids → slice_get us i ≡ Some u → Grows b c → HasTerm c id u → all ≡ ids ++ id ∷ [] → AreImported old c (take (i + 1) us) all
one_imported old b c us i u ids all id h g grows has is = record {
  grows = grows_on old b c h.grows grows;
  within = subst (All (λ j. j < length c.terms)) (sym is) (All-push (λ j. j < length c.terms) ids id (grown_all b c ids grows h.within) (has_within c id u has));
  are =
      ap (map (term_at c.terms)) is
      ∙ map-append (term_at c.terms) ids (id ∷ [])
      ∙ ap₂ (λ l x. l ++ x ∷ []) (grown_terms b c ids grows h.within ∙ h.are) (has_at c id u has)
      ∙ sym (take_got us i u g);
}

-- the terms under the first binders
typed_drop : (scope : Scope) (k : ℕ) (bs : List SimpleType) (t : Lambda) → IsTypedTerm scope (lambdas bs t) → IsTypedTerm scope (lambdas (drop k bs) t)
typed_drop scope zero bs t h = h
typed_drop scope (suc k) [] t h = h
typed_drop scope (suc k) (b ∷ bs) t h =
    let d = body_of scope h.ctx b h.type (lambdas bs t) h.canonical in
    typed_drop scope k bs t (record { ctx = b ∷ h.ctx; type = d.result; canonical = d.canonical })

drop_none : (bs : List SimpleType) → drop (length bs) bs ≡ []
drop_none [] = refl
drop_none (b ∷ bs) = drop_none bs

pub under_typed : (old new : Content) (bs : List SimpleType) (k : ℕ) (t whole : Lambda) → Grows old new → lambdas bs t ≡ whole → IsTypedTerm (content_scope old) whole → IsTypedTerm (content_scope new) (lambdas (drop k bs) t)
under_typed old new bs k t whole g e h =
    subst (λ s. IsTypedTerm s (lambdas (drop k bs) t)) (sym (grown_scope old new g)) (typed_drop (content_scope old) k bs t (subst (IsTypedTerm (content_scope old)) (sym e) h))

pub inside_typed : (old new : Content) (bs : List SimpleType) (t whole : Lambda) → Grows old new → lambdas bs t ≡ whole → IsTypedTerm (content_scope old) whole → IsTypedTerm (content_scope new) t
inside_typed old new bs t whole g e h =
    subst (λ l. IsTypedTerm (content_scope new) (lambdas l t)) (drop_none bs) (under_typed old new bs (length bs) t whole g e h)

pub argument_ready : (old new : Content) (bs : List SimpleType) (h : Lambda) (us : List Lambda) (whole : Lambda) (i : ℕ) (u : Lambda) → IsAtom h → Grows old new → lambdas bs (applied h us) ≡ whole → IsTypedTerm (content_scope old) whole → slice_get us i ≡ Some u → IsTypedTerm (content_scope new) u
argument_ready old new bs h us whole i u o g e t at =
    let s = inside_typed old new bs (applied h us) whole g e t in
    let a = argument_typed (content_scope new) s.ctx s.type h us i u o s.canonical at in
    record { ctx = s.ctx; type = a.type; canonical = a.canonical }

pub lambdas_more : (bs : List SimpleType) (b : SimpleType) (t : Lambda) → lambdas (bs ++ b ∷ []) t ≡ lambdas bs (lam b t)
lambdas_more [] b t = refl
lambdas_more (a ∷ bs) b t = ap (lam a) (lambdas_more bs b t)

-- the head with its arguments, once these are there
pub spine_ready : (old new : Content) (bs : List SimpleType) (h : Lambda) (us : List Lambda) (whole : Lambda) (ids slice : List ℕ) (i : ℕ) → Grows old new → lambdas bs (applied h us) ≡ whole → IsTypedTerm (content_scope old) whole → AreImported old new (take i us) ids → slice ≡ ids → length us ≤ i → IsTypedTerm (content_scope new) (applied h (map (term_at new.terms) slice))
spine_ready old new bs h us whole ids slice i g e t r same l =
    subst (λ vs. IsTypedTerm (content_scope new) (applied h vs)) (sym (ap (map (term_at new.terms)) same ∙ r.are ∙ take_all i us l)) (inside_typed old new bs (applied h us) whole g e t)

-- the binder that comes next, from the inside
next_binder : (bs : List SimpleType) (count k : ℕ) (b : SimpleType) (t : Lambda) → k < count → slice_get bs (count - 1 - k) ≡ Some b → lam b (lambdas (drop (count - k) bs) t) ≡ lambdas (drop (count - (k + 1)) bs) t
next_binder bs count k b t l g =
    let i = count - 1 - k in
    let e : count - k ≡ i + 1 = omega arith in
    let f : i ≡ count - (k + 1) = omega arith in
    ap (λ n. lam b (lambdas (drop n bs) t)) e
    ∙ ap (λ l. lambdas l t) (sym (drop_got bs i b g))
    ∙ ap (λ n. lambdas (drop n bs) t) f

pub binder_ready : (old new : Content) (bs : List SimpleType) (count k : ℕ) (b : SimpleType) (t whole : Lambda) (id : ℕ) → Grows old new → lambdas bs t ≡ whole → IsTypedTerm (content_scope old) whole → k < count → slice_get bs (count - 1 - k) ≡ Some b → HasTerm new id (lambdas (drop (count - k) bs) t) → IsTypedTerm (content_scope new) (lam b (term_at new.terms id))
binder_ready old new bs count k b t whole id g e h l at has =
    subst (IsTypedTerm (content_scope new)) (sym (ap (lam b) (has_at new id (lambdas (drop (count - k) bs) t) has) ∙ next_binder bs count k b t l at)) (under_typed old new bs (count - (k + 1)) t whole g e h)

pub binder_imported : (old b c : Content) (bs : List SimpleType) (count k : ℕ) (a : SimpleType) (t : Lambda) (id next : ℕ) → IsImported old b id (lambdas (drop (count - k) bs) t) → k < count → slice_get bs (count - 1 - k) ≡ Some a → Grows b c → HasTerm c next (lam a (term_at b.terms id)) → IsImported old c next (lambdas (drop (count - (k + 1)) bs) t)
binder_imported old b c bs count k a t id next h l at g has = record {
  grows = grows_on old b c h.grows g;
  has = subst (HasTerm c next) (ap (lam a) (has_at b id (lambdas (drop (count - k) bs) t) h.has) ∙ next_binder bs count k a t l at) has;
}

pub none_bound : (old new : Content) (bs : List SimpleType) (count : ℕ) (t : Lambda) (id : ℕ) → Grows old new → count ≡ length bs → HasTerm new id t → IsImported old new id (lambdas (drop (count - 0) bs) t)
none_bound old new bs count t id g e has = let z : count - 0 ≡ length bs = omega (arith, e) in record {
  grows = g;
  has = subst (HasTerm new id) (sym (ap (λ n. lambdas (drop n bs) t) z ∙ ap (λ l. lambdas l t) (drop_none bs))) has;
}
