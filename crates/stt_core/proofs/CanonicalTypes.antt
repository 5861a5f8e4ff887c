-- The type of a canonical term is the one at which it is canonical.
use Rattle.std.proofs.Common.{◌≡◌, ℕ, ◌+◌, List, [], ◌∷◌, ◌++◌, Option, Some, None, refl, sym, ap, ap₂, subst, ◌∙◌, true, slice_get, take}
use Rattle.stt_core.specs.SimpleType.{SimpleType, base, arrow, is_declared}
use Rattle.stt_core.specs.Lambda.{Lambda, bound, constant, lam, app, applied}
use Rattle.stt_core.specs.Typing.{Scope, constant_type, applied_type}
use Rattle.stt_core.specs.Canonical.{IsBase, IsFrom, IsCanonical, IsNeutral}
use Rattle.stt_core.specs.Internal.CanonicalType.{where_base, abstracted_type, canonical_type, neutral_type}
use Rattle.stt_core.proofs.TypeLaws.{applies, abstracts, applied as applied_is}
use Rattle.stt_core.proofs.SpineLaws.{IsAtom}
use Rattle.stt_core.proofs.ListLaws.{take_got}

-- the type of a base type
pub record OfBase (o : Option SimpleType) (a : SimpleType) : Type 0 where
  pub is_base : IsBase a
  pub is : o ≡ Some a

of_base : (o : Option SimpleType) (a : SimpleType) → where_base o ≡ Some a → OfBase o a
of_base None a h = cc
of_base (Some (arrow b c)) a h = cc
of_base (Some (base n)) a h = let e : base n ≡ a = cc in record { is_base = subst IsBase e tt; is = h }

based : (a : SimpleType) → IsBase a → where_base (Some a) ≡ Some a
based (base n) h = refl
based (arrow a b) h = absurd h

module _ (scope : Scope) where
  mutual
    pub canonical-is : (ctx : List SimpleType) (a : SimpleType) (t : Lambda) → canonical_type scope ctx t ≡ Some a → IsCanonical scope ctx a t
    canonical-is ctx a (bound k) h = let b = of_base (slice_get ctx k) a h in (b.is_base, b.is)
    canonical-is ctx a (constant c) h = let b = of_base (constant_type scope c) a h in (b.is_base, b.is)
    canonical-is ctx a (app s u) h =
        let b = of_base (applied_type (neutral_type scope ctx s) (canonical_type scope ctx u)) a h in
        let d = applies (neutral_type scope ctx s) (canonical_type scope ctx u) a b.is in
        (b.is_base, (d.argument, neutral-is ctx (arrow d.argument a) s d.function_type, canonical-is ctx d.argument u d.argument_type))
    canonical-is ctx a (lam c s) h =
        let d = abstracts scope.bases c (canonical_type scope (c ∷ ctx) s) a h in
        let body : IsCanonical scope (c ∷ ctx) d.result s = canonical-is (c ∷ ctx) d.result s d.body_type in
        (d.declared, subst (λ x. IsFrom c x (λ b. IsCanonical scope (c ∷ ctx) b s)) (sym d.is) (refl, body))

    pub neutral-is : (ctx : List SimpleType) (a : SimpleType) (t : Lambda) → neutral_type scope ctx t ≡ Some a → IsNeutral scope ctx a t
    neutral-is ctx a (bound k) h = h
    neutral-is ctx a (constant c) h = h
    neutral-is ctx a (app s u) h =
        let d = applies (neutral_type scope ctx s) (canonical_type scope ctx u) a h in
        (d.argument, neutral-is ctx (arrow d.argument a) s d.function_type, canonical-is ctx d.argument u d.argument_type)
    neutral-is ctx a (lam c s) h = cc

  abstracted : (a c : SimpleType) (o : Option SimpleType) → is_declared scope.bases c ≡ true → IsFrom c a (λ b. o ≡ Some b) → abstracted_type scope c o ≡ Some a
  abstracted (base n) c o d h = absurd h
  abstracted (arrow a b) c o d h = rw (d, h.1, h.0) refl

  from_each : (c a : SimpleType) (P Q : SimpleType → Type 0) → ((b : SimpleType) → P b → Q b) → IsFrom c a P → IsFrom c a Q
  from_each c (base n) P Q f h = h
  from_each c (arrow a b) P Q f h = (h.0, f b h.1)

  mutual
    pub canonical_type-at : (ctx : List SimpleType) (a : SimpleType) (t : Lambda) → IsCanonical scope ctx a t → canonical_type scope ctx t ≡ Some a
    canonical_type-at ctx a (bound k) h = ap where_base h.1 ∙ based a h.0
    canonical_type-at ctx a (constant c) h = ap where_base h.1 ∙ based a h.0
    canonical_type-at ctx a (app s u) h =
        ap where_base (ap₂ applied_type (neutral_type-at ctx (arrow h.1.0 a) s h.1.1) (canonical_type-at ctx h.1.0 u h.1.2) ∙ applied_is h.1.0 a) ∙ based a h.0
    canonical_type-at ctx a (lam c s) h =
        abstracted a c (canonical_type scope (c ∷ ctx) s) h.0
        (from_each c a (λ b. IsCanonical scope (c ∷ ctx) b s) (λ b. canonical_type scope (c ∷ ctx) s ≡ Some b) (λ b k. canonical_type-at (c ∷ ctx) b s k) h.1)

    pub neutral_type-at : (ctx : List SimpleType) (a : SimpleType) (t : Lambda) → IsNeutral scope ctx a t → neutral_type scope ctx t ≡ Some a
    neutral_type-at ctx a (bound k) h = h
    neutral_type-at ctx a (constant c) h = h
    neutral_type-at ctx a (app s u) h =
        ap₂ applied_type (neutral_type-at ctx (arrow h.0 a) s h.1) (canonical_type-at ctx h.0 u h.2) ∙ applied_is h.0 a
    neutral_type-at ctx a (lam c s) h = absurd h

  -- a term at whose head no binder stands is canonical where it is neutral of base type
  spine_type_from : (ctx : List SimpleType) (t : Lambda) (us : List Lambda) → canonical_type scope ctx t ≡ where_base (neutral_type scope ctx t) → canonical_type scope ctx (applied t us) ≡ where_base (neutral_type scope ctx (applied t us))
  spine_type_from ctx t [] h = h
  spine_type_from ctx t (u ∷ us) h = spine_type_from ctx (app t u) us refl

  pub canonical_type-spine : (ctx : List SimpleType) (h : Lambda) (us : List Lambda) → IsAtom h → canonical_type scope ctx (applied h us) ≡ where_base (neutral_type scope ctx (applied h us))
  canonical_type-spine ctx (bound k) us o = spine_type_from ctx (bound k) us refl
  canonical_type-spine ctx (constant c) us o = spine_type_from ctx (constant c) us refl
  canonical_type-spine ctx (lam a s) us o = absurd o
  canonical_type-spine ctx (app s u) us o = absurd o

pub applied-more : (t : Lambda) (us : List Lambda) (u : Lambda) → applied t (us ++ u ∷ []) ≡ app (applied t us) u
applied-more t [] u = refl
applied-more t (v ∷ us) u = applied-more (app t v) us u

-- one argument more
pub neutral_type-more : (scope : Scope) (ctx : List SimpleType) (h : Lambda) (us : List Lambda) (i : ℕ) (u : Lambda) → slice_get us i ≡ Some u → neutral_type scope ctx (applied h (take (i + 1) us)) ≡ applied_type (neutral_type scope ctx (applied h (take i us))) (canonical_type scope ctx u)
neutral_type-more scope ctx h us i u g =
    ap (λ vs. neutral_type scope ctx (applied h vs)) (take_got us i u g) ∙ ap (neutral_type scope ctx) (applied-more h (take i us) u)
