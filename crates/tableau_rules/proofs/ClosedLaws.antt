-- Closed canonical terms.
use Rattle.std.proofs.Common.{◌≡◌, ◌≤◌, Bool, false, List, [], ◌∷◌, IsTrue, length, refl, sym, ap, subst, ◌∙◌, arith, eq-eqb, true≢false}
use Rattle.std.specs.Prelude.{◌↔◌}
use Rattle.std.proofs.lemmas.Option.{slice_get_within, same_Some}
use Rattle.stt_core.specs.SimpleType.{SimpleType, base, arrow, same_type}
use Rattle.stt_core.specs.Lambda.{Lambda, bound, constant, lam, app}
use Rattle.stt_core.specs.Occurrence.{IsClosed}
use Rattle.stt_core.specs.Internal.Missing.{missing_binders}
use Rattle.stt_core.specs.Typing.{Scope}
use Rattle.stt_core.specs.Canonical.{IsCanonical, IsNeutral, IsFrom}
use Rattle.stt_core.proofs.CanonicalTypes.{canonical_type-at}
use Rattle.stt_core.proofs.TypeLaws.{same_type-true, same_type_refl}
use Rattle.term_bank.proofs.ClosedLaws.{closed_is}

from : (c a : SimpleType) (P : SimpleType → Type 0) → IsFrom c a P → (b : SimpleType) × P b
from c (base m) P h = absurd h
from c (arrow a b) P h = (b, h.1)

mutual
  pub missing_canonical : (scope : Scope) (ctx : List SimpleType) (a : SimpleType) (t : Lambda) → IsCanonical scope ctx a t → missing_binders t ≤ length ctx
  missing_canonical scope ctx a (bound k) h = omega (arith, slice_get_within ctx k a h.1)
  missing_canonical scope ctx a (constant c) h = omega arith
  missing_canonical scope ctx a (lam c s) h =
      let b = from c a (λ b. IsCanonical scope (c ∷ ctx) b s) h.1 in
      omega (arith, missing_canonical scope (c ∷ ctx) b.0 s b.1)
  missing_canonical scope ctx a (app s u) h =
      omega (arith, missing_neutral scope ctx (arrow h.1.0 a) s h.1.1, missing_canonical scope ctx h.1.0 u h.1.2)

  missing_neutral : (scope : Scope) (ctx : List SimpleType) (a : SimpleType) (t : Lambda) → IsNeutral scope ctx a t → missing_binders t ≤ length ctx
  missing_neutral scope ctx a (bound k) h = omega (arith, slice_get_within ctx k a h)
  missing_neutral scope ctx a (constant c) h = omega arith
  missing_neutral scope ctx a (lam c s) h = absurd h
  missing_neutral scope ctx a (app s u) h =
      omega (arith, missing_neutral scope ctx (arrow h.0 a) s h.1, missing_canonical scope ctx h.0 u h.2)

pub missing_none : (scope : Scope) (a : SimpleType) (t : Lambda) → IsCanonical scope [] a t → missing_binders t ≤ 0
missing_none scope a t h = missing_canonical scope [] a t h

pub canonical_closed : (scope : Scope) (a : SimpleType) (t : Lambda) → IsCanonical scope [] a t → IsClosed t
canonical_closed scope a t h = (closed_is t (missing_binders t) refl).0 (eq-eqb (missing_binders t) 0 (omega (arith, missing_canonical scope [] a t h)))

pub type_tells : (scope : Scope) (a c : SimpleType) (t : Lambda) (r : Bool) → IsCanonical scope [] c t → r ≡ same_type c a → IsTrue r ↔ IsCanonical scope [] a t
type_tells scope a c t r h e = (
  λ w. subst (λ x. IsCanonical scope [] x t) (same_type-true c a (sym e ∙ w)) h,
  λ k.
      let same : c ≡ a = same_Some c a (sym (canonical_type-at scope [] c t h) ∙ canonical_type-at scope [] a t k) in
      e ∙ ap (λ x. same_type x a) same ∙ same_type_refl a,
)

pub open_tells : (scope : Scope) (a : SimpleType) (t : Lambda) (r : Bool) → (IsTrue r ↔ IsClosed t) → r ≡ false → IsTrue false ↔ IsCanonical scope [] a t
open_tells scope a t r d e = (λ w. absurd (true≢false (sym w)), λ k. absurd (true≢false (sym (d.1 (canonical_closed scope a t k)) ∙ e)))
