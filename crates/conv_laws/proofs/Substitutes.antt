-- Substitution keeps types, and the normal form of a substitution is the replacement in the normal form.
use Rattle.std.proofs.Common.{◌≡◌, zero, suc, ℕ, List, [], ◌∷◌, ◌++◌, length, Option, Some, None, slice_get, option_map, if◌then◌else◌, refl, sym, ap, ap₂, subst, ◌∙◌}
use Rattle.stt_core.specs.SimpleType.{SimpleType, arrow, is_declared}
use Rattle.stt_core.specs.Lambda.{Lambda, bound, constant, lam, app}
use Rattle.stt_core.specs.Typing.{Scope, IsScope, AreDeclared, type_of, constant_type, applied_type}
use Rattle.stt_core.specs.Canonical.{IsCanonical}
use Rattle.stt_core.specs.Lift.{raised, lift}
use Rattle.stt_core.proofs.LiftLaws.{get_raised, type_of-lift}
use Rattle.stt_core.proofs.TypeLaws.{applies, abstracts}
use Rattle.normal_forms.specs.Normal.{Way, ways_of, put, replace, apply, ways, eta_if, normal_form}
use Rattle.normal_forms.proofs.CommuteLaws.{Lifts, lifts, replace_outside, replace_inside, replace-eta}
use Rattle.normal_forms.proofs.EtaReplace.{lift-eta, restored}
use Rattle.normal_forms.proofs.NormalValues.{canonical-normal_form}
use Rattle.conv_laws.specs.Steps.{variable, substitute}
use Rattle.conv_laws.proofs.Swaps.{swaps}

pub variable-put : (k : ℕ) (u : Lambda) (j : ℕ) → variable k u j ≡ put k u j
variable-put zero u zero = refl
variable-put zero u (suc j) = refl
variable-put (suc k) u zero = refl
variable-put (suc k) u (suc j) = ap (lift zero) (variable-put k u j)

module _ (scope : Scope) (ctx : List SimpleType) (a : SimpleType) (u : Lambda) (hu : type_of scope ctx u ≡ Some a) where
  type_of-variable : (front : List SimpleType) (j : ℕ) → type_of scope (front ++ ctx) (variable (length front) u j) ≡ slice_get (front ++ a ∷ ctx) j
  type_of-variable [] zero = hu
  type_of-variable [] (suc j) = refl
  type_of-variable (c ∷ front) zero = refl
  type_of-variable (c ∷ front) (suc j) = type_of-lift scope [] c (front ++ ctx) (variable (length front) u j) ∙ type_of-variable front j

  -- what is substituted has the type of the variable, so the term keeps its type
  pub type_of-substitute : (front : List SimpleType) (t : Lambda) → type_of scope (front ++ ctx) (substitute (length front) u t) ≡ type_of scope (front ++ a ∷ ctx) t
  type_of-substitute front (bound j) = type_of-variable front j
  type_of-substitute front (constant c) = refl
  type_of-substitute front (lam c s) = ap (λ o. if is_declared scope.bases c then option_map (arrow c) o else None) (type_of-substitute (c ∷ front) s)
  type_of-substitute front (app s v) = ap₂ applied_type (type_of-substitute front s) (type_of-substitute front v)

-- LIFTING

lift-eta_if : (mid : List SimpleType) (o : Option SimpleType) (t : Lambda) → lift (length mid) (eta_if o t) ≡ eta_if o (lift (length mid) t)
lift-eta_if mid None t = refl
lift-eta_if mid (Some a) t = lift-eta mid a t

replace-eta_if : (ws : List Way) → Lifts ws → (pre : List SimpleType) (r : Lambda) (o : Option SimpleType) (t : Lambda) → ways_of ws (length pre) t ≡ [] → replace ws (length pre) r (eta_if o t) ≡ eta_if o (replace ws (length pre) r t)
replace-eta_if ws h pre r None t e = refl
replace-eta_if ws h pre r (Some a) t e = replace-eta ws h pre r a t e

lift-apply : (mid : List SimpleType) (f u : Lambda) → lift (length mid) (apply f u) ≡ apply (lift (length mid) f) (lift (length mid) u)
lift-apply mid (bound k) u = refl
lift-apply mid (constant c) u = refl
lift-apply mid (app s v) u = refl
lift-apply mid (lam a s) u = replace_outside (ways a) (lifts a) [] mid u s

module _ (scope : Scope) where
  pub normal_form-lift : (pre : List SimpleType) (b : SimpleType) (ctx : List SimpleType) (t : Lambda) → normal_form scope (pre ++ b ∷ ctx) (lift (length pre) t) ≡ lift (length pre) (normal_form scope (pre ++ ctx) t)
  normal_form-lift pre b ctx (bound j) =
      ap (λ o. eta_if o (bound (raised (length pre) j))) (get_raised pre b ctx j) ∙ sym (lift-eta_if pre (slice_get (pre ++ ctx) j) (bound j))
  normal_form-lift pre b ctx (constant c) = sym (lift-eta_if pre (constant_type scope c) (constant c))
  normal_form-lift pre b ctx (lam a s) = ap (lam a) (normal_form-lift (a ∷ pre) b ctx s)
  normal_form-lift pre b ctx (app s u) =
      ap₂ apply (normal_form-lift pre b ctx s) (normal_form-lift pre b ctx u)
      ∙ sym (lift-apply pre (normal_form scope (pre ++ ctx) s) (normal_form scope (pre ++ ctx) u))

  -- replacing in an application
  pub replace-apply : (pre ctx : List SimpleType) (a c d : SimpleType) (r f u : Lambda) → IsCanonical scope ctx a r → IsCanonical scope (pre ++ a ∷ ctx) (arrow c d) f → IsCanonical scope (pre ++ a ∷ ctx) c u → replace (ways a) (length pre) r (apply f u) ≡ apply (replace (ways a) (length pre) r f) (replace (ways a) (length pre) r u)
  replace-apply pre ctx a c d r (bound k) u hr hf hu = absurd hf.0
  replace-apply pre ctx a c d r (constant k) u hr hf hu = absurd hf.0
  replace-apply pre ctx a c d r (app s v) u hr hf hu = absurd hf.0
  replace-apply pre ctx a c d r (lam x g) u hr hf hu =
      swaps scope a x [] pre ctx d r u g hr (subst (λ y. IsCanonical scope (pre ++ a ∷ ctx) y u) hf.1.0 hu) hf.1.1

  module _ (over : IsScope scope) (ctx : List SimpleType) (a : SimpleType) (u : Lambda) (known : AreDeclared scope.bases ctx) (hu : type_of scope ctx u ≡ Some a) where
    abbrev r : Lambda
    r = normal_form scope ctx u

    r_in : IsCanonical scope ctx a r
    r_in = canonical-normal_form scope over ctx a u known hu

    normal_form-variable : (front : List SimpleType) (j : ℕ) → normal_form scope (front ++ ctx) (variable (length front) u j) ≡ replace (ways a) (length front) r (eta_if (slice_get (front ++ a ∷ ctx) j) (bound j))
    normal_form-variable [] zero = sym (restored scope a ctx r r_in)
    normal_form-variable [] (suc j) = sym (replace-eta_if (ways a) (lifts a) [] r (slice_get ctx j) (bound (suc j)) refl)
    normal_form-variable (c ∷ front) zero = sym (replace-eta_if (ways a) (lifts a) (c ∷ front) r (Some c) (bound zero) refl)
    normal_form-variable (c ∷ front) (suc j) =
        normal_form-lift [] c (front ++ ctx) (variable (length front) u j)
        ∙ ap (lift zero) (normal_form-variable front j)
        ∙ sym (replace_inside (ways a) (lifts a) [] front r (eta_if (slice_get (front ++ a ∷ ctx) j) (bound j)))
        ∙ ap (replace (ways a) (suc (length front)) r) (lift-eta_if [] (slice_get (front ++ a ∷ ctx) j) (bound j))

    pub normal_form-substitute : (front : List SimpleType) (b : SimpleType) (t : Lambda) → AreDeclared scope.bases (front ++ a ∷ ctx) → type_of scope (front ++ a ∷ ctx) t ≡ Some b → normal_form scope (front ++ ctx) (substitute (length front) u t) ≡ replace (ways a) (length front) r (normal_form scope (front ++ a ∷ ctx) t)
    normal_form-substitute front b (bound j) d h = normal_form-variable front j
    normal_form-substitute front b (constant c) d h = sym (replace-eta_if (ways a) (lifts a) front r (constant_type scope c) (constant c) refl)
    normal_form-substitute front b (lam c s) d h =
        let p = abstracts scope.bases c _ b h in
        ap (lam c) (normal_form-substitute (c ∷ front) p.result s (p.declared, d) p.body_type)
    normal_form-substitute front b (app s v) d h =
        let p = applies _ _ b h in
        ap₂ apply (normal_form-substitute front (arrow p.argument b) s d p.function_type) (normal_form-substitute front p.argument v d p.argument_type)
        ∙ sym (replace-apply front ctx a p.argument b r (normal_form scope (front ++ a ∷ ctx) s) (normal_form scope (front ++ a ∷ ctx) v) r_in (canonical-normal_form scope over (front ++ a ∷ ctx) (arrow p.argument b) s d p.function_type) (canonical-normal_form scope over (front ++ a ∷ ctx) p.argument v d p.argument_type))
