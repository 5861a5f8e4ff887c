-- The start of a problem keeps types within a limit.
use Rattle.std.proofs.Common.{◌≤◌, ℕ, suc, List, [], ◌∷◌, ◌++◌, map, Option, Some, None, slice_get, if◌then◌else◌, arith}
use Rattle.stt_core.specs.SimpleType.{SimpleType}
use Rattle.stt_core.specs.Lambda.{Lambda, bound, constant, lam, app}
use Rattle.stt_core.specs.Typing.{Scope, constant_type}
use Rattle.stt_core.specs.Declarations.{scope_of}
use Rattle.normal_forms.specs.Normal.{eta_if, normal_form}
use Rattle.tableau_calculus.specs.Literals.{Literal}
use Rattle.tableau_calculus.specs.Start.{normal_literal, denied}
use Rattle.tableau_calculus.specs.Kinds.{has, added, formulas}
use Rattle.tableau_calculus.specs.Each.{Each}
use Rattle.search_spec.proofs.NamingLaws.{each-joined, pick_good}
use Rattle.search_spec.proofs.TypedPushes.{each_mapped}
use Rattle.type_bound.specs.Types.{IsShallowType}
use Rattle.refute_print.specs.Sizes.{nesting}
use Rattle.type_bound.specs.Modest.{IsModest, IsModestLiteral, IsModestIfAny, StartsKeepTypes}
use Rattle.type_bound.proofs.ModestTerms.{apply_keeps, eta_keeps, as_literal_keeps, at_shallow, constant_shallow}

-- NORMAL FORMS

module _ (limit : ℕ) (scope : Scope) (names : Each (λ a. nesting a ≤ limit) scope.names) (witnesses : Each (λ a. nesting a ≤ limit) scope.witnesses) where
  if_modest : (o : Option SimpleType) (t : Lambda) → IsShallowType (suc (suc limit)) o → IsModest limit t → IsModest limit (eta_if o t)
  if_modest None t within h = h
  if_modest (Some a) t within h = eta_keeps limit a t within h

  less : (o : Option SimpleType) → IsShallowType (suc limit) o → IsShallowType (suc (suc limit)) o
  less None h = tt
  less (Some a) h = omega (arith, h)

  normal-modest : (ctx : List SimpleType) (t : Lambda) → Each (λ a. nesting a ≤ suc limit) ctx → IsModest limit t → IsModest limit (normal_form scope ctx t)
  normal-modest ctx (bound k) are h = if_modest (slice_get ctx k) (bound k) (less (slice_get ctx k) (at_shallow limit (suc limit) ctx k are)) tt
  normal-modest ctx (constant c) are h = if_modest (constant_type scope c) (constant c) (constant_shallow limit scope names witnesses c h) h
  normal-modest ctx (lam a s) are h = (h.0, normal-modest (a ∷ ctx) s (h.0, are) h.1)
  normal-modest ctx (app s u) are h = apply_keeps limit (normal_form scope ctx s) (normal_form scope ctx u) (normal-modest ctx s are h.0) (normal-modest ctx u are h.1)

  literal-modest : (t : Lambda) → IsModest limit t → IsModestLiteral limit (normal_literal scope t)
  literal-modest t h = as_literal_keeps limit (normal_form scope [] t) (normal-modest [] t tt h)

  denied-modest : (o : Option Lambda) → IsModestIfAny limit o → Each (IsModestLiteral limit) (denied scope o)
  denied-modest None h = tt
  denied-modest (Some t) h = (literal-modest t h, tt)

added-modest : (P : Literal → Type 0) (ls ks : List Literal) → Each P ls → Each P ks → Each P (added formulas ls ks)
added-modest P ls [] g h = g
added-modest P ls (k ∷ ks) g h =
    added-modest P (if has formulas ls k then ls else ls ++ k ∷ []) ks (pick_good (Each P) (has formulas ls k) ls (ls ++ k ∷ []) g (each-joined P ls (k ∷ []) g (h.0, tt))) h.1

pub start-keeps : StartsKeepTypes
start-keeps limit p h =
    let scope = scope_of p.declared in
    added-modest (IsModestLiteral limit) [] (map (normal_literal scope) p.assumed ++ denied scope p.conjecture) tt
    (each-joined (IsModestLiteral limit) (map (normal_literal scope) p.assumed) (denied scope p.conjecture)
    (each_mapped (IsModest limit) (IsModestLiteral limit) (normal_literal scope) (literal-modest limit scope h.names tt) p.assumed h.assumed)
    (denied-modest limit scope h.names tt p.conjecture h.conjecture))
