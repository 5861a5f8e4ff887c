-- What the principals in a typed branch are typed as.
use Rattle.std.proofs.Common.{◌≡◌, ℕ, Bool, true, List, [], ◌∷◌, Option, Some, None, slice_get, refl, sym, ap, subst, subst₂, ◌∙◌}
use Rattle.std.proofs.lemmas.Bool.{and_parts}
use Rattle.stt_core.specs.SimpleType.{SimpleType, arrow, formula, predicate, is_declared}
use Rattle.stt_core.specs.Lambda.{witness, Lambda, bound, constant, eq, every, applied}
use Rattle.stt_core.specs.Typing.{Scope}
use Rattle.stt_core.specs.Canonical.{IsCanonical}
use Rattle.stt_core.specs.Internal.CanonicalType.{canonical_type}
use Rattle.stt_core.proofs.CanonicalTypes.{canonical_type-at}
use Rattle.stt_core.specs.Lift.{lift_by}
use Rattle.normal_forms.specs.Normal.{eta}
use Rattle.normal_forms.specs.Ready.{CanApply}
use Rattle.normal_forms.proofs.CanonicalLaws.{canonical-lift}
use Rattle.normal_forms.proofs.NormalValues.{canonical-eta}
use Rattle.tableau_calculus.specs.Literals.{Literal, IsBranch}
use Rattle.tableau_calculus.specs.Witnesses.{Row}
use Rattle.tableau_calculus.specs.Rules.{chosen, described}
use Rattle.tableau_calculus.specs.Checks.{StandsAt, IsTypedWith}
use Rattle.stt_tableau.specs.Internal.Instances.{IsFunctionFrom, AreFunctionsFrom, IsPredicateOn, IsTypedSomewhere}
use Rattle.tableau_calculus.proofs.ListLaws.{contains-get}
use Rattle.tableau_calculus.proofs.EquationLaws.{eq_canonical}
use Rattle.tableau_calculus.proofs.FunctionLaws.{every_canonical, canonical-chosen, canonical-described, predicate_declared}
use Rattle.tableau_calculus.proofs.RuleLaws.{canonical-witness}
use Rattle.tableau_calculus.proofs.ClosedLaws.{literal_in}

pub stands_typed : (scope : Scope) (branch : List Literal) (i : ℕ) (sign : Bool) (t : Lambda) → IsBranch scope branch → StandsAt branch i sign t → IsCanonical scope [] formula t
stands_typed scope branch i sign t h at =
    let is = literal_in scope (record { positive = sign; atom = t }) branch (contains-get branch i (record { positive = sign; atom = t }) at) h in
    is.formula

pub functions_at : (branch : List Literal) (i : ℕ) (sign : Bool) (c a b : SimpleType) (s t : Lambda) → IsTypedSomewhere branch → StandsAt branch i sign (eq c s t) → c ≡ arrow a b → AreFunctionsFrom a s t
functions_at branch i sign c a b s t h at is =
    let e = eq_canonical h.0 c s t (stands_typed h.0 branch i sign (eq c s t) h.1 at) in
    let d = (and_parts _ _ (subst (λ x. is_declared h.0.bases x ≡ true) is e.declared)).0 in (
      record { scope = h.0; ctx = []; result = b; declared = d; function_in = subst (λ x. IsCanonical h.0 [] x s) is e.left },
      record { scope = h.0; ctx = []; result = b; declared = d; function_in = subst (λ x. IsCanonical h.0 [] x t) is e.right },
    )

pub can_apply : (scope : Scope) (a : SimpleType) (f u : Lambda) → IsCanonical scope [] (predicate a) f → IsCanonical scope [] a u → CanApply f u
can_apply scope a f u h k = record { scope = scope; ctx = []; applies = record { argument = a; result = formula; function_in = h; argument_in = k } }

pub at_new_applies : (a : SimpleType) (f lifted variable : Lambda) (us : List Lambda) → IsFunctionFrom a f → lifted ≡ lift_by 1 0 f → us ≡ [] → variable ≡ eta a (applied (bound 0) us) → CanApply lifted variable
at_new_applies a f lifted variable us h p n q =
    subst₂ CanApply (sym p) (sym (q ∙ ap (λ x. eta a (applied (bound 0) x)) n))
    (record { scope = h.scope; ctx = a ∷ h.ctx; applies = record { argument = a; result = h.result; function_in = canonical-lift h.scope [] a h.ctx (arrow a h.result) f h.function_in; argument_in = canonical-eta h.scope (a ∷ h.ctx) a (bound 0) h.declared refl } })

pub lifted_function : (a : SimpleType) (f lifted : Lambda) → IsFunctionFrom a f → lifted ≡ lift_by 1 0 f → IsFunctionFrom a lifted
lifted_function a f lifted h p =
    subst (IsFunctionFrom a) (sym p)
    (record { scope = h.scope; ctx = a ∷ h.ctx; result = h.result; declared = h.declared; function_in = canonical-lift h.scope [] a h.ctx (arrow a h.result) f h.function_in })

pub predicate_applies : (scope : Scope) (branch : List Literal) (i : ℕ) (sign : Bool) (a : SimpleType) (f u : Lambda) → IsBranch scope branch → StandsAt branch i sign (every a f) → IsCanonical scope [] a u → CanApply f u
predicate_applies scope branch i sign a f u h at k =
    can_apply scope a f u (every_canonical scope a f (stands_typed scope branch i sign (every a f) h at)).1 k

pub witness_applies : (rows : List Row) (branch : List Literal) (i k : ℕ) (sign : Bool) (a : SimpleType) (f : Lambda) → IsTypedWith rows branch → StandsAt branch i sign (every a f) → slice_get rows k ≡ Some (record { type = a; predicate = f }) → CanApply f (eta a (constant (witness k)))
witness_applies rows branch i k sign a f h at g =
    let e = every_canonical h.scope a f (stands_typed h.scope branch i sign (every a f) h.branch_in at) in
    can_apply h.scope a f (eta a (constant (witness k))) e.1 (canonical-witness h.scope rows h.types k a f g e.0)

pub chosen_applies : (a : SimpleType) (f : Lambda) → IsPredicateOn a f → CanApply f (chosen a f)
chosen_applies a f h = can_apply h.0 a f (chosen a f) h.1 (canonical-chosen h.0 a f h.1)

pub described_applies : (a : SimpleType) (f : Lambda) → IsPredicateOn a f → CanApply f (described a f)
described_applies a f h = can_apply h.0 a f (described a f) h.1 (canonical-described h.0 a f h.1)

pub predicate_function : (a : SimpleType) (f : Lambda) → IsPredicateOn a f → IsFunctionFrom a f
predicate_function a f h = record { scope = h.0; ctx = []; result = formula; declared = predicate_declared h.0 a f h.1; function_in = h.1 }

-- the type of functions that a predicate was found to have is that of predicates
pub predicate_on : (scope : Scope) (a x y : SimpleType) (f : Lambda) (o : Option SimpleType) → IsCanonical scope [] (predicate a) f → o ≡ canonical_type scope [] f → o ≡ Some (arrow x y) → IsCanonical scope [] (predicate x) f
predicate_on scope a x y f o h e is =
    let p : Some (arrow x y) ≡ Some (predicate a) = sym is ∙ e ∙ canonical_type-at scope [] (predicate a) f h in
    let q : a ≡ x = cc in
    subst (λ b. IsCanonical scope [] (predicate b) f) q h

pub not_untyped : (scope : Scope) (a : SimpleType) (f : Lambda) (o : Option SimpleType) → IsCanonical scope [] (predicate a) f → o ≡ canonical_type scope [] f → o ≡ None → ⊥
not_untyped scope a f o h e is =
    let p : None ≡ Some (predicate a) = sym is ∙ e ∙ canonical_type-at scope [] (predicate a) f h in
    cc
