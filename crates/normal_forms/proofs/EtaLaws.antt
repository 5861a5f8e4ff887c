-- What the parts of an eta-long form and of an application are.
use Rattle.std.proofs.Common.{◌≡◌, ◌<◌, List, [], ◌∷◌, ◌++◌, map, length, Some, slice_get, refl, sym, ap, ap₂, subst, ◌∙◌, arith}
use Rattle.stt_core.specs.SimpleType.{SimpleType, arrow}
use Rattle.stt_core.specs.Lambda.{Lambda, bound, constant, lam, app, lambdas, applied}
use Rattle.stt_core.specs.Typing.{Scope}
use Rattle.stt_core.specs.Canonical.{IsCanonical}
use Rattle.stt_core.specs.Lift.{lift}
use Rattle.normal_forms.specs.Normal.{eta, apply, replace, ways}
use Rattle.normal_forms.specs.Ready.{CanApply, Replaces}
use Rattle.normal_forms.specs.Internal.Applying.{body_under}
use Rattle.normal_forms.proofs.Spines.{lift-applied}
use Rattle.normal_forms.proofs.ReplaceLaws.{NotFunction}
use Rattle.normal_forms.proofs.CycleLaws.{function_replaces}

applied-snoc : (t : Lambda) (us : List Lambda) (v : Lambda) → applied t (us ++ v ∷ []) ≡ app (applied t us) v
applied-snoc t [] v = refl
applied-snoc t (u ∷ us) v = applied-snoc (app t u) us v

pub eta_whole : (c a b : SimpleType) (h h' : Lambda) (us us' new : List Lambda) (v body t : Lambda) → c ≡ arrow a b → new ≡ [] → v ≡ eta a (applied (bound 0) new) → h' ≡ lift 0 h → us' ≡ map (lift 0) us → body ≡ eta b (applied h' (us' ++ v ∷ [])) → t ≡ lam a body → t ≡ eta c (applied h us)
eta_whole c a b h h' us us' new v body t e n p q r s k =
    k
    ∙ ap (lam a) s
    ∙ ap (λ x. lam a (eta b x)) (ap₂ (λ x y. applied x (y ++ v ∷ [])) q r ∙ applied-snoc (lift 0 h) (map (lift 0) us) v ∙ ap₂ app (sym (lift-applied 0 h us)) (p ∙ ap (λ x. eta a (applied (bound 0) x)) n))
    ∙ ap (λ x. eta x (applied h us)) (sym e)

no_function : (scope : Scope) (ctx : List SimpleType) (a b : SimpleType) (t : Lambda) (us : List Lambda) → NotFunction t → IsCanonical scope ctx (arrow a b) (applied t us) → ⊥
no_function scope ctx a b (bound k) [] o h = h.0
no_function scope ctx a b (constant c) [] o h = h.0
no_function scope ctx a b (lam c s) [] o h = o
no_function scope ctx a b (app s u) [] o h = h.0
no_function scope ctx a b t (u ∷ us) o h = no_function scope ctx a b (app t u) us tt h

-- a function has a binder, whose type is the argument's
pub record First (bs : List SimpleType) (f u : Lambda) : Type 0 where
  pub within : 0 < length bs
  pub first : (a : SimpleType) → slice_get bs 0 ≡ Some a → Replaces a 0 u (body_under 1 f) × (replace (ways a) 0 u (body_under 1 f) ≡ apply f u)

first_at : (bs : List SimpleType) (h : Lambda) (us : List Lambda) (u : Lambda) → NotFunction h → CanApply (lambdas bs (applied h us)) u → First bs (lambdas bs (applied h us)) u
first_at [] h us u o c =
    absurd (no_function c.scope c.ctx c.applies.argument c.applies.result h us o c.applies.function_in)
first_at (b ∷ bs) h us u o c = record {
  within = omega arith;
  first = λ a g.
      let e : b ≡ a = cc in
      let e' : c.applies.argument ≡ a = c.applies.function_in.1.0 ∙ e in (
        subst (λ x. Replaces x 0 u (lambdas bs (applied h us))) e'
            (function_replaces c.scope c.ctx c.applies.argument c.applies.result (lam b (lambdas bs (applied h us))) u c.applies.function_in c.applies.argument_in),
        ap (λ x. replace (ways x) 0 u (lambdas bs (applied h us))) (sym e),
      );
}

pub first_of_function : (bs : List SimpleType) (h : Lambda) (us : List Lambda) (f u : Lambda) → NotFunction h → lambdas bs (applied h us) ≡ f → CanApply f u → First bs f u
first_of_function bs h us f u o e c = subst (λ x. First bs x u) e (first_at bs h us u o (subst (λ x. CanApply x u) (sym e) c))
