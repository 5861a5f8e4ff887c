-- What holds of normal forms, whichever the terms are.
use Rattle.std.specs.Prelude.{◌≡◌, ◌≢◌, ℕ, zero, List, ◌∷◌, ◌++◌, length, map}
use Rattle.stt_core.specs.SimpleType.{SimpleType}
use Rattle.stt_core.specs.Lambda.{Lambda, bound, app, applied}
use Rattle.stt_core.specs.Typing.{Scope}
use Rattle.stt_core.specs.Canonical.{IsCanonical}
use Rattle.stt_core.specs.Meaning.{Model, value, Fits, IsModel}
use Rattle.stt_core.specs.Lift.{lift, lift_by}
use Rattle.normal_forms.specs.Normal.{put, replace, ways, apply, apply_each, normal_form}
use Rattle.normal_forms.specs.Ready.{Applies, ArgumentsFit, IsNormalisable}

-- the terms have the same value in each model, whatever values of their types the variables have
abbrev pub HaveSameValue : Scope → List SimpleType → Lambda → Lambda → Type 0
HaveSameValue scope ctx s t =
    (m : Model) (env : List ℕ) → IsModel scope m → Fits m ctx env → value scope m ctx env s ≡ value scope m ctx env t

-- the normal form of a typed term is canonical, and has its type
abbrev pub NormalFormsAreCanonical : Type 0
NormalFormsAreCanonical =
    (scope : Scope) (ctx : List SimpleType) (t : Lambda) (ready : IsNormalisable scope ctx t)
    → IsCanonical scope ctx ready.type (normal_form scope ctx t)

-- the normal form of a typed term has its value
abbrev pub NormalFormsKeepValues : Type 0
NormalFormsKeepValues =
    (scope : Scope) (ctx : List SimpleType) (t : Lambda) → IsNormalisable scope ctx t → HaveSameValue scope ctx (normal_form scope ctx t) t

-- a canonical term is its own normal form
abbrev pub CanonicalTermsAreNormal : Type 0
CanonicalTermsAreNormal =
    (scope : Scope) (ctx : List SimpleType) (a : SimpleType) (t : Lambda) → IsCanonical scope ctx a t → normal_form scope ctx t ≡ t

-- a canonical function applied to a canonical argument gives a canonical term, of the type that the function gives
abbrev pub ApplyKeepsTypes : Type 0
ApplyKeepsTypes =
    (scope : Scope) (ctx : List SimpleType) (f u : Lambda) (applies : Applies scope ctx f u)
    → IsCanonical scope ctx applies.result (apply f u)

-- it has the value of the application
abbrev pub ApplyKeepsValues : Type 0
ApplyKeepsValues =
    (scope : Scope) (ctx : List SimpleType) (f u : Lambda) → Applies scope ctx f u → HaveSameValue scope ctx (apply f u) (app f u)

-- Where the variable is the head, its arguments are replaced first. What stands for it, lifted by the binders that are passed, is then
-- applied to them one after the other. `front` has the types of the binders that are passed.
abbrev pub ArgumentsAreReplacedFirst : Type 0
ArgumentsAreReplacedFirst =
    (scope : Scope) (front ctx : List SimpleType) (a : SimpleType) (r : Lambda) (us : List Lambda)
    → IsCanonical scope ctx a r
    → ArgumentsFit scope (front ++ a ∷ ctx) a us
    → replace (ways a) (length front) r (applied (bound (length front)) us)
    ≡ apply_each (lift_by (length front) zero r) (map (replace (ways a) (length front) r) us)

-- where another variable is the head, it takes the arguments as they become
abbrev pub OtherHeadsStay : Type 0
OtherHeadsStay =
    (a : SimpleType) (k j : ℕ) (r : Lambda) (us : List Lambda)
    → j ≢ k
    → replace (ways a) k r (applied (bound j) us) ≡ applied (put k r j) (map (replace (ways a) k r) us)

-- A term that is lifted by one binder has the same value, whatever value the new variable has, under any number of binders.
abbrev pub LiftKeepsValues : Type 0
LiftKeepsValues =
    (scope : Scope) (m : Model) (front : List SimpleType) (es : List ℕ)
    → length es ≡ length front
    → (b : SimpleType) (x : ℕ) (ctx : List SimpleType) (env : List ℕ) (t : Lambda)
    → value scope m (front ++ b ∷ ctx) (es ++ x ∷ env) (lift (length front) t) ≡ value scope m (front ++ ctx) (es ++ env) t

-- A term with r for a variable has the value that it has where the value of r is that of the variable, under any number of binders.
abbrev pub ReplaceKeepsValues : Type 0
ReplaceKeepsValues =
    (scope : Scope) (m : Model)
    → IsModel scope m
    → (front ctx : List SimpleType) (es env : List ℕ)
    → length es ≡ length front
    → Fits m (front ++ ctx) (es ++ env)
    → (a b : SimpleType) (r t : Lambda)
    → IsCanonical scope ctx a r
    → IsCanonical scope (front ++ a ∷ ctx) b t
    → value scope m (front ++ ctx) (es ++ env) (replace (ways a) (length front) r t)
    ≡ value scope m (front ++ a ∷ ctx) (es ++ value scope m ctx env r ∷ env) t
