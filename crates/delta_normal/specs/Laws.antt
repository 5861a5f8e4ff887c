-- What normal forms by definitions are.
use Rattle.std.specs.Prelude.{◌≡◌, List, [], ◌∷◌, ◌++◌, Bool, Some}
use Rattle.stt_core.specs.SimpleType.{SimpleType}
use Rattle.stt_core.specs.Lambda.{Lambda}
use Rattle.stt_core.specs.Canonical.{IsCanonical}
use Rattle.stt_core.specs.Typing.{Scope, IsScope, AreDeclared, type_of}
use Rattle.stt_core.specs.TypedProblem.{AreFormulas}
use Rattle.normal_forms.specs.Normal.{normal_form}
use Rattle.delta_defs.specs.Definitions.{Definition, unfolded}
use Rattle.delta_defs.specs.Unfolding.{in_terms_of, taken_after}
use Rattle.delta_defs.specs.Laws.{AreTypedDefinitions}
use Rattle.delta_normal.specs.Forms.{normal_form_by, normal_definitions}
use Rattle.delta_normal.specs.CanonicalDefinitions.{AreCanonicalDefinitions}

-- The normal form of an unfolded term is made from the term itself and the normal forms of the definitions. The term need not be typed.
abbrev pub UnfoldedFormsAreFormsBy : Type 0
UnfoldedFormsAreFormsBy =
    (scope : Scope) (ctx : List SimpleType) (ds : List Definition) (t : Lambda)
    → AreTypedDefinitions scope ds
    → normal_form scope ctx (unfolded ds t) ≡ normal_form_by scope (normal_definitions scope ds) ctx t

-- The normal forms of definitions are made in the same way from those of the earlier ones.
abbrev pub FormsFollow : Type 0
FormsFollow =
    (scope : Scope) (ds : List Definition) (d : Definition)
    → AreTypedDefinitions scope ds
    → normal_definitions scope (ds ++ in_terms_of ds d ∷ [])
    ≡ normal_definitions scope ds
    ++ record { place = d.place; term = normal_form_by scope (normal_definitions scope ds) [] d.term } ∷ []

-- the definitions that are taken from typed formulas have canonical normal forms, of the types of the names
abbrev pub TakenFormsAreCanonical : Type 0
TakenFormsAreCanonical =
    (scope : Scope) (marks : List Bool) (ts : List Lambda)
    → IsScope scope
    → AreFormulas scope ts
    → AreCanonicalDefinitions scope (normal_definitions scope (taken_after [] marks ts))

-- where the definitions have canonical terms, the form by them is the normal form of the unfolded term
abbrev pub FormsByAreUnfoldedForms : Type 0
FormsByAreUnfoldedForms =
    (scope : Scope) (ctx : List SimpleType) (ds : List Definition) (t : Lambda)
    → AreCanonicalDefinitions scope ds
    → normal_form scope ctx (unfolded ds t) ≡ normal_form_by scope ds ctx t

-- the form by canonical terms is canonical, of the term's type
abbrev pub FormsByAreCanonical : Type 0
FormsByAreCanonical =
    (scope : Scope) (ctx : List SimpleType) (ds : List Definition) (a : SimpleType) (t : Lambda)
    → IsScope scope
    → AreDeclared scope.bases ctx
    → AreCanonicalDefinitions scope ds
    → type_of scope ctx t ≡ Some a
    → IsCanonical scope ctx a (normal_form_by scope ds ctx t)

-- by no definitions it is the normal form
abbrev pub FormsByNone : Type 0
FormsByNone = (scope : Scope) (ctx : List SimpleType) (t : Lambda) → normal_form_by scope [] ctx t ≡ normal_form scope ctx t
