-- Normal forms of terms in which definitions are unfolded, without the unfolded terms.
use Rattle.std.specs.Prelude.{List, [], ◌∷◌, map, slice_get, if◌then◌else◌}
use Rattle.stt_core.specs.SimpleType.{SimpleType}
use Rattle.stt_core.specs.Lambda.{Constant, name, Lambda, bound, constant, lam, app}
use Rattle.stt_core.specs.SameTerm.{same_constant}
use Rattle.stt_core.specs.Typing.{Scope, constant_type}
use Rattle.normal_forms.specs.Normal.{apply, eta_if, normal_form}
use Rattle.delta_defs.specs.Definitions.{Definition}

-- the normal form of a constant: where it is defined the term of its first definition, which is canonical, or else its eta-long form
abbrev pub form_of : Scope → List Definition → Constant → Lambda
form_of scope [] c = eta_if (constant_type scope c) (constant c)
form_of scope (d ∷ ds) c = if same_constant (name d.place) c then d.term else form_of scope ds c

-- The normal form of a typed term where names are defined by closed canonical terms. It is made as a normal form is, but that a defined
-- name has the term that it stands for. `ctx` has the types of the free bound variables, innermost first.
abbrev pub normal_form_by : Scope → List Definition → List SimpleType → Lambda → Lambda
normal_form_by scope ds ctx (bound k) = eta_if (slice_get ctx k) (bound k)
normal_form_by scope ds ctx (constant c) = form_of scope ds c
normal_form_by scope ds ctx (lam a s) = lam a (normal_form_by scope ds (a ∷ ctx) s)
normal_form_by scope ds ctx (app s u) = apply (normal_form_by scope ds ctx s) (normal_form_by scope ds ctx u)

-- the definition with the normal form of its term
abbrev pub normal_definition : Scope → Definition → Definition
normal_definition scope d = record { place = d.place; term = normal_form scope [] d.term }

abbrev pub normal_definitions : Scope → List Definition → List Definition
normal_definitions scope ds = map (normal_definition scope) ds
