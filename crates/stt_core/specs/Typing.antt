-- Which type a term has (Church 1940).
use Rattle.std.specs.Prelude.{◌≡◌, ℕ, true, List, [], ◌∷◌, Option, Some, None, slice_get, option_map, if◌then◌else◌}
use Rattle.stt_core.specs.SimpleType.{SimpleType, base, arrow, formula, predicate, is_declared, same_type}
use Rattle.stt_core.specs.Lambda.{Constant, name, witness, falsity, negation, implication, all, equality, choice, description, Lambda, bound, constant, lam, app}

-- What is declared: how many base types beside `$o` and `$i`, and the types of the constants of the signature and of the witnesses.
pub record Scope : Type 0 where
  pub bases : ℕ
  pub names : List SimpleType
  pub witnesses : List SimpleType

-- the second type, where the first is declared
abbrev pub where_declared : Scope → SimpleType → SimpleType → Option SimpleType
where_declared scope a b = if is_declared scope.bases a then Some b else None

abbrev pub constant_type : Scope → Constant → Option SimpleType
constant_type scope (name k) = slice_get scope.names k
constant_type scope (witness k) = slice_get scope.witnesses k
constant_type scope falsity = Some formula
constant_type scope negation = Some (arrow formula formula)
constant_type scope implication = Some (arrow formula (arrow formula formula))
constant_type scope (all a) = where_declared scope a (arrow (predicate a) formula)
constant_type scope (equality a) = where_declared scope a (arrow a (predicate a))
constant_type scope (choice a) = where_declared scope a (arrow (predicate a) a)
constant_type scope (description a) = where_declared scope a (arrow (predicate a) a)

-- the type of a function applied to an argument
abbrev pub applied_type : Option SimpleType → Option SimpleType → Option SimpleType
applied_type (Some (arrow a b)) (Some c) = if same_type a c then Some b else None
applied_type (Some (arrow a b)) None = None
applied_type (Some (base n)) c = None
applied_type None c = None

-- The type of a term, or none where it has none. `ctx` has the types of its free bound variables, innermost first.
abbrev pub type_of : Scope → List SimpleType → Lambda → Option SimpleType
type_of scope ctx (bound k) = slice_get ctx k
type_of scope ctx (constant c) = constant_type scope c
type_of scope ctx (lam a s) = if is_declared scope.bases a then option_map (arrow a) (type_of scope (a ∷ ctx) s) else None
type_of scope ctx (app s u) = applied_type (type_of scope ctx s) (type_of scope ctx u)

-- the types are all declared
abbrev pub AreDeclared : ℕ → List SimpleType → Type 0
AreDeclared bases [] = Unit {0}
AreDeclared bases (a ∷ types) = (is_declared bases a ≡ true) × AreDeclared bases types

-- the types of the constants and of the witnesses are declared
pub record IsScope (scope : Scope) : Type 0 where
  pub names_declared : AreDeclared scope.bases scope.names
  pub witnesses_declared : AreDeclared scope.bases scope.witnesses
