-- The binders around a text, innermost first. Each is of a named variable, or of one that no text speaks of.
use Rattle.std.specs.Prelude.{ℕ, zero, suc, List, [], ◌∷◌, Option, option_map, Result, Ok, Err}
use Rattle.stt_core.specs.Lambda.{Lambda}
use Rattle.stt_core.specs.Lift.{lift}
use Rattle.stt_core.specs.TypedName.{TypedName}
use Rattle.stt_core.specs.View.{the_type}
use Rattle.type_check.specs.Internal.Answers.{AnswersCheck}
use Rattle.type_check.specs.Internal.TypedView.{the_typed}
use Rattle.type_check.specs.Terms.{TermReading, variable_named}
use Rattle.type_check.specs.Typed.{TypedTerm, typed}
use Rattle.type_check.specs.declared.refusal.Refusal.{Refusal}
use Rattle.type_check.specs.declared.scope.Scope.{Scope}
use Rattle.type_check.specs.declared.scope.Scope.TheVariants.{Empty, Inner', Hidden'}
use Rattle.type_check.specs.declared.typed.Typed.{Typed}

pub data Around : Type 0 where
  named : TypedName → Around
  hidden : Around

abbrev pub the_binders : Scope → List Around
the_binders Empty = []
the_binders (Inner' name ty p outer) = named (record { name = name.now; type = the_type ty.now }) ∷ the_binders outer
the_binders (Hidden' p outer) = hidden ∷ the_binders outer

-- the named variables, with their types
abbrev pub variables : List Around → List TypedName
variables [] = []
variables (named v ∷ scope) = v ∷ variables scope
variables (hidden ∷ scope) = variables scope

-- A term over the named variables of a scope and the k binders within it, as one over all binders of the scope.
abbrev pub placed_term : ℕ → List Around → Lambda → Lambda
placed_term k [] t = t
placed_term k (named v ∷ scope) t = placed_term (suc k) scope t
placed_term k (hidden ∷ scope) t = lift k (placed_term k scope t)

abbrev pub placed_typed : ℕ → List Around → TypedTerm → TypedTerm
placed_typed k scope x = typed (placed_term k scope x.term) x.type

-- what a name stands for in a scope, within k more binders
abbrev pub found_in : ℕ → List Around → List ℕ → Option TypedTerm
found_in k scope name = option_map (placed_typed k scope) (variable_named k (variables scope) name)

-- what is read in a scope
abbrev pub placed_reading : List Around → TermReading → TermReading
placed_reading scope (Ok x) = Ok (placed_typed zero scope x)
placed_reading scope (Err e) = Err e

-- The answer is what is read in the scope, where `read` reads it under the named variables alone.
abbrev pub AnswersIn : List Around → (List TypedName → TermReading) → Result Typed Refusal → Type 0
AnswersIn scope read answer = AnswersCheck the_typed answer (placed_reading scope (read (variables scope)))
