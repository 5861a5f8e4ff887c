-- The symbols of a problem: what a finite model has to give a value.
use Rattle.std.specs.Prelude.{ℕ, suc, ◌*◌, ◌≤◌, ◌^◌, Bool, List, [], ◌∷◌, ◌++◌, map, Option, Some, None, if◌then◌else◌}
use Rattle.std.specs.List.{list_any}
use Rattle.stt_core.specs.SimpleType.{SimpleType, arrow, predicate}
use Rattle.stt_core.specs.Lambda.{Constant, name, witness, falsity, negation, implication, all, equality, choice, description, Lambda, bound, constant, lam, app}
use Rattle.stt_core.specs.Typing.{Scope}
use Rattle.stt_core.specs.SameTerm.{same_constant}
use Rattle.stt_core.specs.Declarations.{scope_of}
use Rattle.stt_core.specs.PlainProblem.{PlainProblem}
use Rattle.normal_forms.specs.Normal.{normal_form}
use Rattle.finite_models.specs.Sizes.{size_in, IsSmallType, NamesSmallTypes}

-- a constant with its type
pub record Symbol : Type 0 where
  pub constant : Constant
  pub type : SimpleType

-- the constants of the signature from number k on, in order of declaration
abbrev pub declared_symbols : ℕ → List SimpleType → List Symbol
declared_symbols k [] = []
declared_symbols k (a ∷ types) = record { constant = name k; type = a } ∷ declared_symbols (suc k) types

-- a choice or a description on a type takes a predicate on the type to a value of the type
abbrev pub choosing_symbol : Constant → SimpleType → Symbol
choosing_symbol c a = record { constant = c; type = arrow (predicate a) a }

-- the constant as a symbol, where it is a choice or a description
abbrev pub choosing_constant : Constant → List Symbol
choosing_constant (name k) = []
choosing_constant (witness k) = []
choosing_constant falsity = []
choosing_constant negation = []
choosing_constant implication = []
choosing_constant (all a) = []
choosing_constant (equality a) = []
choosing_constant (choice a) = choosing_symbol (choice a) a ∷ []
choosing_constant (description a) = choosing_symbol (description a) a ∷ []

-- the choices and descriptions in a term, from left to right
abbrev pub choosing_symbols : Lambda → List Symbol
choosing_symbols (bound k) = []
choosing_symbols (constant c) = choosing_constant c
choosing_symbols (lam a t) = choosing_symbols t
choosing_symbols (app t u) = choosing_symbols t ++ choosing_symbols u

-- the same of several terms, in their order
abbrev pub choosing_symbols_of : List Lambda → List Symbol
choosing_symbols_of [] = []
choosing_symbols_of (t ∷ ts) = choosing_symbols t ++ choosing_symbols_of ts

-- whether the symbol is one of the list
abbrev pub has_symbol : List Symbol → Symbol → Bool
has_symbol xs y = list_any (λ x. same_constant y.constant x.constant) xs

-- the list with each of the further symbols, in order, that isn't in it yet
abbrev pub with_symbols : List Symbol → List Symbol → List Symbol
with_symbols xs [] = xs
with_symbols xs (y ∷ ys) = with_symbols (if has_symbol xs y then xs else xs ++ y ∷ []) ys

-- the conjecture, where there is one, as a list
abbrev pub conjectures : Option Lambda → List Lambda
conjectures None = []
conjectures (Some t) = t ∷ []

-- the normal forms of the assumed formulas, in order, and of the conjecture
abbrev pub normal_formulas : PlainProblem → List Lambda
normal_formulas p = map (normal_form (scope_of p.declared) []) (p.assumed ++ conjectures p.conjecture)

-- the constants of a scope, in order of declaration, and behind them choices and descriptions
abbrev pub symbols_with : Scope → List Symbol → List Symbol
symbols_with scope choosers = declared_symbols 0 scope.names ++ choosers

-- The symbols of a problem: its constants in order of declaration, then each choice and each description that occurs in the normal
-- forms of the assumed formulas and of the conjecture, in order of first occurrence.
abbrev pub model_symbols : PlainProblem → List Symbol
model_symbols p = symbols_with (scope_of p.declared) (with_symbols [] (choosing_symbols_of (normal_formulas p)))

-- the type of each symbol is small enough
abbrev pub EachIsSmall : ℕ → List Symbol → Type 0
EachIsSmall s [] = Unit {0}
EachIsSmall s (x ∷ xs) = IsSmallType s x.type × EachIsSmall s xs

-- each term names small types alone
abbrev pub EachNamesSmallTypes : ℕ → List Lambda → Type 0
EachNamesSmallTypes s [] = Unit {0}
EachNamesSmallTypes s (t ∷ ts) = NamesSmallTypes s t × EachNamesSmallTypes s ts

-- how many lists of values of the symbols there are
abbrev pub value_lists : ℕ → List Symbol → ℕ
value_lists s [] = 1
value_lists s (x ∷ xs) = size_in s x.type * value_lists s xs

-- A problem fits a size: the types of its symbols and those that its normal forms name are small enough, and there are at most 2 ^ 20
-- lists of values of its symbols.
pub record FitsSize (p : PlainProblem) (s : ℕ) : Type 0 where
  pub symbols_small : EachIsSmall s (model_symbols p)
  pub named_small : EachNamesSmallTypes s (normal_formulas p)
  pub few_lists : value_lists s (model_symbols p) ≤ 2 ^ 20
