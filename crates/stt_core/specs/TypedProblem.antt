-- When what a problem states is typed.
use Rattle.std.specs.Prelude.{◌≡◌, ◌≢◌, ℕ, List, [], ◌∷◌, ◌++◌, map, AllPairs, Option, Some, None}
use Rattle.stt_core.specs.SimpleType.{formula}
use Rattle.stt_core.specs.Lambda.{Lambda}
use Rattle.stt_core.specs.Typing.{Scope, type_of, IsScope}
use Rattle.stt_core.specs.Declarations.{Declarations, scope_of}
use Rattle.stt_core.specs.PlainProblem.{PlainProblem}

-- the term is a formula
abbrev pub IsFormula : Scope → Lambda → Type 0
IsFormula scope t = type_of scope [] t ≡ Some formula

abbrev pub AreFormulas : Scope → List Lambda → Type 0
AreFormulas scope [] = Unit {0}
AreFormulas scope (t ∷ ts) = IsFormula scope t × AreFormulas scope ts

abbrev pub IsFormulaIfThere : Scope → Option Lambda → Type 0
IsFormulaIfThere scope None = Unit {0}
IsFormulaIfThere scope (Some t) = IsFormula scope t

-- what a problem states is typed: its constants have types that are declared, and its terms are formulas
pub record IsTyped (p : PlainProblem) : Type 0 where
  pub scope : IsScope (scope_of p.declared)
  pub assumed : AreFormulas (scope_of p.declared) p.assumed
  pub conjecture : IsFormulaIfThere (scope_of p.declared) p.conjecture

-- the names of the base types and of the constants
abbrev pub declared_names : Declarations → List (List ℕ)
declared_names d = d.bases ++ map (λ c. c.name) d.consts

-- no two of them are the same
abbrev pub NamesDiffer : Declarations → Type 0
NamesDiffer d = AllPairs (λ a b. a ≢ b) (declared_names d)
