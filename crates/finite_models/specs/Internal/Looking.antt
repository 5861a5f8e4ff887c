-- What is worked out for one size.
use Rattle.std.specs.Prelude.{◌≡◌, ◌<◌, ◌≤◌, ℕ, ◌*◌, Bool, List, [], ◌∷◌, ◌↔◌, length, slice_get, slice_index, Some, nat_lt, if◌then◌else◌}
use Rattle.stt_core.specs.SimpleType.{SimpleType, formula}
use Rattle.stt_core.specs.Lambda.{Lambda}
use Rattle.stt_core.specs.Typing.{Scope}
use Rattle.stt_core.specs.PlainProblem.{PlainProblem}
use Rattle.finite_models.specs.Sizes.{size_in, IsSmallType}
use Rattle.finite_models.specs.Symbols.{Symbol, FitsSize, symbols_with}
use Rattle.finite_models.specs.Candidates.{IsLawful}
use Rattle.finite_models.specs.Small.{NoneMeets, IsFirstCandidate}
use Rattle.finite_models.specs.Internal.Search.{IsAllowed, AreAllowed, PassesAll, IsFirstPassing, reach_of}
use Rattle.finite_models.specs.Internal.Stands.{CanCompile, StandsForTerm}
use Rattle.finite_models.specs.declared.search.Check.{Check}
use Rattle.finite_models.specs.declared.models.Looked.{Looked}
use Rattle.finite_models.specs.declared.models.Looked.TheVariants as looked

abbrev pub EachIsSmallType : ℕ → List SimpleType → Type 0
EachIsSmallType s [] = Unit {0}
EachIsSmallType s (a ∷ types) = IsSmallType s a × EachIsSmallType s types

-- the number is that of the values of a small type
pub record IsSizeOf (s : ℕ) (a : SimpleType) (n : ℕ) : Type 0 where
  pub small : IsSmallType s a
  pub is : n ≡ size_in s a
  pub pos : 1 ≤ n
  pub few : n ≤ 1048576

-- what holds of the symbol at a place
abbrev pub At : List Symbol → ℕ → (Symbol → Type 0) → Type 0
At xs i P = (x : Symbol) → slice_get xs i ≡ Some x → P x

-- the numbers are the sizes of the symbols' types
pub record AreSizes (s : ℕ) (xs : List Symbol) (ns : List ℕ) : Type 0 where
  pub count : length ns ≡ length xs
  pub each : (i : ℕ) → At xs i (λ x. IsSizeOf s x.type (slice_index ns i))

abbrev pub product : List ℕ → ℕ
product [] = 1
product (n ∷ ns) = n * product ns

-- the allowed values are the lawful ones of the symbol
pub record IsDomain (s : ℕ) (x : Symbol) (d : List Bool) : Type 0 where
  pub count : length d ≡ size_in s x.type
  pub allowed : (v : ℕ) → v < size_in s x.type → IsAllowed d v ↔ IsLawful s x.constant v

pub record AreDomains (s : ℕ) (xs : List Symbol) (ds : List (List Bool)) : Type 0 where
  pub count : length ds ≡ length xs
  pub each : (i : ℕ) (d : List Bool) → slice_get ds i ≡ Some d → At xs i (λ x. IsDomain s x d)

-- the check is that of a formula at this place, which is assumed or the conjecture
pub record IsCheck (scope : Scope) (s : ℕ) (ys : List Symbol) (assumed i : ℕ) (t : Lambda) (c : Check) : Type 0 where
  pub stands : StandsForTerm scope s ys [] t c.expr
  pub wanted : c.wanted ≡ (if nat_lt i assumed then 1 else 0)
  pub reach : c.reach ≡ reach_of c.expr

pub record AreChecks (scope : Scope) (s : ℕ) (ys : List Symbol) (assumed : ℕ) (ts : List Lambda) (cs : List Check) : Type 0 where
  pub count : length cs ≡ length ts
  pub each : (i : ℕ) (t : Lambda) (c : Check) → slice_get ts i ≡ Some t → slice_get cs i ≡ Some c → IsCheck scope s ys assumed i t c

-- each of the terms can be compiled
abbrev pub CanCompileEach : Scope → ℕ → List Symbol → List Lambda → Type 0
CanCompileEach scope s ys ts = (i : ℕ) (t : Lambda) → slice_get ts i ≡ Some t → CanCompile scope s ys [] formula t

-- no list of values passes
pub record NonePasses (scope : Scope) (s : ℕ) (ys : List Symbol) (assumed : ℕ) (ts : List Lambda) : Type 0 where
  pub domains : List (List Bool)
  pub checks : List Check
  pub are_domains : AreDomains s (symbols_with scope ys) domains
  pub are_checks : AreChecks scope s ys assumed ts checks
  pub none : (ws : List ℕ) → AreAllowed domains ws → PassesAll checks ws → ⊥

-- the list of values is the first one that passes
pub record FirstPasses (scope : Scope) (s : ℕ) (ys : List Symbol) (assumed : ℕ) (ts : List Lambda) (vs : List ℕ) : Type 0 where
  pub domains : List (List Bool)
  pub checks : List Check
  pub are_domains : AreDomains s (symbols_with scope ys) domains
  pub are_checks : AreChecks scope s ys assumed ts checks
  pub first : IsFirstPassing domains checks vs

-- what is found at one size
abbrev pub IsLooked : PlainProblem → ℕ → Looked → Type 0
IsLooked p s looked.TooMany = FitsSize p s → ⊥
IsLooked p s (looked.Model v) = FitsSize p s × IsFirstCandidate p s v.items
IsLooked p s looked.None = FitsSize p s × NoneMeets p s
