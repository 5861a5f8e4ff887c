-- Which expressions stand for terms.
use Rattle.std.specs.Prelude.{◌≡◌, ◌≤◌, ℕ, ◌+◌, List, [], ◌∷◌, ◌++◌, take, drop, length, ◌⊎◌, slice_get, Some}
use Rattle.std.specs.List.{AllByRecursion as Every}
use Rattle.stt_core.specs.SimpleType.{SimpleType, arrow, predicate}
use Rattle.stt_core.specs.Lambda.{Constant, name, witness, falsity, negation, implication, all, equality, choice, description, Lambda, bound, constant, lam, app, lambdas, applied}
use Rattle.stt_core.specs.Typing.{Scope}
use Rattle.stt_core.specs.Canonical.{IsBase, IsCanonical, IsNeutral}
use Rattle.stt_core.specs.Meaning.{value, Fits}
use Rattle.stt_core.specs.Occurrence.{Occurs}
use Rattle.stt_core.specs.ScopeView.{the_scope}
use Rattle.finite_models.specs.Sizes.{IsSmallType, NamesSmallTypes}
use Rattle.finite_models.specs.Symbols.{Symbol, symbols_with, EachIsSmall}
use Rattle.finite_models.specs.Candidates.{IsCandidate, model_of}
use Rattle.finite_models.specs.Internal.Choosers.{IsFirstPlace}
use Rattle.finite_models.specs.Internal.Worth.{worth, IsSafe}
use Rattle.finite_models.specs.declared.expr.Expr.{Expr}
use Rattle.finite_models.specs.declared.compile.Frame.{Frame}

abbrev pub frame_scope : Frame → Scope
frame_scope f = the_scope f.sig.now f.wits.now

-- the symbol of a chooser has its type, and it is no other symbol
abbrev pub IsChooserBy : Constant → SimpleType → Type 0
IsChooserBy (name k) t = ⊥
IsChooserBy (witness k) t = ⊥
IsChooserBy falsity t = ⊥
IsChooserBy negation t = ⊥
IsChooserBy implication t = ⊥
IsChooserBy (all a) t = ⊥
IsChooserBy (equality a) t = ⊥
IsChooserBy (choice a) t = t ≡ arrow (predicate a) a
IsChooserBy (description a) t = t ≡ arrow (predicate a) a

abbrev pub IsChooserSymbol : Symbol → Type 0
IsChooserSymbol x = IsChooserBy x.constant x.type

-- what the terms stand on: small types of the symbols, and no witness
pub record IsGround (scope : Scope) (s : ℕ) (ys : List Symbol) : Type 0 where
  pub pos : 1 ≤ s
  pub few : s ≤ 8
  pub no_witness : scope.witnesses ≡ []
  pub choosers : Every IsChooserSymbol ys
  pub small : EachIsSmall s (symbols_with scope ys)

-- each choice and each description in the term is one of the symbols
abbrev pub IsCoveredBy : List Symbol → Constant → Type 0
IsCoveredBy [] c = ⊥
IsCoveredBy (x ∷ xs) c = (x.constant ≡ c) ⊎ IsCoveredBy xs c

pub record Chooses (ys : List Symbol) (t : Lambda) : Type 0 where
  pub choices : (a : SimpleType) → Occurs (choice a) t → IsCoveredBy ys (choice a)
  pub descriptions : (a : SimpleType) → Occurs (description a) t → IsCoveredBy ys (description a)

-- The term is canonical, and all types that play a part are small.
pub record CanCompile (scope : Scope) (s : ℕ) (ys : List Symbol) (ctx : List SimpleType) (a : SimpleType) (t : Lambda) : Type 0 where
  pub canonical : IsCanonical scope ctx a t
  pub type_small : IsSmallType s a
  pub ctx_small : Every (IsSmallType s) ctx
  pub named : NamesSmallTypes s t
  pub chooses : Chooses ys t

-- the same of a head with its arguments, of a base type
pub record CanCompileSpine (scope : Scope) (s : ℕ) (ys : List Symbol) (ctx : List SimpleType) (t : Lambda) : Type 0 where
  pub type : SimpleType
  pub is_base : IsBase type
  pub neutral : IsNeutral scope ctx type t
  pub ctx_small : Every (IsSmallType s) ctx
  pub named : NamesSmallTypes s t
  pub chooses : Chooses ys t

-- The expression stands for the term: it can be evaluated, and it is worth the term's value in the model of each candidate.
pub record StandsForTerm (scope : Scope) (s : ℕ) (ys : List Symbol) (ctx : List SimpleType) (t : Lambda) (e : Expr) : Type 0 where
  pub safe :
      (vs env : List ℕ) → IsCandidate s (symbols_with scope ys) vs → Fits (model_of s (symbols_with scope ys) vs) ctx env → IsSafe e vs env
  pub is :
      (vs env : List ℕ)
      → IsCandidate s (symbols_with scope ys) vs
      → Fits (model_of s (symbols_with scope ys) vs) ctx env
      → worth e vs env ≡ value scope (model_of s (symbols_with scope ys) vs) ctx env t

-- a head with its first i arguments has this type and this expression
pub record HasCompiled (scope : Scope) (s : ℕ) (ys : List Symbol) (ctx : List SimpleType) (a : SimpleType) (h : Lambda) (us : List Lambda)
    (i : ℕ) (e : Expr) : Type 0 where
  pub within : i ≤ length us
  pub neutral : IsNeutral scope ctx a (applied h (take i us))
  pub small : IsSmallType s a
  pub stands : StandsForTerm scope s ys ctx (applied h (take i us)) e

-- the head is a variable, a declared constant, or a choice or a description among the symbols
abbrev pub IsLeafIn : Scope → List Symbol → Lambda → Type 0
IsLeafIn scope ys (bound k) = Unit {0}
IsLeafIn scope ys (constant (name k)) = (a : SimpleType) × (slice_get scope.names k ≡ Some a)
IsLeafIn scope ys (constant (witness k)) = ⊥
IsLeafIn scope ys (constant falsity) = ⊥
IsLeafIn scope ys (constant negation) = ⊥
IsLeafIn scope ys (constant implication) = ⊥
IsLeafIn scope ys (constant (all a)) = ⊥
IsLeafIn scope ys (constant (equality a)) = ⊥
IsLeafIn scope ys (constant (choice a)) = IsCoveredBy ys (choice a)
IsLeafIn scope ys (constant (description a)) = IsCoveredBy ys (description a)
IsLeafIn scope ys (lam a t) = ⊥
IsLeafIn scope ys (app t u) = ⊥

-- the number is the place of a chooser among the symbols
pub record IsPlacedAt (scope : Scope) (y : Symbol) (ys : List Symbol) (n : ℕ) : Type 0 where
  pub place : ℕ
  pub first : IsFirstPlace y ys place
  pub is : n ≡ length scope.names + place

-- THE SAME OVER WHAT TERMS STAND ON

abbrev pub IsGroundIn : Frame → Type 0
IsGroundIn f = IsGround (frame_scope f) f.size f.choosers.now

abbrev pub CanCompileIn : Frame → List SimpleType → SimpleType → Lambda → Type 0
CanCompileIn f ctx a t = CanCompile (frame_scope f) f.size f.choosers.now ctx a t

abbrev pub CanCompileSpineIn : Frame → List SimpleType → Lambda → Type 0
CanCompileSpineIn f ctx t = CanCompileSpine (frame_scope f) f.size f.choosers.now ctx t

abbrev pub StandsIn : Frame → List SimpleType → Lambda → Expr → Type 0
StandsIn f ctx t e = StandsForTerm (frame_scope f) f.size f.choosers.now ctx t e

abbrev pub HasCompiledIn : Frame → List SimpleType → SimpleType → Lambda → List Lambda → ℕ → Expr → Type 0
HasCompiledIn f ctx a h us i e = HasCompiled (frame_scope f) f.size f.choosers.now ctx a h us i e

abbrev pub IsLeafOf : Frame → Lambda → Type 0
IsLeafOf f h = IsLeafIn (frame_scope f) f.choosers.now h

abbrev pub IsPlacedIn : Frame → Symbol → ℕ → Type 0
IsPlacedIn f y n = IsPlacedAt (frame_scope f) y f.choosers.now n

-- a head with its arguments under its binders but the first i
abbrev pub term_from : ℕ → List SimpleType → Lambda → List Lambda → Lambda
term_from i bs h us = lambdas (drop i bs) (applied h us)
