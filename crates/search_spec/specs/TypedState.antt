-- States whose literals, terms and commands have their types.
use Rattle.std.specs.Prelude.{◌≡◌, ℕ, suc, true, List, [], ◌∷◌, Some}
use Rattle.stt_core.specs.SimpleType.{SimpleType, base, predicate, is_declared, target}
use Rattle.stt_core.specs.Lambda.{Constant, Lambda, constant, eq, every, applied, IsLeaf}
use Rattle.stt_core.specs.Typing.{Scope}
use Rattle.stt_core.specs.Canonical.{IsCanonical, IsNeutral}
use Rattle.tableau_calculus.specs.Literals.{Literal, plus, minus, IsLiteral, IsBranch}
use Rattle.tableau_calculus.specs.Witnesses.{Row, with_rows, IsTable}
use Rattle.tableau_calculus.specs.Rules.{IsDecomposed}
use Rattle.search_spec.specs.Partial.{Hole, first_hole}
use Rattle.search_spec.specs.TypedPartial.{IsPartial}
use Rattle.search_spec.specs.State.{State, Setting, Sketch, Command, process, mate, confront, inst, choose, describe, grow}
use Rattle.tableau_calculus.specs.Each.{Each}

-- the partial term has its type, which is declared
pub record IsTypedSketch (scope : Scope) (p : Sketch) : Type 0 where
  pub declared : is_declared scope.bases p.type ≡ true
  pub typed : IsPartial scope [] p.type p.partial

-- a variable or a constant whose target type is the hole's
pub record FitsHole (scope : Scope) (h : Hole) (t : Lambda) : Type 0 where
  pub leaf : IsLeaf t
  pub type : SimpleType
  pub has_type : IsNeutral scope h.context type t
  pub declared : is_declared scope.bases type ≡ true
  pub gives : target type ≡ h.base

-- the partial term has a hole, and the head fits it
pub record GrowsSketch (scope : Scope) (p : Sketch) (t : Lambda) : Type 0 where
  pub sketch : IsTypedSketch scope p
  pub hole : Hole
  pub is_first : first_hole [] p.partial ≡ Some hole
  pub fits : FitsHole scope hole t

-- the literal says of a predicate that it holds everywhere, and the term has the predicate's argument type
pub record Instantiates (scope : Scope) (l : Literal) (u : Lambda) : Type 0 where
  pub literal : IsLiteral scope l
  pub type : SimpleType
  pub predicate : Lambda
  pub is_universal : l ≡ plus (every type predicate)
  pub argument : IsCanonical scope [] type u

-- opposite literals with one compared head
pub record Mates (scope : Scope) (l m : Literal) : Type 0 where
  pub positive : IsLiteral scope l
  pub negative : IsLiteral scope m
  pub head : Constant
  pub compared : IsDecomposed head
  pub s : Lambda
  pub ss : List Lambda
  pub t : Lambda
  pub ts : List Lambda
  pub is_positive : l ≡ plus (applied (constant head) (s ∷ ss))
  pub is_negative : m ≡ minus (applied (constant head) (t ∷ ts))

-- an equation and the negation of one, at one base type other than that of formulas
pub record Confronts (scope : Scope) (l m : Literal) : Type 0 where
  pub positive : IsLiteral scope l
  pub negative : IsLiteral scope m
  pub n : ℕ
  pub s : Lambda
  pub t : Lambda
  pub u : Lambda
  pub v : Lambda
  pub is_positive : l ≡ plus (eq (base (suc n)) s t)
  pub is_negative : m ≡ minus (eq (base (suc n)) u v)

-- the command has its instance, or a partial term that grows
abbrev pub IsTypedCommand : Scope → Command → Type 0
IsTypedCommand scope (process l) = IsLiteral scope l
IsTypedCommand scope (mate l m) = Mates scope l m
IsTypedCommand scope (confront l m) = Confronts scope l m
IsTypedCommand scope (inst l u) = Instantiates scope l u
IsTypedCommand scope (choose a f) = IsCanonical scope [] (predicate a) f
IsTypedCommand scope (describe a f) = IsCanonical scope [] (predicate a) f
IsTypedCommand scope (grow p h) = GrowsSketch scope p h

-- the state has these witness rows, and what is in it has its type over what is declared, with these witnesses
pub record IsTypedStateWith (setting : Setting) (rows : List Row) (s : State) : Type 0 where
  pub are_rows : s.rows ≡ rows
  pub noted : IsBranch (with_rows setting.scope rows) s.noted
  pub terms : Each (λ u. IsCanonical (with_rows setting.scope rows) [] u.type u.term) s.terms
  pub parked : Each (IsTypedSketch (with_rows setting.scope rows)) s.parked
  pub queue : Each (λ q. IsTypedCommand (with_rows setting.scope rows) q.command) s.queue

-- the rows are a witness table, and the state is typed with them
pub record IsTypedState (setting : Setting) (s : State) : Type 0 where
  pub table : IsTable setting.scope s.rows
  pub typed : IsTypedStateWith setting s.rows s
