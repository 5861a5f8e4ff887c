-- What the parts of the search for an instance answer.
use Rattle.std.specs.Prelude.{◌≡◌, ℕ, Bool, true, List, [], ◌∷◌, Option, Some, None, slice_get}
use Rattle.stt_core.specs.Lambda.{Constant, Lambda, constant, falsity, neg, imp, eq, every, applied}
use Rattle.stt_core.specs.SimpleType.{SimpleType, arrow, predicate, is_declared}
use Rattle.stt_core.specs.View.{the_type, the_head}
use Rattle.stt_core.specs.Typing.{Scope, type_of}
use Rattle.stt_core.specs.Canonical.{IsCanonical}
use Rattle.tableau_calculus.specs.Literals.{Literal, IsBranch}
use Rattle.tableau_calculus.specs.Witnesses.{Row}
use Rattle.tableau_calculus.specs.Rules.{IsDecomposed, differ_each}
use Rattle.stt_tableau.specs.declared.equation.Equation.{Equation}
use Rattle.stt_tableau.specs.declared.quantifier.Quantified.{Quantified}
use Rattle.stt_tableau.specs.declared.decompose.Spine.{Spine}
use Rattle.tableau_calculus.specs.declared.shape.Shape.{Shape}
use Rattle.tableau_calculus.specs.declared.shape.Shape.TheVariants as shape
use Rattle.tableau_calculus.specs.Checks.{StandsAt}

-- at the place stands no literal of this sign whose atom is falsity, a negation or an implication
pub record StandsOther (branch : List Literal) (i : ℕ) (sign : Bool) : Type 0 where
  pub not_falsity : StandsAt branch i sign (constant falsity) → ⊥
  pub not_negation : (s : Lambda) → StandsAt branch i sign (neg s) → ⊥
  pub not_implication : (s t : Lambda) → StandsAt branch i sign (imp s t) → ⊥

-- the shape of the atom of the literal of this sign that stands at the place
abbrev pub HasShapeAt : List Literal → ℕ → Bool → Shape → Type 0
HasShapeAt branch i sign shape.False = StandsAt branch i sign (constant falsity)
HasShapeAt branch i sign (shape.Not s) = StandsAt branch i sign (neg s.now)
HasShapeAt branch i sign (shape.Imp s t) = StandsAt branch i sign (imp s.now t.now)
HasShapeAt branch i sign shape.Other = StandsOther branch i sign

-- the literal of this sign that stands at the place is an equation, with these parts, or none is
abbrev pub IsEquationAt : List Literal → ℕ → Bool → Option Equation → Type 0
IsEquationAt branch i sign (Some e) = StandsAt branch i sign (eq (the_type e.ty.now) e.left.now e.right.now)
IsEquationAt branch i sign None = (a : SimpleType) (s t : Lambda) → StandsAt branch i sign (eq a s t) → ⊥

-- the literal of this sign that stands at the place is a constant whose arguments are compared, with these, or none is
abbrev pub IsSpineAt : List Literal → ℕ → Bool → Option Spine → Type 0
IsSpineAt branch i sign (Some p) =
    (c : Constant)
    × (s : Lambda)
    × (ss : List Lambda)
    × IsDecomposed c
    × (the_head p.head.now ≡ constant c)
    × (p.args.now ≡ s ∷ ss)
    × StandsAt branch i sign (applied (constant c) (s ∷ ss))
IsSpineAt branch i sign None =
    (c : Constant) (s : Lambda) (ss : List Lambda) → IsDecomposed c → StandsAt branch i sign (applied (constant c) (s ∷ ss)) → ⊥

-- the alternatives that a head's arguments differ, or that the head has no type
abbrev pub ArgumentsDiffer : Scope → Lambda → List Lambda → List Lambda → Option (List (List Literal)) → Type 0
ArgumentsDiffer scope h ss ts (Some alternatives) = (a : SimpleType) × (type_of scope [] h ≡ Some a) × (alternatives ≡ differ_each a ss ts)
ArgumentsDiffer scope h ss ts None = type_of scope [] h ≡ None

-- the alternatives that the arguments of two terms differ, or that these have no head that is one and has a type
abbrev pub SpinesDiffer : Scope → Option Spine → Option Spine → Option (List (List Literal)) → Type 0
SpinesDiffer scope (Some p) (Some q) (Some alternatives) =
    (a : SimpleType)
    × (type_of scope [] (the_head p.head.now) ≡ Some a)
    × (the_head p.head.now ≡ the_head q.head.now)
    × (alternatives ≡ differ_each a p.args.now q.args.now)
SpinesDiffer scope (Some p) (Some q) None =
    (a : SimpleType) → type_of scope [] (the_head p.head.now) ≡ Some a → the_head p.head.now ≡ the_head q.head.now → ⊥
SpinesDiffer scope None q (Some alternatives) = ⊥
SpinesDiffer scope (Some p) None (Some alternatives) = ⊥
SpinesDiffer scope None q None = Unit {0}
SpinesDiffer scope (Some p) None None = Unit {0}

-- the row at the place has this type and this predicate, or none has them
abbrev pub IsRowOf : List Row → SimpleType → Lambda → Option ℕ → Type 0
IsRowOf rows a f (Some k) = slice_get rows k ≡ Some (record { type = a; predicate = f })
IsRowOf rows a f None = (k : ℕ) → slice_get rows k ≡ Some (record { type = a; predicate = f }) → ⊥

-- the term is a canonical function from this type, which is declared
pub record IsFunctionFrom (a : SimpleType) (f : Lambda) : Type 0 where
  pub scope : Scope
  pub ctx : List SimpleType
  pub result : SimpleType
  pub declared : is_declared scope.bases a ≡ true
  pub function_in : IsCanonical scope ctx (arrow a result) f

-- the term is a closed canonical predicate on this type
abbrev pub IsPredicateOn : SimpleType → Lambda → Type 0
IsPredicateOn a f = (scope : Scope) × IsCanonical scope [] (predicate a) f

-- both terms are functions from this type
abbrev pub AreFunctionsFrom : SimpleType → Lambda → Lambda → Type 0
AreFunctionsFrom a s t = IsFunctionFrom a s × IsFunctionFrom a t

-- the literals are literals over something
abbrev pub IsTypedSomewhere : List Literal → Type 0
IsTypedSomewhere branch = (scope : Scope) × IsBranch scope branch

-- the literal of this sign that stands at the place is a quantified formula, with these parts, or none is
abbrev pub IsQuantifiedAt : List Literal → ℕ → Bool → Option Quantified → Type 0
IsQuantifiedAt branch i sign (Some q) = StandsAt branch i sign (every (the_type q.ty.now) q.predicate.now)
IsQuantifiedAt branch i sign None = (a : SimpleType) (f : Lambda) → StandsAt branch i sign (every a f) → ⊥
