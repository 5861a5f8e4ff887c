-- Terms of simple type theory with choice and definite description (Church 1940), without names for bound variables (de Bruijn, Lambda
-- calculus notation with nameless dummies, 1972).
use Rattle.std.specs.Prelude.{ℕ, suc, ◌+◌, List, [], ◌∷◌}
use Rattle.stt_core.specs.SimpleType.{SimpleType}

-- What a term names: a constant of the signature or a witness by its number, falsity, negation, implication, and for each type the
-- quantifier over it, the equality on it, the choice from it, and the description of its one value with a property.
pub data Constant : Type 0 where
  name : ℕ → Constant
  witness : ℕ → Constant
  falsity : Constant
  negation : Constant
  implication : Constant
  all : SimpleType → Constant
  equality : SimpleType → Constant
  choice : SimpleType → Constant
  description : SimpleType → Constant

-- A bound variable, which counts the binders between it and its own, a constant, a function, whose argument has the given type, or an
-- application.
pub data Lambda : Type 0 where
  bound : ℕ → Lambda
  constant : Constant → Lambda
  lam : SimpleType → Lambda → Lambda
  app : Lambda → Lambda → Lambda

-- the negation of a formula, an implication, an equation between terms of a type, and the claim that a predicate on a type holds
-- everywhere
abbrev pub neg : Lambda → Lambda
neg s = app (constant negation) s

abbrev pub imp : Lambda → Lambda → Lambda
imp s t = app (app (constant implication) s) t

abbrev pub eq : SimpleType → Lambda → Lambda → Lambda
eq a s t = app (app (constant (equality a)) s) t

abbrev pub every : SimpleType → Lambda → Lambda
every a f = app (constant (all a)) f

-- a term under binders, outermost first
abbrev pub lambdas : List SimpleType → Lambda → Lambda
lambdas [] t = t
lambdas (a ∷ as') t = lam a (lambdas as' t)

-- a term applied to arguments, first one first
abbrev pub applied : Lambda → List Lambda → Lambda
applied t [] = t
applied t (u ∷ us) = applied (app t u) us

-- how many nodes a term has, without those of its types
abbrev pub node_count : Lambda → ℕ
node_count (bound k) = 1
node_count (constant c) = 1
node_count (lam a s) = suc (node_count s)
node_count (app s u) = suc (node_count s + node_count u)

-- a variable or a constant
abbrev pub IsLeaf : Lambda → Type 0
IsLeaf (bound k) = Unit {0}
IsLeaf (constant c) = Unit {0}
IsLeaf (lam a s) = ⊥
IsLeaf (app s u) = ⊥
