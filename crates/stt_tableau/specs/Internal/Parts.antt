-- The parts of equations, quantified formulas and compared terms.
use Rattle.std.specs.Prelude.{◌≡◌, List, ◌∷◌, Option, Some, None}
use Rattle.stt_core.specs.SimpleType.{SimpleType}
use Rattle.stt_core.specs.View.{the_type, the_head}
use Rattle.stt_core.specs.Lambda.{Constant, Lambda, constant, eq, every, applied}
use Rattle.tableau_calculus.specs.Rules.{IsDecomposed}
use Rattle.stt_tableau.specs.declared.equation.Equation.{Equation}
use Rattle.stt_tableau.specs.declared.quantifier.Quantified.{Quantified}
use Rattle.stt_tableau.specs.declared.decompose.Spine.{Spine}

-- the term is an equation with these parts, or no equation
abbrev pub IsEquation : Lambda → Option Equation → Type 0
IsEquation t (Some e) = t ≡ eq (the_type e.ty.now) e.left.now e.right.now
IsEquation t None = (a : SimpleType) (s u : Lambda) → t ≡ eq a s u → ⊥

-- the term says of a predicate that it holds everywhere, and has these parts, or says no such thing
abbrev pub IsQuantified : Lambda → Option Quantified → Type 0
IsQuantified t (Some q) = t ≡ every (the_type q.ty.now) q.predicate.now
IsQuantified t None = (a : SimpleType) (f : Lambda) → t ≡ every a f → ⊥

-- the term is such a constant with arguments, or isn't
abbrev pub IsSpine : Lambda → Option Spine → Type 0
IsSpine t (Some p) =
    (c : Constant)
    × (s : Lambda)
    × (ss : List Lambda)
    × IsDecomposed c
    × (the_head p.head.now ≡ constant c)
    × (p.args.now ≡ s ∷ ss)
    × (t ≡ applied (constant c) (s ∷ ss))
IsSpine t None = (c : Constant) (s : Lambda) (ss : List Lambda) → IsDecomposed c → t ≡ applied (constant c) (s ∷ ss) → ⊥
