-- What a constant at a head makes of a term.
use Rattle.std.specs.Prelude.{◌≡◌, Option, Some, None}
use Rattle.stt_core.specs.SimpleType.{SimpleType}
use Rattle.stt_core.specs.Lambda.{Constant, name, witness, falsity, negation, implication, all, equality, choice, description, Lambda, bound, constant, lam, app}
use Rattle.tableau_calculus.specs.Rules.{IsDecomposed}
use Rattle.tableau_calculus.specs.declared.shape.Connective.{Connective}
use Rattle.tableau_calculus.specs.declared.shape.Connective.TheVariants as connective

-- the connective that a head is
abbrev pub connective_of : Lambda → Option Connective
connective_of (constant falsity) = Some connective.False
connective_of (constant negation) = Some connective.Not
connective_of (constant implication) = Some connective.Imp
connective_of (constant (name k)) = None
connective_of (constant (witness k)) = None
connective_of (constant (all a)) = None
connective_of (constant (equality a)) = None
connective_of (constant (choice a)) = None
connective_of (constant (description a)) = None
connective_of (bound k) = None
connective_of (lam a s) = None
connective_of (app s u) = None

-- the type of an equality that is a head
abbrev pub equality_of : Lambda → Option SimpleType
equality_of (constant (equality a)) = Some a
equality_of (constant (name k)) = None
equality_of (constant (witness k)) = None
equality_of (constant falsity) = None
equality_of (constant negation) = None
equality_of (constant implication) = None
equality_of (constant (all a)) = None
equality_of (constant (choice a)) = None
equality_of (constant (description a)) = None
equality_of (bound k) = None
equality_of (lam a s) = None
equality_of (app s u) = None

-- the type that a quantifier that is a head ranges over
abbrev pub quantified_by : Lambda → Option SimpleType
quantified_by (constant (all a)) = Some a
quantified_by (constant (name k)) = None
quantified_by (constant (witness k)) = None
quantified_by (constant falsity) = None
quantified_by (constant negation) = None
quantified_by (constant implication) = None
quantified_by (constant (equality a)) = None
quantified_by (constant (choice a)) = None
quantified_by (constant (description a)) = None
quantified_by (bound k) = None
quantified_by (lam a s) = None
quantified_by (app s u) = None

-- the head is a constant whose arguments are compared
abbrev pub IsDecomposedHead : Lambda → Type 0
IsDecomposedHead h = (c : Constant) × IsDecomposed c × (h ≡ constant c)
