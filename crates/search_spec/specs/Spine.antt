-- The head of a term and its arguments.
use Rattle.std.specs.Prelude.{◌++◌, List, [], ◌∷◌, Bool, true, false, ◌&&◌}
use Rattle.stt_core.specs.Lambda.{Constant, name, witness, falsity, negation, implication, all, equality, choice, description, Lambda, bound, constant, lam, app}
use Rattle.stt_core.specs.SameTerm.{same_term}

abbrev pub head_of : Lambda → Lambda
head_of (app s u) = head_of s
head_of (bound k) = bound k
head_of (constant c) = constant c
head_of (lam a s) = lam a s

-- the arguments, first one first
abbrev pub arguments : Lambda → List Lambda
arguments (app s u) = arguments s ++ u ∷ []
arguments (bound k) = []
arguments (constant c) = []
arguments (lam a s) = []

-- whether the arguments of a constant are compared: it is a name, a witness, or the choice from a type or a description of its values
abbrev pub is_compared : Constant → Bool
is_compared (name k) = true
is_compared (witness k) = true
is_compared (choice a) = true
is_compared (description a) = true
is_compared falsity = false
is_compared negation = false
is_compared implication = false
is_compared (all a) = false
is_compared (equality a) = false

abbrev pub has_compared_head : Lambda → Bool
has_compared_head (constant c) = is_compared c
has_compared_head (bound k) = false
has_compared_head (lam a s) = false
has_compared_head (app s u) = false

abbrev pub is_application : Lambda → Bool
is_application (app s u) = true
is_application (bound k) = false
is_application (constant c) = false
is_application (lam a s) = false

-- whether the term is a compared constant with arguments
abbrev pub is_spine : Lambda → Bool
is_spine t = is_application t && has_compared_head (head_of t)

-- whether both terms have the same head
abbrev pub same_head : Lambda → Lambda → Bool
same_head s t = same_term (head_of s) (head_of t)
