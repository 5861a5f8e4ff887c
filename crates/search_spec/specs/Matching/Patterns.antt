-- Patterns of a literal, with which its instances are found (as triggers in Detlefs, Nelson and Saxe, Simplify, a theorem prover for
-- program checking, 2005).
use Rattle.std.specs.Prelude.{◌++◌, List, [], ◌∷◌, Bool, true, false, if◌then◌else◌}
use Rattle.stt_core.specs.SimpleType.{SimpleType, formula, same_type}
use Rattle.stt_core.specs.Lambda.{negation, implication, all, equality, Lambda, bound, constant, lam, app, eq}
use Rattle.tableau_calculus.specs.Literals.{Literal}
use Rattle.search_spec.specs.Spine.{head_of, has_compared_head}

-- a binder around a term: the type of its variable, and whether matching finds what that stands for
pub record PassedBinder : Type 0 where
  pub type : SimpleType
  pub matchable : Bool

-- Under how many left sides of implications and negations a formula stands, evenly or oddly many, or in an equation of formulas, where it
-- is both.
pub data Polarity : Type 0 where
  even_polarity : Polarity
  odd_polarity : Polarity
  both_polarities : Polarity

abbrev pub turned_polarity : Polarity → Polarity
turned_polarity even_polarity = odd_polarity
turned_polarity odd_polarity = even_polarity
turned_polarity both_polarities = both_polarities

abbrev pub is_even : Polarity → Bool
is_even even_polarity = true
is_even odd_polarity = false
is_even both_polarities = false

-- Where a pattern is matched: with known terms, or with processed literals: those of negative sign for an even polarity, those of positive
-- sign for an odd one, and those of either sign for both.
pub data MatchedWith : Type 0 where
  known_terms : MatchedWith
  processed_literals : Polarity → MatchedWith

-- a term under the binders that were passed, innermost first: its free variables are theirs
pub record Pattern : Type 0 where
  pub matched_with : MatchedWith
  pub binders : List PassedBinder
  pub term : Lambda

abbrev pub passed : Bool → SimpleType → PassedBinder
passed matchable a = record { type = a; matchable = matchable }

abbrev pub pattern_of : MatchedWith → List PassedBinder → Lambda → Pattern
pattern_of place binders t = record { matched_with = place; binders = binders; term = t }

-- the term as a pattern, where its head is a compared constant
abbrev pub own_pattern : MatchedWith → List PassedBinder → Lambda → List Pattern
own_pattern place binders t = if has_compared_head (head_of t) then pattern_of place binders t ∷ [] else []

abbrev mutual
  -- the patterns of a term among known terms: itself, then those of its parts, left before right
  pub term_patterns : List PassedBinder → Lambda → List Pattern
  term_patterns binders (bound k) = []
  term_patterns binders (constant c) = own_pattern known_terms binders (constant c)
  term_patterns binders (lam a s) = term_patterns (passed false a ∷ binders) s
  term_patterns binders (app s u) =
      own_pattern known_terms binders (app s u) ++ argument_patterns binders s ++ term_patterns binders u

  -- those of the arguments of a head
  pub argument_patterns : List PassedBinder → Lambda → List Pattern
  argument_patterns binders (bound k) = []
  argument_patterns binders (constant c) = []
  argument_patterns binders (lam a s) = []
  argument_patterns binders (app s u) = argument_patterns binders s ++ term_patterns binders u

-- the patterns of an atom: itself, where its head is a compared constant, and those of its arguments
abbrev pub atom_patterns : Polarity → List PassedBinder → Lambda → List Pattern
atom_patterns p binders t = own_pattern (processed_literals p) binders t ++ argument_patterns binders t

-- the patterns of an equation on a type other than that of formulas: itself, and those of its sides
abbrev pub equation_patterns : Polarity → List PassedBinder → SimpleType → Lambda → Lambda → List Pattern
equation_patterns p binders a s t =
    pattern_of (processed_literals p) binders (eq a s t) ∷ term_patterns binders s ++ term_patterns binders t

-- The patterns of a formula: those of the atoms and equations that it is made of, left before right. The variable of a quantifier is to be
-- found where the quantifier has even polarity.
abbrev pub formula_patterns : Polarity → List PassedBinder → Lambda → List Pattern
formula_patterns p binders (app (constant negation) s) = formula_patterns (turned_polarity p) binders s
formula_patterns p binders (app (app (constant implication) s) t) =
    formula_patterns (turned_polarity p) binders s ++ formula_patterns p binders t
formula_patterns p binders (app (app (constant (equality a)) s) t) =
    if same_type a formula then formula_patterns both_polarities binders s ++ formula_patterns both_polarities binders t
    else equation_patterns p binders a s t
formula_patterns p binders (app (constant (all a)) (lam b s)) = formula_patterns p (passed (is_even p) b ∷ binders) s
formula_patterns p binders t = atom_patterns p binders t

-- The patterns of a literal that says of all values of its outermost variables that a formula holds. All these variables are to be found.
abbrev pub literal_patterns : Literal → List Pattern
literal_patterns l = if l.positive then formula_patterns even_polarity [] l.atom else []
