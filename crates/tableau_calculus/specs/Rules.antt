-- The rules of the calculus. Sources: Brown and Smolka, Analytic tableaux for simple type theory and its first-order fragment, 2010: how a
-- literal and its negation, and a negated equation of a term with itself, close a branch; equations of formulas (BQ, BE) and of functions
-- (FQ, FE; here the alternative is a quantified formula); mating (MAT), decomposition (DEC) and confrontation (CON). Backes and Brown,
-- Analytic tableaux for higher-order logic with choice, 2011: quantifiers (here with any term, and with a witness for a new name), a choice
-- as the head in mating and decomposition, choice. The rules for falsity and implication are this project's form of the rules for
-- connectives there. A description as the head, the rule for descriptions, and the cut are this project's own.
use Rattle.std.specs.Prelude.{◌≡◌, ℕ, suc, List, [], ◌∷◌, Option, Some, None, slice_get}
use Rattle.stt_core.specs.SimpleType.{SimpleType, base, arrow, formula, predicate}
use Rattle.stt_core.specs.Lambda.{Constant, name, witness, falsity, negation, implication, all, equality, choice, description, Lambda, bound, constant, lam, app, neg, imp, eq, every, applied}
use Rattle.stt_core.specs.Typing.{Scope, constant_type}
use Rattle.stt_core.specs.Canonical.{IsCanonical}
use Rattle.stt_core.specs.Lift.{lift}
use Rattle.normal_forms.specs.Normal.{eta, apply}
use Rattle.tableau_calculus.specs.Literals.{Literal, plus, minus, opposite, as_literal, IsLiteral}
use Rattle.tableau_calculus.specs.Witnesses.{Row}
use Rattle.tableau_calculus.specs.RuleUses.{principals_of}
use Rattle.tableau_calculus.specs.declared.rule_use.RuleUse.{RuleUse}
use Rattle.tableau_calculus.specs.declared.rule_use.RuleUse.TheVariants.{AtOne, AtTwo, AllPos, WithPredicate, Cut}
use Rattle.tableau_calculus.specs.declared.rule_use.OnePlace.{OnePlace}
use Rattle.tableau_calculus.specs.declared.rule_use.OnePlace.TheVariants.{False, Refl, ImpPos, ImpNeg, BoolPos, BoolNeg, FunPos, FunNeg, AllNeg, Dec}
use Rattle.tableau_calculus.specs.declared.rule_use.TwoPlaces.TheVariants.{Close, Mat, Con}
use Rattle.tableau_calculus.specs.declared.rule_use.OfPredicate.TheVariants.{Cho, Des}

-- what a function gives at a new variable of this type, which is its argument type
abbrev pub at_new : SimpleType → Lambda → Lambda
at_new a f = apply (lift 0 f) (eta a (bound 0))

-- the formula that two functions from the first type to the second agree everywhere
abbrev pub agreement : SimpleType → SimpleType → Lambda → Lambda → Lambda
agreement a b s t = every a (lam a (eq b (at_new a s) (at_new a t)))

-- the formula that a predicate on a type holds nowhere
abbrev pub nowhere : SimpleType → Lambda → Lambda
nowhere a f = every a (lam a (neg (at_new a f)))

-- what is chosen by a predicate on a type
abbrev pub chosen : SimpleType → Lambda → Lambda
chosen a f = eta a (app (constant (choice a)) f)

-- what a predicate on a type gives at the outer and at the inner one of two new variables
abbrev pub at_outer : SimpleType → Lambda → Lambda
at_outer a f = lift 0 (at_new a f)

abbrev pub at_inner : SimpleType → Lambda → Lambda
at_inner a f = at_new a (lift 0 f)

-- the formula that a predicate on a type holds of one value at most: of two of which it holds each is the other
abbrev pub at_most_once : SimpleType → Lambda → Lambda
at_most_once a f =
    every a (lam a (every a (lam a (imp (at_outer a f) (imp (at_inner a f) (eq a (eta a (bound 1)) (eta a (bound 0))))))))

-- what a predicate on a type describes: the value of which alone it holds
abbrev pub described : SimpleType → Lambda → Lambda
described a f = eta a (app (constant (description a)) f)

-- a constant whose arguments are compared: a name, a witness, or the choice from a type or a description of its values
abbrev pub IsDecomposed : Constant → Type 0
IsDecomposed (name k) = Unit {0}
IsDecomposed (witness k) = Unit {0}
IsDecomposed (choice a) = Unit {0}
IsDecomposed (description a) = Unit {0}
IsDecomposed falsity = ⊥
IsDecomposed negation = ⊥
IsDecomposed implication = ⊥
IsDecomposed (all a) = ⊥
IsDecomposed (equality a) = ⊥

-- for each argument of a function of this type, first one first, the alternative that the two there differ
abbrev pub differ_each : SimpleType → List Lambda → List Lambda → List (List Literal)
differ_each (base n) ss ts = []
differ_each (arrow a b) [] ts = []
differ_each (arrow a b) (s ∷ ss) [] = []
differ_each (arrow a b) (s ∷ ss) (t ∷ ts) = (minus (eq a s t) ∷ []) ∷ differ_each b ss ts

-- The alternatives of the rules, by the parts of their principals.
abbrev pub Alternatives : Type 0
Alternatives = List (List Literal)

abbrev pub imp_pos : Lambda → Lambda → Alternatives
imp_pos s t = (opposite (as_literal s) ∷ []) ∷ (as_literal t ∷ []) ∷ []

abbrev pub imp_neg : Lambda → Lambda → Alternatives
imp_neg s t = (as_literal s ∷ opposite (as_literal t) ∷ []) ∷ []

abbrev pub bool_pos : Lambda → Lambda → Alternatives
bool_pos s t = (as_literal s ∷ as_literal t ∷ []) ∷ (opposite (as_literal s) ∷ opposite (as_literal t) ∷ []) ∷ []

abbrev pub bool_neg : Lambda → Lambda → Alternatives
bool_neg s t = (as_literal s ∷ opposite (as_literal t) ∷ []) ∷ (opposite (as_literal s) ∷ as_literal t ∷ []) ∷ []

abbrev pub fun_pos : SimpleType → SimpleType → Lambda → Lambda → Alternatives
fun_pos a b s t = (as_literal (agreement a b s t) ∷ []) ∷ []

abbrev pub fun_neg : SimpleType → SimpleType → Lambda → Lambda → Alternatives
fun_neg a b s t = (opposite (as_literal (agreement a b s t)) ∷ []) ∷ []

abbrev pub all_pos : Lambda → Lambda → Alternatives
all_pos f u = (as_literal (apply f u) ∷ []) ∷ []

abbrev pub all_neg : SimpleType → Lambda → Lambda → Alternatives
all_neg a f w = (opposite (as_literal (apply f (eta a w))) ∷ []) ∷ []

-- the arguments of a head of this type differ somewhere
abbrev pub differ : Option SimpleType → List Lambda → List Lambda → Alternatives
differ (Some a) ss ts = differ_each a ss ts
differ None ss ts = []

abbrev pub con : SimpleType → Lambda → Lambda → Lambda → Lambda → Alternatives
con b s t u v = (minus (eq b s u) ∷ minus (eq b t u) ∷ []) ∷ (minus (eq b s v) ∷ minus (eq b t v) ∷ []) ∷ []

abbrev pub cho : SimpleType → Lambda → Alternatives
cho a f = (as_literal (nowhere a f) ∷ []) ∷ (as_literal (apply f (chosen a f)) ∷ []) ∷ []

abbrev pub des : SimpleType → Lambda → Alternatives
des a f =
    (as_literal (nowhere a f) ∷ [])
    ∷ (opposite (as_literal (at_most_once a f)) ∷ [])
    ∷ (as_literal (apply f (described a f)) ∷ [])
    ∷ []

-- a rule's use in a branch: its principals by their places, canonical terms, literals
abbrev pub PlainRule : Type 0
PlainRule = RuleUse ℕ Lambda Literal

-- The rules that look at one principal and at nothing else, neither at the scope nor at the witnesses: a rule, its principal, its
-- alternatives.
pub data Alone : OnePlace → Literal → Alternatives → Type 0 where
  false_alone : Alone False (plus (constant falsity)) []
  refl_alone : (a : SimpleType) (s : Lambda) → Alone Refl (minus (eq a s s)) []
  imp_pos_alone : (s t : Lambda) → Alone ImpPos (plus (imp s t)) (imp_pos s t)
  imp_neg_alone : (s t : Lambda) → Alone ImpNeg (minus (imp s t)) (imp_neg s t)
  bool_pos_alone : (s t : Lambda) → Alone BoolPos (plus (eq formula s t)) (bool_pos s t)
  bool_neg_alone : (s t : Lambda) → Alone BoolNeg (minus (eq formula s t)) (bool_neg s t)
  fun_pos_alone : (a b : SimpleType) (s t : Lambda) → Alone FunPos (plus (eq (arrow a b) s t)) (fun_pos a b s t)
  fun_neg_alone : (a b : SimpleType) (s t : Lambda) → Alone FunNeg (minus (eq (arrow a b) s t)) (fun_neg a b s t)

-- The table: a rule with what it takes, its principals, and its alternatives. A branch that holds the principals is met only by models
-- that meet a whole alternative too. A base type whose number is a successor is one other than that of formulas.
pub data Rule (scope : Scope) (rows : List Row) : PlainRule → List Literal → List (List Literal) → Type 0 where
  alone_rule :
      (i : ℕ) (kind : OnePlace) (l : Literal) (alternatives : Alternatives)
      → Alone kind l alternatives
      → Rule scope rows (AtOne kind i) (l ∷ []) alternatives
  close_rule : (i j : ℕ) (l : Literal) → Rule scope rows (AtTwo Close i j) (l ∷ opposite l ∷ []) []
  all_pos_rule :
      (i : ℕ) (a : SimpleType) (f u : Lambda)
      → IsCanonical scope [] a u
      → Rule scope rows (AllPos i u) (plus (every a f) ∷ []) (all_pos f u)
  all_neg_rule :
      (i k : ℕ) (a : SimpleType) (f : Lambda)
      → slice_get rows k ≡ Some (record { type = a; predicate = f })
      → Rule scope rows (AtOne AllNeg i) (minus (every a f) ∷ []) (all_neg a f (constant (witness k)))
  mat_rule :
      (i j : ℕ) (c : Constant) (a : SimpleType) (s t : Lambda) (ss ts : List Lambda)
      → IsDecomposed c
      → constant_type scope c ≡ Some a
      → Rule scope rows (AtTwo Mat i j) (plus (applied (constant c) (s ∷ ss)) ∷ minus (applied (constant c) (t ∷ ts)) ∷ [])
      (differ_each a (s ∷ ss) (t ∷ ts))
  dec_rule :
      (i n : ℕ) (c : Constant) (a : SimpleType) (s t : Lambda) (ss ts : List Lambda)
      → IsDecomposed c
      → constant_type scope c ≡ Some a
      → Rule scope rows (AtOne Dec i) (minus (eq (base (suc n)) (applied (constant c) (s ∷ ss)) (applied (constant c) (t ∷ ts))) ∷ [])
      (differ_each a (s ∷ ss) (t ∷ ts))
  con_rule :
      (i j n : ℕ) (s t u v : Lambda)
      → Rule scope rows (AtTwo Con i j) (plus (eq (base (suc n)) s t) ∷ minus (eq (base (suc n)) u v) ∷ []) (con (base (suc n)) s t u v)
  cho_rule : (a : SimpleType) (f : Lambda) → IsCanonical scope [] (predicate a) f → Rule scope rows (WithPredicate Cho f) [] (cho a f)
  des_rule : (a : SimpleType) (f : Lambda) → IsCanonical scope [] (predicate a) f → Rule scope rows (WithPredicate Des f) [] (des a f)
  cut_rule : (l : Literal) → IsLiteral scope l → Rule scope rows (Cut l) [] ((l ∷ []) ∷ (opposite l ∷ []) ∷ [])

-- the literals stand at these places of the branch
abbrev pub AreAt : List Literal → List ℕ → List Literal → Type 0
AreAt branch [] [] = Unit {0}
AreAt branch [] (l ∷ ls) = ⊥
AreAt branch (i ∷ is) [] = ⊥
AreAt branch (i ∷ is) (l ∷ ls) = (slice_get branch i ≡ Some l) × AreAt branch is ls

-- an instance of the rule, whose principals stand at its places in the branch
pub record IsInstance (scope : Scope) (rows : List Row) (branch : List Literal) (rule : PlainRule) (alternatives : List (List Literal)) :
    Type 0 where
  pub principals : List Literal
  pub at_places : AreAt branch (principals_of rule) principals
  pub fits : Rule scope rows rule principals alternatives
