-- Unit propagation. Source: Davis and Putnam, A computing procedure for quantification theory, 1960.
use Rattle.std.specs.Prelude.{◌≡◌, ◌≢◌, false, IsTrue, List, [], ◌∷◌, ◌++◌, map}
use Rattle.std.specs.List.{All, Any, Contains}
use Rattle.sat_base.specs.declared.literal.SatLit.{SatLit}
use Rattle.sat_base.specs.Literal.{negated, holds}
use Rattle.sat_log.specs.Resolution.{without_literal}

-- a literal is the only one of a clause whose negation is not in the list
pub record IsUnitClause (literals clause : List SatLit) (l : SatLit) : Type 0 where
  pub member : IsTrue (holds clause l)
  pub still_open : holds literals (negated l) ≡ false
  pub others : (m : SatLit) → IsTrue (holds clause m) → m ≢ l → IsTrue (holds literals (negated m))

-- the negations of all literals of a clause are in the list
abbrev pub IsFalseIn : List SatLit → List SatLit → Type 0
IsFalseIn literals clause = All (λ l. IsTrue (holds literals (negated l))) clause

-- the list holds no literal beside its negation
abbrev pub IsConsistent : List SatLit → Type 0
IsConsistent literals = (l : SatLit) → IsTrue (holds literals l) → IsTrue (holds literals (negated l)) → ⊥

-- each later literal is the only one of some clause whose negation is not earlier in the list
abbrev pub Propagates : List (List SatLit) → List SatLit → List SatLit → Type 0
Propagates clauses earlier [] = Unit {0}
Propagates clauses earlier (l ∷ later) =
    Any (λ clause. IsUnitClause earlier clause l) clauses × Propagates clauses (earlier ++ l ∷ []) later

-- a propagation list over the clauses from the given literals: these, and then literals that are propagated
pub record IsPropagation (clauses : List (List SatLit)) (given literals : List SatLit) : Type 0 where
  pub later : List SatLit
  pub begins : literals ≡ given ++ later
  pub propagated : Propagates clauses given later

-- unit propagation from the given literals reaches a literal
pub record Reaches (clauses : List (List SatLit)) (given : List SatLit) (l : SatLit) : Type 0 where
  pub literals : List SatLit
  pub propagation : IsPropagation clauses given literals
  pub reached : IsTrue (holds literals l)

-- unit propagation from the given literals reaches a false clause
pub record ReachesFalse (clauses : List (List SatLit)) (given : List SatLit) : Type 0 where
  pub literals : List SatLit
  pub propagation : IsPropagation clauses given literals
  pub falsified : Any (IsFalseIn literals) clauses

-- decisions that fail: unit propagation reaches neither a false clause nor the last of them nor its negation from those
-- before it, and reaches a false clause from all of them
pub record AreFailingDecisions (clauses : List (List SatLit)) (decisions : List SatLit) : Type 0 where
  pub before : List SatLit
  pub last : SatLit
  pub in_order : decisions ≡ before ++ last ∷ []
  pub consistent : ¬ ReachesFalse clauses before
  pub undecided : ¬ Reaches clauses before last
  pub not_denied : ¬ Reaches clauses before (negated last)
  pub fails : ReachesFalse clauses decisions

-- a clause is new to unit propagation: from the negations of its literals other than one, propagation reaches neither that
-- one nor a false clause
pub record IsNew (clauses : List (List SatLit)) (clause : List SatLit) : Type 0 where
  pub literal : SatLit
  pub member : IsTrue (holds clause literal)
  pub unreached : ¬ Reaches clauses (map negated (without_literal literal clause)) literal
  pub consistent : ¬ ReachesFalse clauses (map negated (without_literal literal clause))

-- all clauses of one list are in another
abbrev pub Includes : List (List SatLit) → List (List SatLit) → Type 0
Includes clauses others = (clause : List SatLit) → Contains clauses clause → Contains others clause
