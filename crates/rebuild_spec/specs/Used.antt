-- What the chain of the last result reaches, and how many lines there are for it.
use Rattle.std.specs.Prelude.{◌≡◌, ◌+◌, ◌≤◌, ℕ, List, [], ◌∷◌, map, length, Option, Some, None, slice_get, Contains}
use Rattle.tableau_calculus.specs.declared.refutation.Line.{Line}
use Rattle.sat_base.specs.declared.literal.SatLit.{SatLit}
use Rattle.sat_base.specs.Literal.{negated}
use Rattle.sat_log.specs.declared.chain.ChainStep.{ChainStep}
use Rattle.sat_log.specs.declared.log.LogEntry.{LogEntry}
use Rattle.rebuild_spec.specs.Input.{Instance, clause_by, Input, literals_of}
use Rattle.rebuild_spec.specs.Trees.{Place, at_clause, at_result}
use Rattle.rebuild_spec.specs.Stands.{premise_place}

-- A clause or a result is used: it is the last result, or a premise of the chain of one that is used.
pub data IsUsed (log : List LogEntry) : Place → Type 0 where
  last_result : (n : ℕ) → length log ≡ n + 1 → IsUsed log (at_result n)
  first_of :
      (n : ℕ) (entry : LogEntry) → slice_get log n ≡ Some entry → IsUsed log (at_result n) → IsUsed log (premise_place entry.chain.first)
  step_of :
      (n : ℕ) (entry : LogEntry) (step : ChainStep)
      → slice_get log n ≡ Some entry
      → IsUsed log (at_result n)
      → Contains entry.chain.steps step
      → IsUsed log (premise_place step.premise)

-- how many steps the chains of these results of a log have
abbrev pub steps_in : Option LogEntry → ℕ
steps_in None = 0
steps_in (Some entry) = length entry.chain.steps

abbrev pub steps_of : List LogEntry → List ℕ → ℕ
steps_of log [] = 0
steps_of log (n ∷ ns) = steps_in (slice_get log n) + steps_of log ns

abbrev pub AreDistinct : List ℕ → Type 0
AreDistinct [] = Unit {0}
AreDistinct (n ∷ ns) = (Contains ns n → ⊥) × AreDistinct ns

-- at most one line for each step of the results that are used and one for each clause that is used
pub record AreFew (log : List LogEntry) (lines : List Line) : Type 0 where
  pub results : List ℕ
  pub results_distinct : AreDistinct results
  pub each_result : (n : ℕ) → Contains results n → IsUsed log (at_result n)
  pub used : List ℕ
  pub distinct : AreDistinct used
  pub each_used : (n : ℕ) → Contains used n → IsUsed log (at_clause n)
  pub few : length lines ≤ steps_of log results + length used

-- one of the lines is that of the clause: its branch is the negations of the clause's literals
pub record HasLineOf (input : Input) (lines : List Line) (clause : List SatLit) : Type 0 where
  pub line : Line
  pub there : Contains lines line
  pub branch : line.branch ≡ literals_of input.atoms (map negated clause)

-- each clause of an instance that is used has its line
abbrev pub HasUsedLines : Input → List Line → Type 0
HasUsedLines input lines =
    (n : ℕ) (clause : List SatLit) (i : Instance)
    → IsUsed input.log (at_clause n)
    → slice_get input.clauses n ≡ Some (clause_by clause i)
    → HasLineOf input lines clause
