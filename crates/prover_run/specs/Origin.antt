-- Where the lines of a run's refutation come from.
use Rattle.std.specs.Prelude.{◌≡◌, ◌⊎◌, ℕ, List, [], ◌∷◌, ◌++◌, map, Some, slice_get, Contains}
use Rattle.stt_core.specs.Lambda.{Lambda}
use Rattle.stt_core.specs.Typing.{Scope}
use Rattle.tableau_calculus.specs.Literals.{Literal, opposite}
use Rattle.tableau_calculus.specs.Rules.{PlainRule}
use Rattle.tableau_calculus.specs.Witnesses.{Row}
use Rattle.tableau_calculus.specs.declared.rule_use.RuleUse.TheVariants.{Cut}
use Rattle.tableau_calculus.specs.declared.refutation.Line.{Line}
use Rattle.tableau_calculus.specs.declared.refutation.Refutation.{Refutation}
use Rattle.sat_base.specs.declared.literal.SatLit.{SatLit}
use Rattle.sat_log.specs.Chains.{results, IsLogOver}
use Rattle.search_spec.specs.Unsatisfiable.{Clause}
use Rattle.rebuild_spec.specs.Given.{IsGiven}
use Rattle.rebuild_spec.specs.Input.{Instance, clause_by, clause_in, Input}
use Rattle.rebuild_spec.specs.Rebuilt.{IsRebuilt}
use Rattle.rebuild_spec.specs.Stands.{rule_at_places}
use Rattle.rebuild_spec.specs.Trimmed.{IsClosedByStart}
use Rattle.rebuild_spec.specs.Used.{AreFew}
use Rattle.plain_tableau.specs.Carried.{IsNumberedInstance}
use Rattle.plain_tableau.specs.Tables.{expanded}
use Rattle.prover_run.specs.Learning.{HasLearned}

-- the atom is that of a literal of one of the clauses
pub record HasAtom (clauses : List Clause) (atom : Lambda) : Type 0 where
  pub clause : Clause
  pub there : Contains clauses clause
  pub literal : Literal
  pub held : Contains clause literal
  pub same : literal.atom ≡ atom

-- Where a line of this rule comes from. A cut's atom is one of the clauses'. Any other line closes two literals of the start, or the
-- negations of its branch's literals are one of the clauses.
abbrev pub ComesFromBy : PlainRule → List Literal → List Clause → Line → Type 0
ComesFromBy (Cut literal) start clauses l = HasAtom clauses literal.atom
ComesFromBy rule start clauses l = IsClosedByStart start l ⊎ Contains clauses (map opposite l.branch)

-- a line comes from the clauses, by its rule
abbrev pub ComesFrom : List Literal → List Clause → Line → Type 0
ComesFrom start clauses l = ComesFromBy l.rule start clauses l

abbrev pub EachComesFrom : List Literal → List Clause → List Line → Type 0
EachComesFrom start clauses lines = (l : Line) → Contains lines l → ComesFrom start clauses l

-- the literals of the instance have numbers, and its rule takes the principals in their order
pub record IsWellNumbered (atoms : List Lambda) (i : Instance) : Type 0 where
  pub numbered : IsNumberedInstance atoms (expanded i)
  pub in_order : rule_at_places i.rule (0 ∷ 1 ∷ []) ≡ i.rule

-- A log of resolution chains (Robinson 1965) of what was learned over the clauses, from which the refutation is rebuilt. The clauses come
-- from the start and from instances of the rules, over the witness table. The log is over the numbered clauses, each of its results is its
-- chain's, and the results are the learned clauses and then the empty one. There is at most one line for each step of the results that are
-- used and one for each clause that is. How many steps a chain has isn't said.
pub record AreRefutedShortly (scope : Scope) (start : List Literal) (table : List Row) (clauses : List Clause)
    (learning : HasLearned clauses) (refutation : Refutation) : Type 0 where
  pub input : Input
  pub atoms : input.atoms ≡ learning.atoms
  pub rows : input.rows ≡ table
  pub numbered : map clause_in input.clauses ≡ learning.numbered
  pub given : IsGiven scope start input
  pub instances :
      (n : ℕ) (clause : List SatLit) (i : Instance)
      → slice_get input.clauses n ≡ Some (clause_by clause i)
      → IsWellNumbered input.atoms i
  pub logged : IsLogOver learning.numbered input.log
  pub ends : results input.log ≡ learning.learned ++ [] ∷ []
  pub rebuilt : IsRebuilt input refutation
  pub few : AreFew input.log refutation.lines
