-- What holds of what is rebuilt.
use Rattle.std.specs.Prelude.{◌≡◌, ◌+◌, ◌++◌, ℕ, List, [], map, length, Some, slice_get, Contains}
use Rattle.stt_core.specs.Typing.{Scope}
use Rattle.tableau_calculus.specs.Literals.{Literal}
use Rattle.tableau_calculus.specs.Accepted.{IsAccepted}
use Rattle.tableau_calculus.specs.Closed.{Closes, tableau_of}
use Rattle.tableau_calculus.specs.declared.refutation.Line.{Line}
use Rattle.tableau_calculus.specs.declared.refutation.Refutation.{Refutation}
use Rattle.sat_base.specs.declared.literal.SatLit.{SatLit}
use Rattle.sat_base.specs.Literal.{negated}
use Rattle.search_spec.specs.Clauses.{clause_of}
use Rattle.tableau_calculus.specs.Kinds.{added}
use Rattle.tableau_calculus.specs.Each.{Each}
use Rattle.search_spec.specs.Numbered.{numbers, IsNumber, AreApart}
use Rattle.sat_log.specs.declared.log.LogEntry.{LogEntry}
use Rattle.sat_log.specs.Chains.{IsLogOver}
use Rattle.rebuild_spec.specs.Input.{Instance, clause_by, clause_in, Input}
use Rattle.rebuild_spec.specs.Trees.{at_clause, branch}
use Rattle.rebuild_spec.specs.Stands.{instance_line}
use Rattle.rebuild_spec.specs.Given.{IsGiven}
use Rattle.rebuild_spec.specs.Rebuilt.{IsRebuilt}
use Rattle.rebuild_spec.specs.Used.{IsUsed, AreFew, HasUsedLines}
use Rattle.rebuild_spec.specs.Alike.{formula_clauses, StandOnce, IsUsedAlike}
use Rattle.rebuild_spec.specs.Trimmed.{IsEachReached, IsFromSearch}

-- the refutation is accepted
abbrev pub RebuiltIsAccepted : Type 0
RebuiltIsAccepted =
    (scope : Scope) (start : List Literal) (input : Input) (refutation : Refutation)
    → IsGiven scope start input
    → IsRebuilt input refutation
    → IsAccepted scope start refutation

-- the tableau of the refutation's last line closes the start
abbrev pub RebuiltIsClosed : Type 0
RebuiltIsClosed =
    (scope : Scope) (start : List Literal) (input : Input) (refutation : Refutation)
    → IsGiven scope start input
    → IsRebuilt input refutation
    → Closes scope refutation.witnesses (tableau_of refutation) start

-- from a right log whose last result is the empty clause a refutation is rebuilt
abbrev pub SomeIsRebuilt : Type 0
SomeIsRebuilt =
    (input : Input) (n : ℕ) (entry : LogEntry)
    → IsLogOver (map clause_in input.clauses) input.log
    → length input.log ≡ n + 1
    → slice_get input.log n ≡ Some entry
    → entry.result ≡ []
    → (refutation : Refutation) × IsRebuilt input refutation

-- one refutation is rebuilt
abbrev pub OneIsRebuilt : Type 0
OneIsRebuilt = (input : Input) (r q : Refutation) → IsRebuilt input r → IsRebuilt input q → r ≡ q

-- each line is reached from the last one
abbrev pub RebuiltIsReached : Type 0
RebuiltIsReached =
    (scope : Scope) (start : List Literal) (input : Input) (refutation : Refutation)
    → IsGiven scope start input
    → IsRebuilt input refutation
    → IsEachReached refutation.lines

-- each cut is on an atom of the clauses, and each other line closes two start literals or is that of a clause
abbrev pub RebuiltIsFromSearch : Type 0
RebuiltIsFromSearch =
    (scope : Scope) (start : List Literal) (input : Input) (refutation : Refutation)
    → IsGiven scope start input
    → IsRebuilt input refutation
    → (l : Line)
    → Contains refutation.lines l
    → IsFromSearch start input l

-- there is at most one line for each step of the results and one for each clause that the last result's chain reaches
abbrev pub RebuiltIsFew : Type 0
RebuiltIsFew =
    (scope : Scope) (start : List Literal) (input : Input) (refutation : Refutation)
    → IsGiven scope start input
    → IsRebuilt input refutation
    → AreFew input.log refutation.lines

-- The branch of the line of a clause is the principals and then the negations of the literals that were picked, without repeats, whichever
-- of its choices gives the clause.
abbrev pub BranchesArePicked : Type 0
BranchesArePicked =
    (n : ℕ) (clause picked : List SatLit) (i : Instance) → clause ≡ clause_of numbers i.principals picked
    → branch (instance_line n clause i) ≡ added numbers [] (i.principals ++ map negated picked)

-- each clause of an instance that the last result's chain reaches has its line
abbrev pub RebuiltHasUsed : Type 0
RebuiltHasUsed =
    (scope : Scope) (start : List Literal) (input : Input) (refutation : Refutation)
    → IsGiven scope start input
    → IsRebuilt input refutation
    → HasUsedLines input refutation.lines

-- A refutation that is rebuilt from two inputs fixes which clauses of instances are used, and their instances: where the inputs have the
-- same rows and the same clauses, none of which stands twice.
abbrev pub RebuiltFixesInstances : Type 0
RebuiltFixesInstances =
    (scope : Scope) (start : List Literal) (input other : Input) (refutation : Refutation)
    → IsGiven scope start input
    → IsGiven scope start other
    → input.rows ≡ other.rows
    → formula_clauses input ≡ formula_clauses other
    → StandOnce (formula_clauses input)
    → AreApart input.atoms
    → IsRebuilt input refutation
    → IsRebuilt other refutation
    → (n : ℕ) (clause : List SatLit) (i : Instance)
    → slice_get input.clauses n ≡ Some (clause_by clause i)
    → Each (IsNumber input.atoms) i.principals
    → IsUsed input.log (at_clause n)
    → IsUsedAlike input other n i
