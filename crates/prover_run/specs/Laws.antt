-- Laws of how runs end.
use Rattle.std.specs.Prelude.{◌≡◌, ◌≢◌, ◌<◌, ◌≤◌, ℕ, List, [], Option, Contains}
use Rattle.stt_core.specs.PlainProblem.{PlainProblem}
use Rattle.tableau_calculus.specs.Literals.{Literal}
use Rattle.tableau_calculus.specs.Start.{start}
use Rattle.tableau_calculus.specs.declared.refutation.Refutation.{Refutation}
use Rattle.sat_base.specs.declared.literal.SatLit.{SatLit}
use Rattle.mode_file.specs.declared.Mode.{Mode}
use Rattle.search_spec.specs.State.{Setting}
use Rattle.search_spec.specs.Unsatisfiable.{Clause}
use Rattle.prover_run.specs.Learning.{HasLearned, AreSpent, PropagatesToFalse, AreRefutedWithin, IsLearnedAmong, AreEnough}
use Rattle.plain_tableau.specs.declared.stripped.Stripped.{Stripped}
use Rattle.rebuild_spec.specs.Input.{Instance, Input}
use Rattle.prover_run.specs.Ended.{setting_for, IsRefuted, IsSpent, HasEnoughConflicts, EndsAs}
use Rattle.prover_run.specs.declared.ended.Ended.TheVariants.{Proved}
use Rattle.prover_run.specs.Tree.{AreUsedInstances}

-- conflicts for all clauses over the atoms are never spent
abbrev pub EnoughIsNeverSpent : Type 0
EnoughIsNeverSpent = (clauses : List Clause) (conflicts : ℕ) → AreEnough conflicts clauses → AreSpent clauses conflicts → ⊥

-- so no run is spent whose mode has conflicts for all clauses of each of its states
abbrev pub RunWithEnoughIsNeverSpent : Type 0
RunWithEnoughIsNeverSpent =
    (setting : Setting) (literals : List Literal) (conflicts : ℕ)
    → HasEnoughConflicts setting literals
    → IsSpent setting literals conflicts
    → ⊥

-- the empty clause isn't learned
abbrev pub LearnedIsNotEmpty : Type 0
LearnedIsNotEmpty =
    (clauses : List Clause) (learning : HasLearned clauses) (clause : List SatLit) → Contains learning.learned clause → clause ≢ []

-- what is refuted without a conflict, unit propagation over the clauses alone refutes
abbrev pub PropagatesWithoutConflict : Type 0
PropagatesWithoutConflict = (clauses : List Clause) → AreRefutedWithin 0 clauses → PropagatesToFalse clauses

-- so it is with the clauses of a proved run whose mode has no conflicts
abbrev pub RunPropagatesWithoutConflict : Type 0
RunPropagatesWithoutConflict =
    (p : PlainProblem) (m : Mode) (n : ℕ) (refutation : Refutation) (refuted : IsRefuted p m n refutation)
    → m.conflicts ≡ 0
    → PropagatesToFalse refuted.proved.state.clauses

-- what was learned where the conflicts are spent doesn't refute the clauses, nor does a part of it
abbrev pub SpentIsNotRefuted : Type 0
SpentIsNotRefuted =
    (clauses : List Clause) (conflicts budget : ℕ) (spent : AreSpent clauses conflicts) (refuted : AreRefutedWithin budget clauses)
    → IsLearnedAmong refuted.learning spent.learning
    → ⊥

-- for one problem and one mode, a run whose conflicts are spent ends no later than one that is proved
abbrev pub SpentEndsNoLater : Type 0
SpentEndsNoLater =
    (p : PlainProblem) (m : Mode) (n conflicts : ℕ) (refutation : Refutation) (spent : IsSpent (setting_for p m) (start p) conflicts)
    (refuted : IsRefuted p m n refutation)
    → spent.commands ≤ n

-- and earlier where all that the proved run learned, it learned too
abbrev pub SpentEndsEarlier : Type 0
SpentEndsEarlier =
    (p : PlainProblem) (m : Mode) (n conflicts : ℕ) (refutation : Refutation) (spent : IsSpent (setting_for p m) (start p) conflicts)
    (refuted : IsRefuted p m n refutation)
    → IsLearnedAmong refuted.within.learning spent.spent.learning → spent.commands < n

-- a log uses one list of instances
abbrev pub OneUsedList : Type 0
OneUsedList =
    (input : Input) (instances others : List Instance)
    → AreUsedInstances input instances
    → AreUsedInstances input others
    → instances ≡ others

-- One tree belongs to a refutation: for one problem, mode and limit on the nodes, two runs that are proved after as many commands and by
-- one refutation come to the same.
abbrev pub OneTreeOfRefutation : Type 0
OneTreeOfRefutation =
    (p : PlainProblem) (m : Mode) (nodes : Option ℕ) (n : ℕ) (refutation : Refutation) (tree other : Option Stripped)
    → EndsAs p m nodes (Proved n refutation tree)
    → EndsAs p m nodes (Proved n refutation other)
    → tree ≡ other
