-- When the text of a refutation is accepted for a problem, and where it fails first otherwise.
use Rattle.std.specs.Prelude.{◌≡◌, ◌≢◌, ◌<◌, ℕ, ◌+◌, List, [], ◌∷◌, map, length, take, slice_get}
use Rattle.stt_core.specs.Declarations.{scope_of}
use Rattle.stt_core.specs.PlainProblem.{PlainProblem}
use Rattle.tableau_calculus.specs.Start.{start}
use Rattle.tableau_calculus.specs.Accepted.{IsAccepted}
use Rattle.tableau_calculus.specs.declared.refutation.Why.{Why}
use Rattle.tableau_calculus.specs.declared.refutation.Why.TheVariants.{Defs}
use Rattle.delta_defs.specs.Unfolding.{taken_names, unfolded_problem}
use Rattle.refute_print.specs.Trees.{RefutationTree}
use Rattle.refute_print.specs.Named.{names_of, name_numbered}
use Rattle.refute_check.specs.Numbered.{numbered_refutation}
use Rattle.refute_check.specs.Refusal.{FailsAt}

-- the names whose definitions are taken from a problem, in order
abbrev pub taken_texts : PlainProblem → List (List ℕ)
taken_texts p = map (name_numbered (names_of p.declared.bases p.declared.consts).constants) (taken_names p)

-- A text of version 2 names the definitions that are taken, in order; one of version 1 names none.
abbrev pub NamesDefinitions : PlainProblem → List (List ℕ) → Type 0
NamesDefinitions p [] = Unit {0}
NamesDefinitions p (w ∷ names) = w ∷ names ≡ taken_texts p

-- A text of version 1 refutes the problem as it stands, and one of version 2 the unfolded problem.
abbrev pub refuted_problem : PlainProblem → List (List ℕ) → PlainProblem
refuted_problem p [] = p
refuted_problem p (w ∷ names) = unfolded_problem p

-- The text is accepted for the problem.
pub record IsAcceptedFor (p : PlainProblem) (t : RefutationTree) : Type 0 where
  pub definitions : NamesDefinitions p t.names
  pub refutation :
      IsAccepted (scope_of p.declared) (start (refuted_problem p t.names))
      (numbered_refutation (names_of p.declared.bases p.declared.consts) t)

-- The place is the first at which two lists differ: the names there are others, or only one list has a name there.
pub record DifferFirst (names taken : List (List ℕ)) (place : ℕ) : Type 0 where
  pub same : take place names ≡ take place taken
  pub other : slice_get names place ≢ slice_get taken place

-- The first failure of a text, of which the first row, or else the first line, or else the end line, is line `first`. The lines of the
-- definitions stand before that one, and are checked before all others. Where they are too few, the failure is at line `first`.
pub data TextFailsAt (p : PlainProblem) (t : RefutationTree) (first : ℕ) : ℕ → Why → Type 0 where
  at_definition :
      (place line : ℕ)
      → 0 < length t.names
      → DifferFirst t.names (taken_texts p) place
      → line + length t.names ≡ first + place
      → TextFailsAt p t first line Defs
  behind_definitions :
      (line : ℕ) (why : Why)
      → NamesDefinitions p t.names
      → FailsAt (scope_of p.declared) (start (refuted_problem p t.names))
      (numbered_refutation (names_of p.declared.bases p.declared.consts) t) first line why
      → TextFailsAt p t first line why
