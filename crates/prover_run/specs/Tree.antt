-- What comes of a tree without cut, which may be asked for of a proved run.
use Rattle.std.specs.Prelude.{◌≡◌, ◌<◌, ℕ, List, map, Option, Some, None, slice_get, Contains}
use Rattle.stt_core.specs.Typing.{Scope}
use Rattle.tableau_calculus.specs.Literals.{Literal}
use Rattle.tableau_calculus.specs.Start.{without_repeats}
use Rattle.tableau_calculus.specs.Accepted.{IsAccepted}
use Rattle.tableau_calculus.specs.CutFree.{HasNoCut}
use Rattle.tableau_calculus.specs.Each.{Each}
use Rattle.sat_base.specs.declared.literal.SatLit.{SatLit}
use Rattle.refute_print.specs.Sizes.{IsSmall}
use Rattle.search_spec.specs.Numbered.{IsNumber}
use Rattle.rebuild_spec.specs.Trees.{at_clause}
use Rattle.rebuild_spec.specs.Input.{Instance, clause_by, Input, literals_of}
use Rattle.rebuild_spec.specs.Trimmed.{IsEachReached}
use Rattle.rebuild_spec.specs.Used.{IsUsed}
use Rattle.plain_tableau.specs.Tables.{expanded, IsStripped, OfTree, IsWithinLimit}
use Rattle.plain_tableau.specs.declared.stripped.Stripped.{Stripped}

-- the log uses a clause of the instance
pub record UsesInstance (input : Input) (i : Instance) : Type 0 where
  pub number : ℕ
  pub clause : List SatLit
  pub there : slice_get input.clauses number ≡ Some (clause_by clause i)
  pub used : IsUsed input.log (at_clause number)

-- The instances are those of which the log uses a clause, each once, in the order of their clauses, which is that in which they were made.
pub record AreUsedInstances (input : Input) (instances : List Instance) : Type 0 where
  pub each : (i : Instance) → Contains instances i → UsesInstance input i
  pub all : (i : Instance) → UsesInstance input i → Contains instances i
  pub in_order : (p q : ℕ) (i j : Instance) → p < q → slice_get instances p ≡ Some i → slice_get instances q ≡ Some j
      → (u : UsesInstance input i) (v : UsesInstance input j) → u.number < v.number

-- What comes of the instances that the log uses, from the branch of these literals: the refutation of a tree, the first branch that stays
-- open, or that there would be more nodes than these. A tree's refutation is accepted for the start, small enough for a text, and has no
-- cut and at most so many lines, each of which is reached from the last one.
pub record IsTreeFor (scope : Scope) (start begin : List Literal) (input : Input) (limit : ℕ) (stripped : Stripped) : Type 0 where
  pub instances : List Instance
  pub used : AreUsedInstances input instances
  pub branch : List SatLit
  pub numbered : Each (IsNumber input.atoms) branch
  pub begins : literals_of input.atoms branch ≡ without_repeats begin
  pub comes : IsStripped input.atoms input.rows (map expanded instances) limit branch stripped
  pub accepted : OfTree (IsAccepted scope start) stripped
  pub no_cut : OfTree (λ refutation. HasNoCut refutation.lines) stripped
  pub within : IsWithinLimit limit stripped
  pub reached : OfTree (λ refutation. IsEachReached refutation.lines) stripped
  pub small : OfTree IsSmall stripped

-- where a tree is asked for, something comes of it, and else nothing does
abbrev pub IsTreeAsked : Scope → List Literal → List Literal → Input → Option ℕ → Option Stripped → Type 0
IsTreeAsked scope start begin input None None = Unit {0}
IsTreeAsked scope start begin input None (Some stripped) = ⊥
IsTreeAsked scope start begin input (Some limit) None = ⊥
IsTreeAsked scope start begin input (Some limit) (Some stripped) = IsTreeFor scope start begin input limit stripped
