-- How deep the types nest that files name.
use Rattle.std.specs.Prelude.{◌≡◌, ◌≤◌, ◌+◌, ℕ, suc, max, List, [], ◌∷◌, length, Some, Ok}
use Rattle.stt_core.specs.PlainProblem.{PlainProblem}
use Rattle.stt_core.specs.Declarations.{scope_of}
use Rattle.delta_defs.specs.Unfolding.{unfolded_problem}
use Rattle.tableau_calculus.specs.Start.{start}
use Rattle.mode_file.specs.declared.Mode.{Mode}
use Rattle.search_spec.specs.State.{State}
use Rattle.search_spec.specs.After.{state_after}
use Rattle.thf_grammar.specs.Trees.{TypeTree, form, indiv, named, arrow, VarTree, FormulaTree, constant, variable, truth, operator, negation, binary, equation, application, quantified, binding, BodyTree, base, typing, formula, StatementTree, annotated, include}
use Rattle.thf_include.specs.View.{PlacedTree}
use Rattle.thf_include.specs.Gathering.{done, IsGathering}
use Rattle.type_check.specs.Statements.{problem_of}
use Rattle.type_bound.specs.Modest.{IsModestProblem}
use Rattle.type_bound.specs.Small.{StateHasSmallTerms}

-- how many arrows stand one inside the other
abbrev pub nest : TypeTree → ℕ
nest (form at) = 0
nest (indiv at) = 0
nest (named at name) = 0
nest (arrow at t u) = suc (max (nest t) (nest u))

-- how many variables are bound around one place
abbrev pub binders : FormulaTree → ℕ
binders (constant at name) = 0
binders (variable at name) = 0
binders (truth at value) = 0
binders (operator at conn) = 0
binders (negation at s) = binders s
binders (binary at conn s t) = max (binders s) (binders t)
binders (equation at positive s t) = max (binders s) (binders t)
binders (application at s t) = max (binders s) (binders t)
binders (quantified at all s) = binders s
binders (binding at binder vars s) = length vars + binders s

abbrev pub AreShallowVars : ℕ → List VarTree → Type 0
AreShallowVars limit [] = Unit {0}
AreShallowVars limit (v ∷ vars) = (nest v.ty ≤ limit) × AreShallowVars limit vars

-- the types of variables nest no deeper than so much
abbrev pub HasShallowVars : ℕ → FormulaTree → Type 0
HasShallowVars limit (constant at name) = Unit {0}
HasShallowVars limit (variable at name) = Unit {0}
HasShallowVars limit (truth at value) = Unit {0}
HasShallowVars limit (operator at conn) = Unit {0}
HasShallowVars limit (negation at s) = HasShallowVars limit s
HasShallowVars limit (binary at conn s t) = HasShallowVars limit s × HasShallowVars limit t
HasShallowVars limit (equation at positive s t) = HasShallowVars limit s × HasShallowVars limit t
HasShallowVars limit (application at s t) = HasShallowVars limit s × HasShallowVars limit t
HasShallowVars limit (quantified at all s) = HasShallowVars limit s
HasShallowVars limit (binding at binder vars s) = AreShallowVars limit vars × HasShallowVars limit s

abbrev pub IsShallowBody : ℕ → BodyTree → Type 0
IsShallowBody limit (base at name) = Unit {0}
IsShallowBody limit (typing at name ty) = nest ty ≤ limit
IsShallowBody limit (formula t) = (binders t ≤ limit) × HasShallowVars limit t

abbrev pub IsShallowStatement : ℕ → StatementTree → Type 0
IsShallowStatement limit (annotated a) = IsShallowBody limit a.body
IsShallowStatement limit (include at file only) = Unit {0}

-- whatever files state a problem, its types nest at most 1,024 deep
abbrev pub ReadingsAreModest : Type 0
ReadingsAreModest =
    (texts : List (List ℕ)) (name : List ℕ) (names : List (List ℕ)) (ss : List PlacedTree) (p : PlainProblem)
    → IsGathering texts name names (done ss)
    → problem_of ss ≡ Ok p
    → IsModestProblem 1024 p

-- whatever files state a problem: each state of the run over it, with its definitions unfolded, has terms that are small enough for a text
abbrev pub RunsOfFilesStaySmall : Type 0
RunsOfFilesStaySmall =
    (texts : List (List ℕ)) (name : List ℕ) (names : List (List ℕ)) (ss : List PlacedTree) (p : PlainProblem)
    → IsGathering texts name names (done ss)
    → problem_of ss ≡ Ok p
    → (mode : Mode) (n : ℕ) (s : State)
    → state_after (record { scope = scope_of p.declared; mode = mode }) (start (unfolded_problem p)) n ≡ Some s
    → StateHasSmallTerms s
