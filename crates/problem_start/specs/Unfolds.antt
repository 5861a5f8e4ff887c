-- The definitions of a problem by the numbers of their normal forms, and the numbers of its start's literals.
use Rattle.std.specs.Prelude.{◌≡◌, ◌<◌, ℕ, Bool, true, false, List, [], ◌∷◌, ◌++◌, Option, Some, None, map, length, All}
use Rattle.sat_base.specs.declared.literal.SatLit.{SatLit}
use Rattle.stt_core.specs.Lambda.{Lambda}
use Rattle.stt_core.specs.Typing.{Scope}
use Rattle.stt_core.specs.Declarations.{scope_of}
use Rattle.stt_core.specs.PlainProblem.{PlainProblem}
use Rattle.tableau_calculus.specs.Literals.{Literal, opposite, as_literal}
use Rattle.tableau_calculus.specs.Start.{normal_literal, denied}
use Rattle.term_bank.specs.Content.{Content, content_scope}
use Rattle.term_bank.specs.Terms.{term_at}
use Rattle.delta_defs.specs.Definitions.{Definition}
use Rattle.delta_defs.specs.Laws.{AreTypedDefinitions}
use Rattle.delta_defs.specs.Outline.{IsOutline}
use Rattle.delta_defs.specs.Unfolding.{definitions_of, left_formulas, unfolded_problem}
use Rattle.delta_normal.specs.Forms.{normal_form_by, normal_definitions}
use Rattle.bank_normal.specs.Forms.{forms_in, AreForms}
use Rattle.literal_map.specs.Atoms.{bank_literal}
use Rattle.problem_start.specs.declared.unfolding.Unfolding.{Unfolding}

-- the problem, with its definitions unfolded where they are to be
abbrev pub unfolded_if : Bool → PlainProblem → PlainProblem
unfolded_if false p = p
unfolded_if true p = unfolded_problem p

-- the definitions that are unfolded in it
abbrev pub definitions_if : Bool → PlainProblem → List Definition
definitions_if false p = []
definitions_if true p = definitions_of p

-- the assumed formulas of which it has the unfolded ones
abbrev pub left_if : Bool → PlainProblem → List Lambda
left_if false p = p.assumed
left_if true p = left_formulas p

-- the literals of the assumed formulas in order, and then the negation of the conjecture's; the start is this list without repeats
abbrev pub start_literals : PlainProblem → List Literal
start_literals p = map (normal_literal (scope_of p.declared)) p.assumed ++ denied (scope_of p.declared) p.conjecture

-- the literal of a formula's normal form by definitions
abbrev pub normal_literal_by : Scope → List Definition → Lambda → Literal
normal_literal_by scope ds t = as_literal (normal_form_by scope ds [] t)

-- the negation of the conjecture's, where there is one
abbrev pub denied_by : Scope → List Definition → Option Lambda → List Literal
denied_by scope ds None = []
denied_by scope ds (Some t) = opposite (normal_literal_by scope ds t) ∷ []

-- the numbers are those of atoms, and the literals these
pub record AreStartNumbers (b : Content) (atoms : List ℕ) (ls : List Literal) (ns : List SatLit) : Type 0 where
  pub numbers : All (λ (n : SatLit). n.var.0 < length atoms) ns
  pub literals : map (bank_literal b.terms atoms) ns ≡ ls

-- the names stand for the normal forms of the definitions, whose outline is the one that is kept
pub record IsUnfolding (b : Content) (u : Unfolding) (ds : List Definition) : Type 0 where
  pub outline : IsOutline u.outline ds
  pub forms : AreForms b u.forms
  pub definitions : forms_in b.terms u.forms ≡ normal_definitions (content_scope b) ds
  pub typed : AreTypedDefinitions (content_scope b) ds

-- the formulas at the places
abbrev pub formulas_at : List Lambda → List ℕ → List Lambda
formulas_at ts places = map (term_at ts) places

-- the places are those of formulas, which are these
pub record StandAt (ts : List Lambda) (places : List ℕ) (ls : List Lambda) : Type 0 where
  pub within : All (λ i. i < length ts) places
  pub formulas : formulas_at ts places ≡ ls

-- the place, unless a definition is taken from its formula
abbrev pub place_unless : Option Definition → ℕ → List ℕ
place_unless None i = i ∷ []
place_unless (Some d) i = []
