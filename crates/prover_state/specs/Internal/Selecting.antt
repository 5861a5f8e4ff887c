-- Choices and descriptions in shared terms.
use Rattle.std.specs.Prelude.{◌≡◌, ◌<◌, true, ℕ, List, [], ◌∷◌, length}
use Rattle.std.specs.List.{list_any}
use Rattle.stt_core.specs.SimpleType.{SimpleType}
use Rattle.stt_core.specs.Lambda.{Lambda, bound, constant, lam, app}
use Rattle.stt_core.specs.SameTerm.{same_term}
use Rattle.tableau_calculus.specs.Each.{Each}
use Rattle.search_spec.specs.Selections.{Selection, by_choice, by_description, selection_by, selections_in}
use Rattle.search_spec.specs.Spine.{head_of, arguments}
use Rattle.term_bank.specs.Terms.{term_at}
use Rattle.prover_state.specs.declared.selected.Selected.{Selected}
use Rattle.prover_state.specs.declared.selected.Selected.TheVariants.{Chosen, Described, Nothing}

-- a function's body, and the arguments of a head
abbrev pub term_parts : Lambda → List Lambda
term_parts (bound k) = []
term_parts (constant c) = []
term_parts (lam a s) = s ∷ []
term_parts (app s u) = arguments (app s u)

-- the predicate by which the head chooses or describes, with the first argument
abbrev pub selection_at : Lambda → List Lambda → List Selection
selection_at h [] = []
selection_at h (u ∷ us) = selection_by h u

abbrev pub head_selection : Lambda → List Selection
head_selection t = selection_at (head_of t) (arguments t)

-- this is the predicate, by its place
abbrev pub IsSelectedIn : List Lambda → List Selection → Selected → Type 0
IsSelectedIn terms ps (Chosen f) = (f < length terms) × ((a : SimpleType) × (ps ≡ by_choice a (term_at terms f) ∷ []))
IsSelectedIn terms ps (Described f) = (f < length terms) × ((a : SimpleType) × (ps ≡ by_description a (term_at terms f) ∷ []))
IsSelectedIn terms ps Nothing = ps ≡ []

-- the predicate is among those that were chosen by, or among those that were described
abbrev pub IsTakenSelection : List Lambda → List Lambda → Selection → Type 0
IsTakenSelection chosen described (by_choice a f) = list_any (same_term f) chosen ≡ true
IsTakenSelection chosen described (by_description a f) = list_any (same_term f) described ≡ true

-- all choices and descriptions in the terms at these places are
abbrev pub AreTaken : List Lambda → List Lambda → List Lambda → List ℕ → Type 0
AreTaken chosen described terms ids = Each (λ id. Each (IsTakenSelection chosen described) (selections_in (term_at terms id))) ids
