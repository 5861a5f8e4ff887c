-- A run has one result.
use Rattle.std.specs.Prelude.{◌≡◌, ◌<◌, ℕ, List, Option, Some, unwrap_or, ◌⊎◌}
use Rattle.std.proofs.Common.{sym, ap, ◌∙◌, subst, inl, inr}
use Rattle.std.proofs.lemmas.Bool.{cases_order}
use Rattle.tableau_calculus.specs.Literals.{Literal}
use Rattle.search_spec.specs.Unsatisfiable.{Unsatisfiable}
use Rattle.search_spec.specs.State.{State, Setting}
use Rattle.search_spec.specs.Result.{GoesOn, GoesOnUntil, IsOpen, IsProved, IsExhausted, IsStopped, Result, proved, gave_up, stopped, IsResult}

abbrev number : Result → ℕ
number (proved n) = n
number (gave_up n) = n
number (stopped n) = n

same : {x : Option State} (s t : State) → x ≡ Some s → x ≡ Some t → s ≡ t
same s t e f = ap (λ o. unwrap_or o s) (sym e ∙ f)

until : (setting : Setting) (start : List Literal) (r : Result) → IsResult setting start r → GoesOnUntil setting start (number r)
until setting start (proved n) h = h.until
until setting start (gave_up n) h = h.until
until setting start (stopped n) h = h.until

-- where the clauses are unsatisfiable, none is open
closed : (setting : Setting) (start : List Literal) (n : ℕ) (s : State) → IsProved setting start n → IsOpen setting start n s → ⊥
closed setting start n s h o = o.satisfiable (let P : State → Type 0 = λ t. Unsatisfiable t.clauses in subst P (same h.state s h.comes_to o.comes_to) h.unsatisfiable)

-- a run doesn't go on where it ends
ended : (setting : Setting) (start : List Literal) (r : Result) → IsResult setting start r → GoesOn setting start (number r) → ⊥
ended setting start (proved n) h g = closed setting start n g.state h g.open_state
ended setting start (gave_up n) h g = g.some_left (ap (λ t. t.queue) (sym (same h.state g.state h.open_state.comes_to g.open_state.comes_to)) ∙ h.none_left)
ended setting start (stopped n) h g = g.below h.at_limit

at_one : (setting : Setting) (start : List Literal) (r r' : Result) → number r ≡ number r' → IsResult setting start r → IsResult setting start r' → r ≡ r'
at_one setting start (proved n) (proved m) e h h' = ap proved e
at_one setting start (proved n) (gave_up m) e h h' = absurd (closed setting start m h'.state (let P : ℕ → Type 0 = λ k. IsProved setting start k in subst P e h) h'.open_state)
at_one setting start (proved n) (stopped m) e h h' = absurd (closed setting start m h'.state (let P : ℕ → Type 0 = λ k. IsProved setting start k in subst P e h) h'.open_state)
at_one setting start (gave_up n) (proved m) e h h' = absurd (closed setting start n h.state (let P : ℕ → Type 0 = λ k. IsProved setting start k in subst P (sym e) h') h.open_state)
at_one setting start (gave_up n) (gave_up m) e h h' = ap gave_up e
at_one setting start (gave_up n) (stopped m) e h h' = absurd (empty (let P : ℕ → Type 0 = λ k. IsExhausted setting start k in subst P e h) h')
  where
    empty : IsExhausted setting start m → IsStopped setting start m → ⊥
    empty g g' = g'.some_left (ap (λ t. t.queue) (sym (same g.state g'.state g.open_state.comes_to g'.open_state.comes_to)) ∙ g.none_left)
at_one setting start (stopped n) (proved m) e h h' = absurd (closed setting start n h.state (let P : ℕ → Type 0 = λ k. IsProved setting start k in subst P (sym e) h') h.open_state)
at_one setting start (stopped n) (gave_up m) e h h' = absurd (empty h (let P : ℕ → Type 0 = λ k. IsExhausted setting start k in subst P (sym e) h'))
  where
    empty : IsStopped setting start n → IsExhausted setting start n → ⊥
    empty g' g = g'.some_left (ap (λ t. t.queue) (sym (same g.state g'.state g.open_state.comes_to g'.open_state.comes_to)) ∙ g.none_left)
at_one setting start (stopped n) (stopped m) e h h' = ap stopped e

pub one_result : (setting : Setting) (start : List Literal) (r r' : Result) → IsResult setting start r → IsResult setting start r' → r ≡ r'
one_result setting start r r' h h' = cases (cases_order (number r) (number r'))
  where
    cases : (number r ≡ number r') ⊎ ((number r < number r') ⊎ (number r' < number r)) → r ≡ r'
    cases (inl e) = at_one setting start r r' e h h'
    cases (inr (inl l)) = absurd (ended setting start r h (until setting start r' h' (number r) l))
    cases (inr (inr l)) = absurd (ended setting start r' h' (until setting start r h (number r') l))
