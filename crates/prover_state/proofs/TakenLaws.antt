-- Choices and descriptions that were taken up before stay so.
use Rattle.std.specs.Prelude.{◌≡◌, ◌||◌, ℕ, Bool, true, false, List, [], ◌∷◌, ◌++◌, refl, if◌then◌else◌}
use Rattle.std.specs.List.{list_any}
use Rattle.std.proofs.Common.{sym, subst, subst₂}
use Rattle.stt_core.specs.Lambda.{Lambda}
use Rattle.stt_core.specs.SameTerm.{same_term}
use Rattle.tableau_calculus.specs.Each.{Each}
use Rattle.search_spec.specs.Selections.{Selection, by_choice, by_description, selections_in}
use Rattle.term_bank.specs.Terms.{term_at}
use Rattle.prover_state.specs.Internal.Names.{IsPlace}
use Rattle.prover_state.specs.Internal.Selecting.{IsTakenSelection, AreTaken}
use Rattle.prover_state.proofs.EachLaws.{each-weaker}

pub any_more : (f : Lambda) (fs gs : List Lambda) → list_any (same_term f) fs ≡ true → list_any (same_term f) (fs ++ gs) ≡ true
any_more f [] gs e = cc
any_more f (g ∷ fs) gs e = go (same_term f g) e (any_more f fs gs)
  where
    go : (b : Bool) → (b || list_any (same_term f) fs) ≡ true → (list_any (same_term f) fs ≡ true → list_any (same_term f) (fs ++ gs) ≡ true) → (b || list_any (same_term f) (fs ++ gs)) ≡ true
    go true e rest = refl
    go false e rest = rest e

module _ (cs gs ds : List Lambda) where
  chosen-more : (p : Selection) → IsTakenSelection cs ds p → IsTakenSelection (cs ++ gs) ds p
  chosen-more (by_choice a f) h = any_more f cs gs h
  chosen-more (by_description a f) h = h

  described-more : (p : Selection) → IsTakenSelection ds cs p → IsTakenSelection ds (cs ++ gs) p
  described-more (by_choice a f) h = h
  described-more (by_description a f) h = any_more f cs gs h

  -- where more are chosen by
  pub taken-chosen : (ts : List Lambda) (ids : List ℕ) → AreTaken cs ds ts ids → AreTaken (cs ++ gs) ds ts ids
  taken-chosen ts ids h =
      each-weaker (λ id. Each (IsTakenSelection cs ds) (selections_in (term_at ts id))) (λ id. Each (IsTakenSelection (cs ++ gs) ds) (selections_in (term_at ts id)))
      (λ id k. each-weaker (IsTakenSelection cs ds) (IsTakenSelection (cs ++ gs) ds) chosen-more (selections_in (term_at ts id)) k) ids h

  -- where more are described
  pub taken-described : (ts : List Lambda) (ids : List ℕ) → AreTaken ds cs ts ids → AreTaken ds (cs ++ gs) ts ids
  taken-described ts ids h =
      each-weaker (λ id. Each (IsTakenSelection ds cs) (selections_in (term_at ts id))) (λ id. Each (IsTakenSelection ds (cs ++ gs)) (selections_in (term_at ts id)))
      (λ id k. each-weaker (IsTakenSelection ds cs) (IsTakenSelection ds (cs ++ gs)) described-more (selections_in (term_at ts id)) k) ids h

-- where the terms stay at their places
pub taken-on : (cs cs' ds ds' ts ts' : List Lambda) (ids : List ℕ) → cs' ≡ cs → ds' ≡ ds → ((id : ℕ) → IsPlace ts id → term_at ts' id ≡ term_at ts id) → Each (IsPlace ts) ids → AreTaken cs ds ts ids → AreTaken cs' ds' ts' ids
taken-on cs cs' ds ds' ts ts' [] e f g h k = tt
taken-on cs cs' ds ds' ts ts' (id ∷ ids) e f g h k = (
  subst (λ t. Each (IsTakenSelection cs' ds') (selections_in t)) (sym (g id h.0)) (subst₂ (λ x y. Each (IsTakenSelection x y) (selections_in (term_at ts id))) (sym e) (sym f) k.0),
  taken-on cs cs' ds ds' ts ts' ids e f g h.1 k.1,
)
