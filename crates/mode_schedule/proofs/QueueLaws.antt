-- The queue of turns that the entries of an agenda stand for.
use Rattle.std.specs.Prelude.{◌≡◌, ◌≢◌, not, ℕ, true, List, [], ◌∷◌, ◌++◌, map, Some, refl}
use Rattle.std.proofs.Common.{ap, ◌∙◌, sym, subst, cond}
use Rattle.std.proofs.lemmas.Bool.{ne_eqb, eq-eqb}
use Rattle.stt_core.proofs.ListLaws.{map-append}
use Rattle.command_queue.specs.declared.entry.Entry.{Entry}
use Rattle.command_queue.specs.Queue.{Queue, IsBefore, TakesEntry, comes_before}
use Rattle.tableau_calculus.specs.Each.{Each}
use Rattle.search_spec.specs.Queue.{next_command, without_number}
use Rattle.prover_state.proofs.EachLaws.{each-from_All, each-left, each-right}
use Rattle.prover_state.proofs.QueueLaws.{next-is}
use Rattle.mode_schedule.specs.declared.turns.Turn.{Turn}
use Rattle.mode_schedule.specs.Internal.Standing.{waiting_of}

module _ {D : Type 0} where
  -- those of other numbers stay
  others_stay : (number : ℕ) (qs : List (Entry D)) → Each (λ q. q.number ≢ number) qs → without_number number qs ≡ qs
  others_stay number [] h = refl
  others_stay number (q ∷ qs) h =
      ap (λ b. cond (not b) (q ∷ without_number number qs) (without_number number qs)) (ne_eqb q.number number h.0) ∙ ap (λ ps. q ∷ ps) (others_stay number qs h.1)

  without_one : (number : ℕ) (ps qs : List (Entry D)) (e : Entry D) → e.number ≡ number → Each (λ q. q.number ≢ number) ps → Each (λ q. q.number ≢ number) qs → without_number number (ps ++ e ∷ qs) ≡ ps ++ qs
  without_one number [] qs e n h k = ap (λ b. cond (not b) (e ∷ without_number number qs) (without_number number qs)) (eq-eqb e.number number n) ∙ others_stay number qs k
  without_one number (p ∷ ps) qs e n h k =
      ap (λ b. cond (not b) (p ∷ without_number number (ps ++ e ∷ qs)) (without_number number (ps ++ e ∷ qs))) (ne_eqb p.number number h.0)
      ∙ ap (λ rs. p ∷ rs) (without_one number ps qs e n h.1 k)

-- an entry leaves

module _ {R : Type 0} (old new : Queue Turn R) (e : Entry Turn) (t : TakesEntry old new e) where
  earlier : (xs : List (Entry Turn)) → Each (IsBefore e) xs → Each (λ p. comes_before (waiting_of e) p ≡ true) (map waiting_of xs)
  earlier [] h = tt
  earlier (x ∷ xs) h = (h.0, earlier xs h.1)

  least : Each (IsBefore e) (t.before ++ t.behind)
  least = subst (Each (IsBefore e)) t.leaves (each-from_All (IsBefore e) new.entries t.least)

  pub next-taken : next_command (map waiting_of old.entries) ≡ Some (waiting_of e)
  next-taken =
      ap (λ es. next_command (map waiting_of es)) t.stands
      ∙ ap next_command (map-append waiting_of t.before (e ∷ t.behind))
      ∙ next-is (waiting_of e) (map waiting_of t.before) (map waiting_of t.behind)
      (earlier t.before (each-left (IsBefore e) t.before t.behind least)) (earlier t.behind (each-right (IsBefore e) t.before t.behind least))

  others : Each (λ (x : Entry Turn). x.number ≢ e.number) (t.before ++ t.behind)
  others = subst (Each (λ (x : Entry Turn). x.number ≢ e.number)) t.leaves (each-from_All (λ (x : Entry Turn). x.number ≢ e.number) new.entries t.others)

  other_numbers : (xs : List (Entry Turn)) → Each (λ (x : Entry Turn). x.number ≢ e.number) xs → Each (λ q. q.number ≢ e.number) (map waiting_of xs)
  other_numbers [] h = tt
  other_numbers (x ∷ xs) h = (h.0, other_numbers xs h.1)

  pub without-taken : without_number e.number (map waiting_of old.entries) ≡ map waiting_of new.entries
  without-taken =
      ap (λ es. without_number e.number (map waiting_of es)) t.stands
      ∙ ap (without_number e.number) (map-append waiting_of t.before (e ∷ t.behind))
      ∙ without_one e.number (map waiting_of t.before) (map waiting_of t.behind) (waiting_of e) refl
      (other_numbers t.before (each-left (λ (x : Entry Turn). x.number ≢ e.number) t.before t.behind others)) (other_numbers t.behind (each-right (λ (x : Entry Turn). x.number ≢ e.number) t.before t.behind others))
      ∙ sym (map-append waiting_of t.before t.behind)
      ∙ ap (map waiting_of) (sym t.leaves)
