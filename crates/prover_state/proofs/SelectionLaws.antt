-- Predicates that are chosen by, and those that are described.
use Rattle.std.specs.Prelude.{◌≡◌, nat_eq, ℕ, Bool, true, false, List, [], ◌∷◌, ◌++◌, map, if◌then◌else◌}
use Rattle.std.specs.List.{list_any}
use Rattle.std.proofs.Common.{sym, ap, subst, ◌∙◌}
use Rattle.stt_core.specs.Lambda.{Lambda}
use Rattle.stt_core.proofs.ListLaws.{map-append}
use Rattle.command_queue.specs.Queue.{Queue}
use Rattle.tableau_calculus.specs.Each.{Each}
use Rattle.mode_file.specs.declared.Mode.{Mode}
use Rattle.search_spec.specs.Selections.{by_choice, by_description, selections_in, with_selection}
use Rattle.search_spec.specs.State.{State, choose, describe, with_commands}
use Rattle.term_bank.specs.Laws.{EqualIdsForEqualTerms}
use Rattle.term_bank.specs.Terms.{term_at}
use Rattle.witness_names.specs.Rows.{binder_of}
use Rattle.prover_state.specs.declared.command.Planned.{Planned}
use Rattle.prover_state.specs.declared.command.Delays.{Delays}
use Rattle.prover_state.specs.declared.tables.Tables.{Tables}
use Rattle.prover_state.specs.Internal.Names.{IsPlace}
use Rattle.prover_state.specs.Internal.Selecting.{IsTakenSelection, AreTaken}
use Rattle.prover_state.specs.Internal.Standing.{the_state, IsRightState}
use Rattle.prover_state.proofs.TakenLaws.{taken-chosen, taken-described}
use Rattle.prover_state.proofs.EachLaws.{each-last}
use Rattle.prover_state.proofs.PlaceLaws.{any-places}

-- a place that joins a list where it isn't there
abbrev joined : List ℕ → ℕ → Bool → List ℕ
joined ids id b = if b then ids else ids ++ id ∷ []

joined_good : (P : ℕ → Type 0) (ids : List ℕ) (id : ℕ) → Each P ids → P id → (b : Bool) → Each P (joined ids id b)
joined_good P ids id h k true = h
joined_good P ids id h k false = each-last P ids id h k

module _ (t : Tables) (q : Queue Planned Delays) (equal : EqualIdsForEqualTerms t.basis.bank) (r : IsRightState t q) (mode : Mode) (id : ℕ) (place : IsPlace t.basis.bank.terms id) where
  abbrev f : Lambda
  f = term_at t.basis.bank.terms id

  abbrev before : State
  before = the_state t q

  abbrev chosen_now : State
  chosen_now = with_commands mode (choose (binder_of f) f ∷ []) (record before { chosen = before.chosen ++ f ∷ [] })

  abbrev described_now : State
  described_now = with_commands mode (describe (binder_of f) f ∷ []) (record before { described = before.described ++ f ∷ [] })

  choice_by : (b : Bool) → list_any (nat_eq id) t.chosen ≡ b → (if b then before else chosen_now) ≡ with_selection mode (by_choice (binder_of f) f) before
  choice_by b e = sym (ap (λ (x : Bool). if x then before else chosen_now) (any-places t.basis.bank equal id t.chosen place r.chosen ∙ e))

  description_by : (b : Bool) → list_any (nat_eq id) t.described ≡ b → (if b then before else described_now) ≡ with_selection mode (by_description (binder_of f) f) before
  description_by b e = sym (ap (λ (x : Bool). if x then before else described_now) (any-places t.basis.bank equal id t.described place r.described ∙ e))

  module _ (x : List ℕ) (is : x ≡ joined t.chosen id (list_any (nat_eq id) t.chosen)) where
    pub chosen-before : list_any (nat_eq id) t.chosen ≡ true → the_state (record t { chosen = x }) q ≡ with_selection mode (by_choice (binder_of f) f) before
    chosen-before e = ap (λ xs. the_state (record t { chosen = xs }) q) (is ∙ ap (joined t.chosen id) e) ∙ choice_by true e

    pub chosen-now : list_any (nat_eq id) t.chosen ≡ false → with_commands mode (choose (binder_of f) f ∷ []) (the_state (record t { chosen = x }) q) ≡ with_selection mode (by_choice (binder_of f) f) before
    chosen-now e =
        ap (λ xs. with_commands mode (choose (binder_of f) f ∷ []) (the_state (record t { chosen = xs }) q)) (is ∙ ap (joined t.chosen id) e)
        ∙ ap (λ (fs : List Lambda). with_commands mode (choose (binder_of f) f ∷ []) (record before { chosen = fs })) (map-append (term_at t.basis.bank.terms) t.chosen (id ∷ []))
        ∙ choice_by false e

    pub right-chosen : IsRightState (record t { chosen = x }) q
    right-chosen = record {
      basis = r.basis;
      clauses = r.clauses;
      solver = r.solver;
      seen = r.seen;
      noted = r.noted;
      universals = r.universals;
      terms = r.terms;
      described = r.described;
      index = r.index;
      paired = r.paired;
      offered = r.offered;
      takers = r.takers;
      stems = r.stems;
      open_holes = r.open_holes;
      roots = r.roots;
      holes = r.holes;
      budget = r.budget;
      queue = r.queue;
      chosen = subst (Each (IsPlace t.basis.bank.terms)) (sym is) (joined_good (IsPlace t.basis.bank.terms) t.chosen id r.chosen place (list_any (nat_eq id) t.chosen));
      walked = r.walked;
      taken = subst (λ (xs : List ℕ). AreTaken (map (term_at t.basis.bank.terms) xs) before.described t.basis.bank.terms t.walked) (sym is) (more (list_any (nat_eq id) t.chosen));
    }
      where
        more : (b : Bool) → AreTaken (map (term_at t.basis.bank.terms) (joined t.chosen id b)) before.described t.basis.bank.terms t.walked
        more true = r.taken
        more false = subst (λ (fs : List Lambda). AreTaken fs before.described t.basis.bank.terms t.walked) (sym (map-append (term_at t.basis.bank.terms) t.chosen (id ∷ []))) (taken-chosen before.chosen (f ∷ []) before.described t.basis.bank.terms t.walked r.taken)

  module _ (x : List ℕ) (is : x ≡ joined t.described id (list_any (nat_eq id) t.described)) where
    pub described-before : list_any (nat_eq id) t.described ≡ true → the_state (record t { described = x }) q ≡ with_selection mode (by_description (binder_of f) f) before
    described-before e = ap (λ xs. the_state (record t { described = xs }) q) (is ∙ ap (joined t.described id) e) ∙ description_by true e

    pub described-now : list_any (nat_eq id) t.described ≡ false → with_commands mode (describe (binder_of f) f ∷ []) (the_state (record t { described = x }) q) ≡ with_selection mode (by_description (binder_of f) f) before
    described-now e =
        ap (λ xs. with_commands mode (describe (binder_of f) f ∷ []) (the_state (record t { described = xs }) q)) (is ∙ ap (joined t.described id) e)
        ∙ ap (λ (fs : List Lambda). with_commands mode (describe (binder_of f) f ∷ []) (record before { described = fs })) (map-append (term_at t.basis.bank.terms) t.described (id ∷ []))
        ∙ description_by false e

    pub right-described : IsRightState (record t { described = x }) q
    right-described = record {
      basis = r.basis;
      clauses = r.clauses;
      solver = r.solver;
      seen = r.seen;
      noted = r.noted;
      universals = r.universals;
      terms = r.terms;
      chosen = r.chosen;
      index = r.index;
      paired = r.paired;
      offered = r.offered;
      takers = r.takers;
      stems = r.stems;
      open_holes = r.open_holes;
      roots = r.roots;
      holes = r.holes;
      budget = r.budget;
      queue = r.queue;
      described = subst (Each (IsPlace t.basis.bank.terms)) (sym is) (joined_good (IsPlace t.basis.bank.terms) t.described id r.described place (list_any (nat_eq id) t.described));
      walked = r.walked;
      taken = subst (λ (xs : List ℕ). AreTaken before.chosen (map (term_at t.basis.bank.terms) xs) t.basis.bank.terms t.walked) (sym is) (more (list_any (nat_eq id) t.described));
    }
      where
        more : (b : Bool) → AreTaken before.chosen (map (term_at t.basis.bank.terms) (joined t.described id b)) t.basis.bank.terms t.walked
        more true = r.taken
        more false = subst (λ (fs : List Lambda). AreTaken before.chosen fs t.basis.bank.terms t.walked) (sym (map-append (term_at t.basis.bank.terms) t.described (id ∷ []))) (taken-described before.described (f ∷ []) before.chosen t.basis.bank.terms t.walked r.taken)

-- A term is walked, whose choices and descriptions were taken up.
pub right-walked : (t : Tables) (q : Queue Planned Delays) → IsRightState t q → (x : List ℕ) (id : ℕ) → x ≡ (if list_any (nat_eq id) t.walked then t.walked else t.walked ++ id ∷ []) → IsPlace t.basis.bank.terms id
    → Each (IsTakenSelection (the_state t q).chosen (the_state t q).described) (selections_in (term_at t.basis.bank.terms id)) → IsRightState (record t { walked = x }) q
right-walked t q r x id is place all = record {
  basis = r.basis;
  clauses = r.clauses;
  solver = r.solver;
  seen = r.seen;
  noted = r.noted;
  universals = r.universals;
  terms = r.terms;
  chosen = r.chosen;
  described = r.described;
  index = r.index;
  paired = r.paired;
  offered = r.offered;
  takers = r.takers;
  stems = r.stems;
  open_holes = r.open_holes;
  roots = r.roots;
  holes = r.holes;
  budget = r.budget;
  queue = r.queue;
  walked = subst (Each (IsPlace t.basis.bank.terms)) (sym is) (joined_good (IsPlace t.basis.bank.terms) t.walked id r.walked place (list_any (nat_eq id) t.walked));
  taken = subst (Each T) (sym is) (joined_good T t.walked id r.taken all (list_any (nat_eq id) t.walked));
}
  where
    T : ℕ → Type 0
    T i = Each (IsTakenSelection (the_state t q).chosen (the_state t q).described) (selections_in (term_at t.basis.bank.terms i))
