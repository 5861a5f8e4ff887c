-- Choices and descriptions in shared terms.
use Rattle.std.specs.Prelude.{◌≡◌, ◌||◌, nat_eq, ℕ, Bool, true, false, List, [], ◌∷◌, ◌++◌, map, slice_get, Some, refl, if◌then◌else◌}
use Rattle.std.specs.List.{list_any, flat_map}
use Rattle.std.proofs.Common.{sym, ap, subst, ◌∙◌, append_assoc, append-nil}
use Rattle.std.proofs.lemmas.Bool.{eqb-true}
use Rattle.stt_core.specs.SimpleType.{SimpleType, predicate}
use Rattle.stt_core.specs.Lambda.{name, witness, falsity, negation, implication, all, equality, choice, description, Lambda, bound, constant, lam, app, applied}
use Rattle.stt_core.specs.SameTerm.{same_term}
use Rattle.stt_core.specs.Typing.{Scope}
use Rattle.stt_core.specs.Canonical.{IsCanonical}
use Rattle.stt_core.proofs.ListLaws.{drop_got}
use Rattle.stt_core.proofs.SpineLaws.{IsAtom}
use Rattle.stt_core.proofs.SameTerms.{same_term-of}
use Rattle.tableau_calculus.specs.Each.{Each}
use Rattle.mode_file.specs.declared.Mode.{Mode}
use Rattle.search_spec.specs.Selections.{Selection, by_choice, by_description, selection_by, selections_in, with_selection, with_selections}
use Rattle.search_spec.specs.Spine.{head_of, arguments}
use Rattle.search_spec.specs.State.{State, choose, describe, with_commands}
use Rattle.search_spec.proofs.TypedSelections.{IsPredicate, selections_in-typed}
use Rattle.stt_core.specs.View.{the_head}
use Rattle.stt_core.specs.Occurrence.{IsClosed}
use Rattle.stt_core.specs.declared.nf.Head.{Head}
use Rattle.search_spec.specs.Closed.{is_closed}
use Rattle.search_spec.proofs.ClosedLaws.{closed_is}
use Rattle.stt_core.proofs.HeadLaws.{atom_head}
use Rattle.term_bank.specs.NodeView.{the_shape}
use Rattle.term_bank.specs.Terms.{term_at, shape_term, IsTypedTerm}
use Rattle.term_bank.specs.declared.node.Node.{Node}
use Rattle.term_bank.specs.declared.node.Node.TheVariants.{Lam, App}
use Rattle.witness_names.specs.Rows.{binder_of}
use Rattle.prover_state.specs.Internal.Selecting.{term_parts, selection_at, head_selection, IsTakenSelection}
use Rattle.prover_state.proofs.EachLaws.{each-left}
use Rattle.prover_state.proofs.TakenLaws.{any_more}

-- THE PARTS OF A TERM

head_applied : (s : Lambda) (us : List Lambda) → head_of (applied s us) ≡ head_of s
head_applied s [] = refl
head_applied s (u ∷ us) = head_applied (app s u) us

arguments_applied : (s : Lambda) (us : List Lambda) → arguments (applied s us) ≡ arguments s ++ us
arguments_applied s [] = sym (append-nil (arguments s))
arguments_applied s (u ∷ us) = arguments_applied (app s u) us ∙ append_assoc (arguments s) (u ∷ []) us

head_leaf : (h : Lambda) → IsAtom h → head_of h ≡ h
head_leaf (bound k) a = refl
head_leaf (constant c) a = refl
head_leaf (lam b s) a = absurd a
head_leaf (app s u) a = absurd a

arguments_leaf : (h : Lambda) → IsAtom h → arguments h ≡ []
arguments_leaf (bound k) a = refl
arguments_leaf (constant c) a = refl
arguments_leaf (lam b s) a = absurd a
arguments_leaf (app s u) a = absurd a

parts_leaf : (h : Lambda) → IsAtom h → term_parts h ≡ []
parts_leaf (bound k) a = refl
parts_leaf (constant c) a = refl
parts_leaf (lam b s) a = absurd a
parts_leaf (app s u) a = absurd a

parts_more : (s u : Lambda) (us : List Lambda) → term_parts (applied (app s u) us) ≡ arguments (applied (app s u) us)
parts_more s u [] = refl
parts_more s u (v ∷ us) = parts_more (app s u) v us

pub parts-applied : (h : Lambda) → IsAtom h → (us : List Lambda) → term_parts (applied h us) ≡ us
parts-applied h a [] = parts_leaf h a
parts-applied h a (u ∷ us) = parts_more h u us ∙ arguments_applied (app h u) us ∙ ap (λ (xs : List Lambda). xs ++ u ∷ [] ++ us) (arguments_leaf h a)

pub head_selection-applied : (h : Lambda) → IsAtom h → (us : List Lambda) → head_selection (applied h us) ≡ selection_at h us
head_selection-applied h a us =
    ap (λ g. selection_at g (arguments (applied h us))) (head_applied h us ∙ head_leaf h a)
    ∙ ap (selection_at h) (arguments_applied h us ∙ ap (λ (xs : List Lambda). xs ++ us) (arguments_leaf h a))

abbrev pub all_in : List Lambda → List Selection
all_in us = flat_map selections_in us

more_applied : (s u : Lambda) (us : List Lambda) → selections_in (applied (app s u) us) ≡ selections_in (app s u) ++ all_in us
more_applied s u [] = sym (append-nil (selections_in (app s u)))
more_applied s u (v ∷ us) = more_applied (app s u) v us ∙ append_assoc (selections_in (app s u)) (selections_in v) (all_in us)

selections_leaf : (h : Lambda) → IsAtom h → selections_in h ≡ []
selections_leaf (bound k) a = refl
selections_leaf (constant c) a = refl
selections_leaf (lam b s) a = absurd a
selections_leaf (app s u) a = absurd a

selections_applied : (h : Lambda) → IsAtom h → (us : List Lambda) → selections_in (applied h us) ≡ selection_at h us ++ all_in us
selections_applied h a [] = selections_leaf h a
selections_applied h a (u ∷ us) =
    more_applied h u us
    ∙ ap (λ (ps : List Selection). ps ++ selections_in u ++ all_in us) (ap (λ (ps : List Selection). selection_by h u ++ ps) (selections_leaf h a) ∙ append-nil (selection_by h u))
    ∙ append_assoc (selection_by h u) (selections_in u) (all_in us)

-- the node of a head with its arguments
module _ (terms : List Lambda) (h : Head) (is : List ℕ) (t : Lambda) (e : t ≡ applied (the_head h) (map (term_at terms) is)) where
  pub parts-app : term_parts t ≡ map (term_at terms) is
  parts-app = ap term_parts e ∙ parts-applied (the_head h) (atom_head h) (map (term_at terms) is)

  pub head-app : (f : ℕ) → slice_get is 0 ≡ Some f → head_selection t ≡ selection_by (the_head h) (term_at terms f)
  head-app f at =
      ap head_selection e
      ∙ head_selection-applied (the_head h) (atom_head h) (map (term_at terms) is)
      ∙ ap (λ js. selection_at (the_head h) (map (term_at terms) js)) (drop_got is 0 f at)

open_none : (h f : Lambda) → is_closed f ≡ false → selection_by h f ≡ []
open_none (constant (choice a)) f e = ap (λ (b : Bool). if b then by_choice a f ∷ [] else []) e
open_none (constant (description a)) f e = ap (λ (b : Bool). if b then by_description a f ∷ [] else []) e
open_none (constant (name k)) f e = refl
open_none (constant (witness k)) f e = refl
open_none (constant falsity) f e = refl
open_none (constant negation) f e = refl
open_none (constant implication) f e = refl
open_none (constant (all a)) f e = refl
open_none (constant (equality a)) f e = refl
open_none (bound k) f e = refl
open_none (lam a s) f e = refl
open_none (app s u) f e = refl

pub open-none : (h f : Lambda) → (IsClosed f → ⊥) → selection_by h f ≡ []
open-none h f never = by_test (is_closed f) refl
  where
    by_test : (b : Bool) → is_closed f ≡ b → selection_by h f ≡ []
    by_test true e = absurd (never (closed_is f e))
    by_test false e = open_none h f e

-- A term's choices and descriptions are the one at its head, and then those of its parts.
pub selections-node : (terms : List Lambda) (n : Node) → selections_in (shape_term terms (the_shape n)) ≡ head_selection (shape_term terms (the_shape n)) ++ all_in (term_parts (shape_term terms (the_shape n)))
selections-node terms (App h is) =
    let us = map (term_at terms) is in
    selections_applied (the_head h) (atom_head h) us
    ∙ ap (λ (ps : List Selection). ps ++ all_in us) (sym (head_selection-applied (the_head h) (atom_head h) us))
    ∙ ap (λ (vs : List Lambda). head_selection (applied (the_head h) us) ++ all_in vs) (sym (parts-applied (the_head h) (atom_head h) us))
selections-node terms (Lam a i) = sym (append-nil (selections_in (term_at terms i)))

pub selections-split : (terms : List Lambda) (n : Node) (t : Lambda) → t ≡ shape_term terms (the_shape n) → selections_in t ≡ head_selection t ++ all_in (term_parts t)
selections-split terms n t is = let P : Lambda → Type 0 = λ u. selections_in u ≡ head_selection u ++ all_in (term_parts u) in subst P (sym is) (selections-node terms n)

-- the predicate at the head is typed
pub head-typed : (scope : Scope) (terms : List Lambda) (n : Node) (t : Lambda) → t ≡ shape_term terms (the_shape n) → IsTypedTerm scope t → Each (IsPredicate scope) (head_selection t)
head-typed scope terms n t is typed =
    let E : List Selection → Type 0 = λ ps. Each (IsPredicate scope) ps in
    let all : Each (IsPredicate scope) (selections_in t) = selections_in-typed scope typed.ctx typed.type t typed.canonical in
    each-left (IsPredicate scope) (head_selection t) (all_in (term_parts t)) (subst E (selections-split terms n t is) all)

pub binder-is : (scope : Scope) (a : SimpleType) (f : Lambda) → IsCanonical scope [] (predicate a) f → a ≡ binder_of f
binder-is scope a (bound k) h = absurd h.0
binder-is scope a (constant c) h = absurd h.0
binder-is scope a (app s u) h = absurd h.0
binder-is scope a (lam c s) h = h.1.0

-- WHAT WAS TAKEN UP

any_last : (f : Lambda) (fs : List Lambda) → list_any (same_term f) (fs ++ f ∷ []) ≡ true
any_last f [] = ap (λ (b : Bool). b || false) (same_term-of f f refl)
any_last f (g ∷ fs) = go (same_term f g) (any_last f fs)
  where
    go : (b : Bool) → list_any (same_term f) (fs ++ f ∷ []) ≡ true → (b || list_any (same_term f) (fs ++ f ∷ [])) ≡ true
    go true e = refl
    go false e = e

module _ (mode : Mode) where
  taken_by : (p : Selection) (s : State) → IsTakenSelection (with_selection mode p s).chosen (with_selection mode p s).described p
  taken_by (by_choice a f) s = go (list_any (same_term f) s.chosen) refl
    where
      go : (b : Bool) → list_any (same_term f) s.chosen ≡ b → list_any (same_term f) (if b then s else with_commands mode (choose a f ∷ []) (record s { chosen = s.chosen ++ f ∷ [] })).chosen ≡ true
      go true e = e
      go false e = any_last f s.chosen
  taken_by (by_description a f) s = go (list_any (same_term f) s.described) refl
    where
      go : (b : Bool) → list_any (same_term f) s.described ≡ b → list_any (same_term f) (if b then s else with_commands mode (describe a f ∷ []) (record s { described = s.described ++ f ∷ [] })).described ≡ true
      go true e = e
      go false e = any_last f s.described

  taken_stays : (p q : Selection) (s : State) → IsTakenSelection s.chosen s.described p → IsTakenSelection (with_selection mode q s).chosen (with_selection mode q s).described p
  taken_stays (by_choice a f) (by_choice b g) s h = go (list_any (same_term g) s.chosen)
    where
      go : (x : Bool) → list_any (same_term f) (if x then s else with_commands mode (choose b g ∷ []) (record s { chosen = s.chosen ++ g ∷ [] })).chosen ≡ true
      go true = h
      go false = any_more f s.chosen (g ∷ []) h
  taken_stays (by_choice a f) (by_description b g) s h = go (list_any (same_term g) s.described)
    where
      go : (x : Bool) → list_any (same_term f) (if x then s else with_commands mode (describe b g ∷ []) (record s { described = s.described ++ g ∷ [] })).chosen ≡ true
      go true = h
      go false = h
  taken_stays (by_description a f) (by_choice b g) s h = go (list_any (same_term g) s.chosen)
    where
      go : (x : Bool) → list_any (same_term f) (if x then s else with_commands mode (choose b g ∷ []) (record s { chosen = s.chosen ++ g ∷ [] })).described ≡ true
      go true = h
      go false = h
  taken_stays (by_description a f) (by_description b g) s h = go (list_any (same_term g) s.described)
    where
      go : (x : Bool) → list_any (same_term f) (if x then s else with_commands mode (describe b g ∷ []) (record s { described = s.described ++ g ∷ [] })).described ≡ true
      go true = h
      go false = any_more f s.described (g ∷ []) h

  taken_kept : (qs : List Selection) (p : Selection) (s : State) → IsTakenSelection s.chosen s.described p → IsTakenSelection (with_selections mode qs s).chosen (with_selections mode qs s).described p
  taken_kept [] p s h = h
  taken_kept (q ∷ qs) p s h = taken_kept qs p (with_selection mode q s) (taken_stays p q s h)

  -- after all were taken up, each of them was
  pub all-taken : (ps : List Selection) (s : State) → Each (IsTakenSelection (with_selections mode ps s).chosen (with_selections mode ps s).described) ps
  all-taken [] s = tt
  all-taken (p ∷ ps) s = (taken_kept ps p (with_selection mode p s) (taken_by p s), all-taken ps (with_selection mode p s))

  nothing_new : (p : Selection) (s : State) → IsTakenSelection s.chosen s.described p → with_selection mode p s ≡ s
  nothing_new (by_choice a f) s h = ap (λ (b : Bool). if b then s else with_commands mode (choose a f ∷ []) (record s { chosen = s.chosen ++ f ∷ [] })) h
  nothing_new (by_description a f) s h = ap (λ (b : Bool). if b then s else with_commands mode (describe a f ∷ []) (record s { described = s.described ++ f ∷ [] })) h

  -- what was taken up before leaves the state as it is
  pub taken-leaves : (ps : List Selection) (s : State) → Each (IsTakenSelection s.chosen s.described) ps → with_selections mode ps s ≡ s
  taken-leaves [] s h = refl
  taken-leaves (p ∷ ps) s h = ap (with_selections mode ps) (nothing_new p s h.0) ∙ taken-leaves ps s h.1

  pub selections-append : (ps qs : List Selection) (s : State) → with_selections mode (ps ++ qs) s ≡ with_selections mode qs (with_selections mode ps s)
  selections-append [] qs s = refl
  selections-append (p ∷ ps) qs s = selections-append ps qs (with_selection mode p s)

pub any-member : (P : ℕ → Type 0) (id : ℕ) (ids : List ℕ) → list_any (nat_eq id) ids ≡ true → Each P ids → P id
any-member P id [] e h = cc
any-member P id (i ∷ ids) e h = go (nat_eq id i) refl e (λ k. any-member P id ids k h.1)
  where
    go : (b : Bool) → nat_eq id i ≡ b → (b || list_any (nat_eq id) ids) ≡ true → (list_any (nat_eq id) ids ≡ true → P id) → P id
    go true k e rest = subst P (sym (eqb-true id i k)) h.0
    go false k e rest = rest e
