-- No clause of a run's state stands twice.
use Rattle.std.proofs.Common.{◌≡◌, ◌&&◌, ℕ, zero, suc, Bool, true, false, List, [], ◌∷◌, ◌++◌, map, filter, cond, Option, Some, None, Contains, refl, sym, ap, subst, ◌∙◌, if◌then◌else◌, arith}
use Rattle.std.specs.List.{list_any, list_all, flat_map}
use Rattle.std.proofs.lemmas.Bool.{false≢true, or_left, or_right}
use Rattle.stt_core.specs.SimpleType.{SimpleType, base, arrow, formula}
use Rattle.stt_core.specs.Lambda.{all, equality, Lambda, constant, app, eq, every}
use Rattle.stt_core.specs.PlainProblem.{PlainProblem}
use Rattle.stt_core.specs.Typing.{type_of}
use Rattle.stt_core.specs.SameTerm.{same_term}
use Rattle.tableau_calculus.specs.Literals.{Literal, plus, minus}
use Rattle.tableau_calculus.specs.Kinds.{has, added, formulas, same_signed}
use Rattle.stt_core.specs.Declarations.{scope_of}
use Rattle.tableau_calculus.specs.Start.{normal_literal, denied, start}
use Rattle.tableau_calculus.specs.Witnesses.{Row}
use Rattle.tableau_calculus.specs.Rules.{Alternatives, bool_pos, bool_neg, fun_pos, fun_neg, all_pos, all_neg, differ, con, cho, des}
use Rattle.tableau_calculus.proofs.AddedLaws.{same_literal-refl as signed-refl}
use Rattle.tableau_calculus.proofs.ListLaws.{contains-first, contains-later, contains_cases, contains-get}
use Rattle.command_queue.specs.declared.entry.Entry.{Entry}
use Rattle.search_spec.specs.Clauses.{same_clause, instance_clauses, with_clauses}
use Rattle.search_spec.specs.Partial.{whole_term}
use Rattle.search_spec.specs.Shallow.{is_shallow, is_shallow_literal}
use Rattle.search_spec.specs.Queue.{next_command}
use Rattle.search_spec.specs.State.{State, Setting, Sketch, Command, process, mate, confront, inst, choose, describe, grow, with_commands, scope_in}
use Rattle.search_spec.specs.Spine.{head_of, arguments, is_spine, same_head}
use Rattle.search_spec.specs.Instances.{with_literal, with_literals, with_instance}
use Rattle.search_spec.specs.Terms.{terms_of, universals, with_term, with_terms, first_terms}
use Rattle.search_spec.specs.Offers.{is_prepared, early_terms, offered_witness, offered_sides}
use Rattle.search_spec.specs.Preparing.{with_beginning, with_preparation}
use Rattle.search_spec.specs.Partners.{matings}
use Rattle.search_spec.specs.Selections.{Selection, by_choice, by_description, selections_in, with_selection, with_selections}
use Rattle.search_spec.specs.Witness.{same_row, witness_of, with_new_witness, with_witness, with_denied}
use Rattle.search_spec.specs.Processing.{with_decomposition, with_equation, with_matings, LiteralRule, connective_rule, with_connective, with_rules, with_processing}
use Rattle.search_spec.specs.Commands.{with_confrontation, with_instantiation, with_growth, growth_by, with_command}
use Rattle.search_spec.specs.After.{starting_state, with_taken, after_command, next_state, state_after}
use Rattle.search_spec.specs.Unsatisfiable.{Clause}
use Rattle.search_spec.proofs.NamingLaws.{pick_good}
use Rattle.rebuild_spec.specs.Alike.{StandOnce}

-- LISTS WITHOUT REPEATS

abbrev pub AreOnce : {A : Type 0} → List A → Type 0
AreOnce [] = Unit {0}
AreOnce (x ∷ xs) = (Contains xs x → ⊥) × AreOnce xs

none_in : {A : Type 0} (x : A) → Contains [] x → ⊥
none_in x h = omega (arith, h.1)

in_front : {A : Type 0} (P : Type 0) (xs : List A) (x y : A) → Contains (xs ++ y ∷ []) x → (Contains xs x → P) → (y ≡ x → P) → P
in_front P [] x y h front last = contains_cases P x y [] h last (λ none. absurd (none_in x none))
in_front P (z ∷ xs) x y h front last =
    contains_cases P x z (xs ++ y ∷ []) h (λ e. front (subst (Contains (z ∷ xs)) e (contains-first z xs)))
    (λ later. in_front P xs x y later (λ c. front (contains-later x z xs c)) last)

once_last : {A : Type 0} (xs : List A) (x : A) → AreOnce xs → (Contains xs x → ⊥) → AreOnce (xs ++ x ∷ [])
once_last [] x h new = (none_in x, tt)
once_last (y ∷ xs) x h new = (
  λ c. in_front ⊥ xs y x c h.0 (λ e. new (subst (Contains (y ∷ xs)) (sym e) (contains-first y xs))),
  once_last xs x h.1 (λ c. new (contains-later x y xs c)),
)

passes : {A : Type 0} (test : A → Bool) (xs : List A) (x : A) → Contains xs x → test x ≡ true → list_any test xs ≡ true
passes test [] x h e = absurd (none_in x h)
passes test (y ∷ xs) x h e =
    contains_cases (list_any test (y ∷ xs) ≡ true) x y xs h (λ same. or_left (test y) _ (subst (λ z. test z ≡ true) (sym same) e)) (λ later. or_right (test y) _ (passes test xs x later e))

-- a list with an element that isn't there yet by a test that it passes itself
with_new : {A : Type 0} (test : A → A → Bool) → ((x : A) → test x x ≡ true) → (xs : List A) (x : A) → AreOnce xs → AreOnce (if list_any (test x) xs then xs else xs ++ x ∷ [])
with_new test itself xs x h = go (list_any (test x) xs) refl
  where
    go : (b : Bool) → list_any (test x) xs ≡ b → AreOnce (if b then xs else xs ++ x ∷ [])
    go true e = h
    go false e = once_last xs x h (λ c. false≢true (sym e ∙ passes (test x) xs x c (itself x)))

filtered_in : {A : Type 0} (test : A → Bool) (xs : List A) (x : A) → Contains (filter test xs) x → Contains xs x
filtered_in test [] x h = h
filtered_in test (y ∷ xs) x h = go (test y) (λ c. contains-later x y xs (filtered_in test xs x c)) h
  where
    go : (b : Bool) → (Contains (filter test xs) x → Contains (y ∷ xs) x) → Contains (cond b (y ∷ filter test xs) (filter test xs)) x → Contains (y ∷ xs) x
    go true later c = contains_cases (Contains (y ∷ xs) x) x y (filter test xs) c (λ e. subst (Contains (y ∷ xs)) e (contains-first y xs)) later
    go false later c = later c

once_filtered : {A : Type 0} (test : A → Bool) (xs : List A) → AreOnce xs → AreOnce (filter test xs)
once_filtered test [] h = tt
once_filtered test (x ∷ xs) h = go (test x) (once_filtered test xs h.1)
  where
    go : (b : Bool) → AreOnce (filter test xs) → AreOnce (cond b (x ∷ filter test xs) (filter test xs))
    go true rest = ((λ c. h.0 (filtered_in test xs x c)), rest)
    go false rest = rest

unit_in : (ls : List Literal) (l : Literal) → Contains (map (λ (k : Literal). k ∷ []) ls) (l ∷ []) → Contains ls l
unit_in [] l h = absurd (none_in (l ∷ []) h)
unit_in (k ∷ ls) l h =
    contains_cases (Contains (k ∷ ls) l) (l ∷ []) (k ∷ []) (map (λ (m : Literal). m ∷ []) ls) h (λ e. let same : k ≡ l = cc in subst (Contains (k ∷ ls)) same (contains-first k ls))
    (λ later. contains-later l k ls (unit_in ls l later))

once_units : (ls : List Literal) → AreOnce ls → AreOnce (map (λ (k : Literal). k ∷ []) ls)
once_units [] h = tt
once_units (l ∷ ls) h = ((λ c. h.0 (unit_in ls l c)), once_units ls h.1)

stand_once : (clauses : List (List Literal)) → AreOnce clauses → StandOnce clauses
stand_once [] h j k c a b = cc
stand_once (d ∷ ds) h zero zero c a b = refl
stand_once (d ∷ ds) h zero (suc k) c a b = let same : d ≡ c = cc in absurd (h.0 (subst (Contains ds) (sym same) (contains-get ds k c b)))
stand_once (d ∷ ds) h (suc j) zero c a b = let same : d ≡ c = cc in absurd (h.0 (subst (Contains ds) (sym same) (contains-get ds j c a)))
stand_once (d ∷ ds) h (suc j) (suc k) c a b = ap suc (stand_once ds h.1 j k c a b)

-- CLAUSES

added_once : (ls ks : List Literal) → AreOnce ls → AreOnce (added formulas ls ks)
added_once ls [] h = h
added_once ls (k ∷ ks) h = added_once (if has formulas ls k then ls else ls ++ k ∷ []) ks (with_new same_signed signed-refl ls k h)

same_itself : (c : Clause) → same_clause formulas c c ≡ true
same_itself [] = refl
same_itself (l ∷ c) = ap (λ b. if b then same_clause formulas c c else false) (signed-refl l) ∙ same_itself c

more_once : (clauses more : List Clause) → AreOnce clauses → AreOnce (with_clauses formulas clauses more)
more_once clauses [] h = h
more_once clauses (c ∷ cs) h = more_once (if list_any (same_clause formulas c) clauses then clauses else clauses ++ c ∷ []) cs (with_new (same_clause formulas) same_itself clauses c h)

-- STATES

module _ (setting : Setting) where
  abbrev Is : State → Type 0
  Is s = AreOnce s.clauses

  literal_once : (l : Literal) (s : State) → Is s → Is (with_literal setting.mode l s)
  literal_once l s g = pick_good Is (has formulas s.seen l) s (with_commands setting.mode (process l ∷ []) (record s { seen = s.seen ++ l ∷ [] })) g g

  literals_once : (ls : List Literal) (s : State) → Is s → Is (with_literals setting.mode ls s)
  literals_once [] s g = g
  literals_once (l ∷ ls) s g = literals_once ls (with_literal setting.mode l s) (literal_once l s g)

  instance_once : (ps : List Literal) (as' : Alternatives) (s : State) → Is s → Is (with_instance setting.mode ps as' s)
  instance_once ps as' s g =
      let new : State = record s { clauses = with_clauses formulas s.clauses (instance_clauses formulas ps as') } in
      pick_good Is (list_all (list_all is_shallow_literal) as') (with_literals setting.mode (flat_map (λ (a : List Literal). a) as') new) s
      (literals_once (flat_map (λ (a : List Literal). a) as') new (more_once s.clauses (instance_clauses formulas ps as') g)) g

  term_once : (a : SimpleType) (u : Lambda) (s : State) → Is s → Is (with_term setting.mode a u s)
  term_once a u s g =
      pick_good Is (list_any (same_term u) (terms_of a s)) s (with_commands setting.mode (map (λ l. inst l u) (universals a s)) (record s { terms = s.terms ++ record { type = a; term = u } ∷ [] })) g g

  terms_once : (a : SimpleType) (us : List Lambda) (s : State) → Is s → Is (with_terms setting.mode a us s)
  terms_once a [] s g = g
  terms_once a (u ∷ us) s g = terms_once a us (with_term setting.mode a u s) (term_once a u s g)

  begun_once : (a : SimpleType) (s : State) → Is s → Is (with_beginning setting a s)
  begun_once (base n) s g = terms_once (base n) (first_terms (base n)) s g
  begun_once (arrow a b) s g = g

  prepared_once : (a : SimpleType) (s : State) → Is s → Is (with_preparation setting a s)
  prepared_once a s g =
      let us = early_terms setting.mode a s in
      let more = with_terms setting.mode a us s in
      pick_good Is (is_prepared setting.mode a s) s (with_beginning setting a more) g (begun_once a more (terms_once a us s g))

  grown_once : (q : Sketch) (o : Option Lambda) (s : State) → Is s → Is (with_growth setting q o s)
  grown_once q (Some u) s g = term_once q.type u s g
  grown_once q None s g = g

  selection_once : (p : Selection) (s : State) → Is s → Is (with_selection setting.mode p s)
  selection_once (by_choice a f) s g = pick_good Is (list_any (same_term f) s.chosen) s (with_commands setting.mode (choose a f ∷ []) (record s { chosen = s.chosen ++ f ∷ [] })) g g
  selection_once (by_description a f) s g = pick_good Is (list_any (same_term f) s.described) s (with_commands setting.mode (describe a f ∷ []) (record s { described = s.described ++ f ∷ [] })) g g

  selections_once : (ps : List Selection) (s : State) → Is s → Is (with_selections setting.mode ps s)
  selections_once [] s g = g
  selections_once (p ∷ ps) s g = selections_once ps (with_selection setting.mode p s) (selection_once p s g)

  decomposed_once : (a : SimpleType) (s t : Lambda) (st : State) → Is st → Is (with_decomposition setting a s t st)
  decomposed_once a s t st g =
      let as' = differ (type_of (scope_in setting st) [] (head_of s)) (arguments s) (arguments t) in
      pick_good Is (is_spine s && same_head s t) (with_instance setting.mode (minus (eq a s t) ∷ []) as' st) st (instance_once (minus (eq a s t) ∷ []) as' st g) g

  equated_once : (a : SimpleType) (sign : Bool) (s t : Lambda) (st : State) → Is st → Is (with_equation setting a sign s t st)
  equated_once (base zero) true s t st g = instance_once (plus (eq formula s t) ∷ []) (bool_pos s t) st g
  equated_once (base zero) false s t st g = instance_once (minus (eq formula s t) ∷ []) (bool_neg s t) st g
  equated_once (arrow a b) true s t st g = instance_once (plus (eq (arrow a b) s t) ∷ []) (fun_pos a b s t) st g
  equated_once (arrow a b) false s t st g =
      let us = offered_sides setting.mode s t in
      instance_once (minus (eq (arrow a b) s t) ∷ []) (fun_neg a b s t) (with_terms setting.mode (arrow a b) us st) (terms_once (arrow a b) us st g)
  equated_once (base (suc n)) true s t st g = g
  equated_once (base (suc n)) false s t st g =
      let b = base (suc n) in
      let first = with_term setting.mode b s st in
      let second = with_term setting.mode b t first in
      decomposed_once b s t second (term_once b t first (term_once b s st g))

  mated_once : (l : Literal) (st : State) → Is st → Is (with_matings setting l st)
  mated_once l st g = pick_good Is (is_spine l.atom) (with_commands setting.mode (matings l st.noted) st) st g g

  witnessed_once : (a : SimpleType) (f : Lambda) (s : State) → Is s → Is (with_witness setting a f s)
  witnessed_once a f s g =
      let r : Row = record { type = a; predicate = f } in
      let ps = minus (every a f) ∷ [] in
      let as' = all_neg a f (witness_of s.rows r) in
      let more : State = record s { rows = s.rows ++ r ∷ [] } in
      pick_good Is (list_any (same_row r) s.rows) (with_instance setting.mode ps as' s) (with_new_witness setting a (witness_of s.rows r) (with_instance setting.mode ps as' more)) (instance_once ps as' s g) (instance_once ps as' more g)

  denied_once : (a : SimpleType) (f : Lambda) (s : State) → Is s → Is (with_denied setting a f s)
  denied_once a f s g =
      let r : Row = record { type = a; predicate = f } in
      let done = with_witness setting a f s in
      let us = offered_witness setting.mode a (witness_of s.rows r) done in
      let k = witnessed_once a f s g in
      pick_good Is (list_any (same_row r) s.rows) done (with_terms setting.mode a us done) k (terms_once a us done k)

  connected_once : (l : Literal) (o : Option (LiteralRule l)) (s : State) → Is s → Is (with_connective l setting o s)
  connected_once l (Some rule) s g = instance_once (l ∷ []) rule.alternatives s g
  connected_once l None s g = mated_once l s g

  worked_once : (sign : Bool) (t : Lambda) (s : State) → Is s → Is (with_rules setting sign t s)
  worked_once true (app (app (constant (equality a)) u) v) s g = equated_once a true u v s g
  worked_once false (app (app (constant (equality a)) u) v) s g =
      pick_good Is (same_term u v) (with_instance setting.mode (minus (eq a u v) ∷ []) [] s) (with_equation setting a false u v s) (instance_once (minus (eq a u v) ∷ []) [] s g) (equated_once a false u v s g)
  worked_once true (app (constant (all a)) f) s g = prepared_once a s g
  worked_once false (app (constant (all a)) f) s g = denied_once a f s g
  worked_once sign t s g = connected_once (record { positive = sign; atom = t }) (connective_rule t sign) s g

  processed_once : (l : Literal) (s : State) → Is s → Is (with_processing setting l s)
  processed_once l s g =
      let done = with_rules setting l.positive l.atom s in
      selections_once (selections_in l.atom) (record done { noted = done.noted ++ l ∷ [] }) (worked_once l.positive l.atom s g)

  confront_once : (l m : Literal) (x y : Lambda) (s : State) → Is s → Is (with_confrontation setting l m x y s)
  confront_once l m (app (app (constant (equality a)) u) v) (app (app c w) z) s g = instance_once (l ∷ m ∷ []) (con a u v w z) s g
  confront_once l m x y s g = g

  inst_once : (l : Literal) (t u : Lambda) (s : State) → Is s → Is (with_instantiation setting l t u s)
  inst_once l (app (constant (all a)) f) u s g = pick_good Is (is_shallow u) (with_instance setting.mode (l ∷ []) (all_pos f u) s) s (instance_once (l ∷ []) (all_pos f u) s g) g
  inst_once l t u s g = g

  carried_once : (c : Command) (s : State) → Is s → Is (with_command setting c s)
  carried_once (process l) s g = processed_once l s g
  carried_once (mate l m) s g = instance_once (l ∷ m ∷ []) (differ (type_of (scope_in setting s) [] (head_of l.atom)) (arguments l.atom) (arguments m.atom)) s g
  carried_once (confront l m) s g = confront_once l m l.atom m.atom s g
  carried_once (inst l u) s g = inst_once l l.atom u s g
  carried_once (choose a f) s g = instance_once [] (cho a f) s g
  carried_once (describe a f) s g = instance_once [] (des a f) s g
  carried_once (grow p h) s g =
      let q = growth_by (scope_in setting s) h p in
      grown_once q (whole_term q.partial) s g

  after_once : (o : Option (Entry Command)) (s r : State) → Is s → after_command setting o s ≡ Some r → Is r
  after_once None s r g e = cc
  after_once (Some q) s r g e = let same : with_command setting q.command (with_taken setting q s) ≡ r = cc in subst Is same (carried_once q.command (with_taken setting q s) g)

  next_once : (o : Option State) (r : State) → ((s : State) → o ≡ Some s → Is s) → next_state setting o ≡ Some r → Is r
  next_once None r h e = cc
  next_once (Some s) r h e = after_once (next_command s.queue) s r (h s refl) e

  run_once : (ls : List Literal) → AreOnce ls → (n : ℕ) (s : State) → state_after setting ls n ≡ Some s → Is s
  run_once ls h zero s e = let same : starting_state setting ls ≡ s = cc in subst Is same (once_units (filter is_shallow_literal ls) (once_filtered is_shallow_literal ls h))
  run_once ls h (suc n) s e = next_once (state_after setting ls n) s (λ r k. run_once ls h n r k) e

-- no clause of a state of a problem's run stands twice
pub state_stands_once : (setting : Setting) (p : PlainProblem) (n : ℕ) (s : State) → state_after setting (start p) n ≡ Some s → StandOnce s.clauses
state_stands_once setting p n s e = stand_once s.clauses (run_once setting (start p) (added_once [] (map (normal_literal (scope_of p.declared)) p.assumed ++ denied (scope_of p.declared) p.conjecture) tt) n s e)
