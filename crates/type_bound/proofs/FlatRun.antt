-- Every state of a run has literals that are no deeper than a text's terms may be.
use Rattle.std.proofs.Common.{◌≡◌, ◌≤◌, ◌&&◌, ℕ, zero, suc, Bool, true, false, List, [], ◌∷◌, ◌++◌, map, filter, Option, Some, None, refl, subst, if◌then◌else◌, arith}
use Rattle.std.specs.List.{list_any, list_all, flat_map}
use Rattle.std.proofs.lemmas.Bool.{and_parts, leb-true}
use Rattle.stt_core.specs.SimpleType.{SimpleType, base, arrow, formula, target}
use Rattle.stt_core.specs.Lambda.{name, witness, falsity, negation, implication, all, equality, choice, description, Lambda, bound, constant, lam, app, eq, every}
use Rattle.stt_core.specs.Depth.{depth}
use Rattle.stt_core.specs.Typing.{type_of}
use Rattle.stt_core.specs.SameTerm.{same_term}
use Rattle.tableau_calculus.specs.Literals.{Literal, plus, minus}
use Rattle.tableau_calculus.specs.Kinds.{has, formulas}
use Rattle.tableau_calculus.specs.Witnesses.{Row}
use Rattle.tableau_calculus.specs.Each.{Each}
use Rattle.search_spec.specs.Clauses.{instance_clauses, with_clauses}
use Rattle.search_spec.specs.Heads.{heads_for}
use Rattle.search_spec.specs.Partial.{first_hole, whole_term, blank_partial}
use Rattle.search_spec.specs.Shallow.{is_shallow, is_shallow_literal}
use Rattle.search_spec.specs.Queue.{new_entries, first_waiting, next_command}
use Rattle.command_queue.specs.declared.entry.Entry.{Entry}
use Rattle.command_queue.specs.Queue.{comes_before}
use Rattle.search_spec.specs.Closed.{is_closed}
use Rattle.search_spec.specs.State.{State, Setting, Typed, Sketch, Command, process, mate, confront, inst, choose, describe, grow, due, with_commands, scope_in}
use Rattle.search_spec.specs.Spine.{head_of, arguments, is_spine, same_head}
use Rattle.tableau_calculus.specs.Rules.{Alternatives, bool_pos, bool_neg, fun_pos, fun_neg, all_pos, all_neg, differ, con, cho, des}
use Rattle.search_spec.specs.Instances.{with_literal, with_literals, with_instance}
use Rattle.search_spec.specs.Terms.{terms_of, ranges_over, universals, with_term, with_terms, first_terms, with_opening}
use Rattle.search_spec.specs.Offers.{is_prepared, early_terms, offered_witness, offered_sides, offered_heads}
use Rattle.search_spec.specs.Preparing.{with_beginning, with_preparation}
use Rattle.search_spec.specs.Partners.{partners, positive_first, matings, confrontations}
use Rattle.search_spec.specs.Selections.{Selection, by_choice, by_description, selection_by, selections_in, with_selection, with_selections}
use Rattle.search_spec.specs.Witness.{same_row, witness_of, has_hole_of, with_new_witness, with_witness, with_denied}
use Rattle.search_spec.specs.Processing.{with_decomposition, with_confrontations, with_equation, with_universal, with_matings, LiteralRule, connective_rule, with_connective, with_rules, with_processing}
use Rattle.search_spec.specs.Commands.{with_confrontation, with_instantiation, with_growth, growth_by, with_command}
use Rattle.search_spec.specs.After.{nothing_yet, starting_state, with_taken, after_command, next_state, state_after}
use Rattle.search_spec.proofs.NamingLaws.{StandFor, each-joined, pick_good, instance_clauses_good, with_clauses_good}
use Rattle.search_spec.proofs.TypedPushes.{each_filtered, each_mapped}
use Rattle.type_bound.specs.Deep.{IsFlat, IsFlatCommand, IsFlatState}

each_waiting : (P : Command → Type 0) (d : Command → ℕ) (n : ℕ) (cs : List Command) → Each P cs → Each (λ q. P q.command) (new_entries d n cs)
each_waiting P d n [] h = tt
each_waiting P d n (c ∷ cs) h = (h.0, each_waiting P d (suc n) cs h.1)

each_passed : {X : Type 0} (P : X → Type 0) (test : X → Bool) → ((x : X) → test x ≡ true → P x) → (xs : List X) → list_all test xs ≡ true → Each P xs
each_passed P test f [] e = tt
each_passed P test f (x ∷ xs) e = let p = and_parts _ _ e in (f x p.0, each_passed P test f xs p.1)

all_mapped : {X Y : Type 0} (Q : Y → Type 0) (f : X → Y) → ((x : X) → Q (f x)) → (xs : List X) → Each Q (map f xs)
all_mapped Q f g [] = tt
all_mapped Q f g (x ∷ xs) = (g x, all_mapped Q f g xs)

first_good : (P : Entry Command → Type 0) (q : Entry Command) (qs : List (Entry Command)) → P q → Each P qs → P (first_waiting q qs)
first_good P q [] h k = h
first_good P q (p ∷ ps) h k = first_good P (if comes_before p q then p else q) ps (pick_good P (comes_before p q) p q k.0 h) k.1

flattened : (as' : Alternatives) → Each (Each IsFlat) as' → Each IsFlat (flat_map (λ (a : List Literal). a) as')
flattened [] h = tt
flattened (a ∷ as') h = each-joined IsFlat a (flat_map (λ (b : List Literal). b) as') h.0 (flattened as' h.1)

stand : StandFor formulas formulas IsFlat (λ l. l)
stand = record { opposite_is_good = λ k g. g; opposites = λ k g. refl; sames = λ k l g h. refl }

shallow_flat : (l : Literal) → is_shallow_literal l ≡ true → IsFlat l
shallow_flat l e = leb-true (depth l.atom) 4096 e

-- SELECTIONS

abbrev IsFlatSelection : ℕ → Selection → Type 0
IsFlatSelection n (by_choice a f) = depth f ≤ n
IsFlatSelection n (by_description a f) = depth f ≤ n

one_or_none : (n : ℕ) (p : Selection) (b : Bool) → IsFlatSelection n p → Each (IsFlatSelection n) (if b then p ∷ [] else [])
one_or_none n p true h = (h, tt)
one_or_none n p false h = tt

selection-flat : (n : ℕ) (s f : Lambda) → depth f ≤ n → Each (IsFlatSelection n) (selection_by s f)
selection-flat n (constant (choice a)) f h = one_or_none n (by_choice a f) (is_closed f) h
selection-flat n (constant (description a)) f h = one_or_none n (by_description a f) (is_closed f) h
selection-flat n (constant (name j)) f h = tt
selection-flat n (constant (witness j)) f h = tt
selection-flat n (constant falsity) f h = tt
selection-flat n (constant negation) f h = tt
selection-flat n (constant implication) f h = tt
selection-flat n (constant (all a)) f h = tt
selection-flat n (constant (equality a)) f h = tt
selection-flat n (bound j) f h = tt
selection-flat n (lam a s) f h = tt
selection-flat n (app s u) f h = tt

selections-flat : (n : ℕ) (t : Lambda) → depth t ≤ n → Each (IsFlatSelection n) (selections_in t)
selections-flat n (bound k) h = tt
selections-flat n (constant c) h = tt
selections-flat n (lam a s) h = selections-flat n s (omega (arith, h))
selections-flat n (app s u) h =
    let left : depth s ≤ n = omega (arith, h) in
    let right : depth u ≤ n = omega (arith, h) in
    each-joined (IsFlatSelection n) (selection_by s u ++ selections_in s) (selections_in u)
    (each-joined (IsFlatSelection n) (selection_by s u) (selections_in s) (selection-flat n s u right) (selections-flat n s left)) (selections-flat n u right)

module _ (setting : Setting) where
  abbrev Is : State → Type 0
  Is s = IsFlatState s

  -- PUSHES

  pushed-flat : (cs : List Command) (s : State) → Each IsFlatCommand cs → Is s → Is (with_commands setting.mode cs s)
  pushed-flat cs s h g = record {
    clauses = g.clauses;
    noted = g.noted;
    rows = g.rows;
    queue = each-joined _ s.queue (new_entries (due setting.mode s.moment) s.pushes cs) g.queue (each_waiting IsFlatCommand (due setting.mode s.moment) s.pushes cs h);
  }

  with_literal-flat : (l : Literal) (s : State) → IsFlat l → Is s → Is (with_literal setting.mode l s)
  with_literal-flat l s h g =
      pick_good Is (has formulas s.seen l) s (with_commands setting.mode (process l ∷ []) (record s { seen = s.seen ++ l ∷ [] })) g
      (pushed-flat (process l ∷ []) (record s { seen = s.seen ++ l ∷ [] }) (h, tt) (record { clauses = g.clauses; noted = g.noted; rows = g.rows; queue = g.queue }))

  with_literals-flat : (ls : List Literal) (s : State) → Each IsFlat ls → Is s → Is (with_literals setting.mode ls s)
  with_literals-flat [] s h g = g
  with_literals-flat (l ∷ ls) s h g = with_literals-flat ls (with_literal setting.mode l s) h.1 (with_literal-flat l s h.0 g)

  with_instance-flat : (ps : List Literal) (as' : Alternatives) (s : State) → Each IsFlat ps → Is s → Is (with_instance setting.mode ps as' s)
  with_instance-flat ps as' s k g = by_test (list_all (list_all is_shallow_literal) as') refl
    where
      added : State
      added = record s { clauses = with_clauses formulas s.clauses (instance_clauses formulas ps as') }

      by_test : (b : Bool) → list_all (list_all is_shallow_literal) as' ≡ b → Is (if b then with_literals setting.mode (flat_map (λ (a : List Literal). a) as') added else s)
      by_test false e = g
      by_test true e =
          let flat : Each (Each IsFlat) as' = each_passed (Each IsFlat) (list_all is_shallow_literal) (λ ls p. each_passed IsFlat is_shallow_literal shallow_flat ls p) as' e in
          with_literals-flat (flat_map (λ (a : List Literal). a) as') added (flattened as' flat)
          (record {
            clauses = with_clauses_good formulas IsFlat s.clauses (instance_clauses formulas ps as') g.clauses (instance_clauses_good formulas formulas IsFlat (λ l. l) stand ps as' k flat);
            noted = g.noted;
            rows = g.rows;
            queue = g.queue;
          })

  with_term-flat : (a : SimpleType) (u : Lambda) (s : State) → Is s → Is (with_term setting.mode a u s)
  with_term-flat a u s g =
      let more : List Typed = s.terms ++ record { type = a; term = u } ∷ [] in
      pick_good Is (list_any (same_term u) (terms_of a s)) s (with_commands setting.mode (map (λ l. inst l u) (universals a s)) (record s { terms = more })) g
      (pushed-flat (map (λ l. inst l u) (universals a s)) (record s { terms = more })
      (each_mapped IsFlat IsFlatCommand (λ l. inst l u) (λ l k. k) (universals a s) (each_filtered IsFlat IsFlat (λ l. l.positive && ranges_over a l.atom) (λ l k e. k) s.noted g.noted))
      (record { clauses = g.clauses; noted = g.noted; rows = g.rows; queue = g.queue }))

  with_terms-flat : (a : SimpleType) (us : List Lambda) (s : State) → Is s → Is (with_terms setting.mode a us s)
  with_terms-flat a [] s g = g
  with_terms-flat a (u ∷ us) s g = with_terms-flat a us (with_term setting.mode a u s) (with_term-flat a u s g)

  opened-flat : (p : Sketch) (s : State) → Is s → Is (with_opening setting p s)
  opened-flat p s g =
      let heads = heads_for s.offers (scope_in setting s) (first_hole [] p.partial) in
      pushed-flat (map (grow p) heads) (record s { parked = s.parked ++ p ∷ [] }) (all_mapped IsFlatCommand (grow p) (λ h. tt) heads) (record { clauses = g.clauses; noted = g.noted; rows = g.rows; queue = g.queue })

  begun-flat : (a : SimpleType) (s : State) → Is s → Is (with_beginning setting a s)
  begun-flat (base n) s g = with_terms-flat (base n) (first_terms (base n)) s g
  begun-flat (arrow a b) s g = opened-flat (record { type = arrow a b; partial = blank_partial (arrow a b) }) s g

  prepared-flat : (a : SimpleType) (s : State) → Is s → Is (with_preparation setting a s)
  prepared-flat a s g =
      let us = early_terms setting.mode a s in
      let more = with_terms setting.mode a us s in
      pick_good Is (is_prepared setting.mode a s) s (with_beginning setting a more) g (begun-flat a more (with_terms-flat a us s g))

  grown-flat : (q : Sketch) (o : Option Lambda) (s : State) → Is s → Is (with_growth setting q o s)
  grown-flat q (Some u) s g = with_term-flat q.type u s g
  grown-flat q None s g = opened-flat q s g

  with_selection-flat : (p : Selection) (s : State) → IsFlatSelection 4096 p → Is s → Is (with_selection setting.mode p s)
  with_selection-flat (by_choice a f) s h g =
      let more = s.chosen ++ f ∷ [] in
      pick_good Is (list_any (same_term f) s.chosen) s (with_commands setting.mode (choose a f ∷ []) (record s { chosen = more })) g
      (pushed-flat (choose a f ∷ []) (record s { chosen = more }) (h, tt) (record { clauses = g.clauses; noted = g.noted; rows = g.rows; queue = g.queue }))
  with_selection-flat (by_description a f) s h g =
      let more = s.described ++ f ∷ [] in
      pick_good Is (list_any (same_term f) s.described) s (with_commands setting.mode (describe a f ∷ []) (record s { described = more })) g
      (pushed-flat (describe a f ∷ []) (record s { described = more }) (h, tt) (record { clauses = g.clauses; noted = g.noted; rows = g.rows; queue = g.queue }))

  with_selections-flat : (ps : List Selection) (s : State) → Each (IsFlatSelection 4096) ps → Is s → Is (with_selections setting.mode ps s)
  with_selections-flat [] s h g = g
  with_selections-flat (p ∷ ps) s h g = with_selections-flat ps (with_selection setting.mode p s) h.1 (with_selection-flat p s h.0 g)

  -- PROCESSING

  confronted-flat : (a : SimpleType) (l : Literal) (st : State) → IsFlat l → Is st → Is (with_confrontations setting a l st)
  confronted-flat a l st h g =
      pushed-flat (confrontations a l st.noted) st
      (each_mapped IsFlat IsFlatCommand (positive_first confront l) (λ m n. pick_good IsFlatCommand l.positive (confront l m) (confront m l) (h, n) (n, h)) _ (each_filtered IsFlat IsFlat _ (λ m n e. n) st.noted g.noted)) g

  decomposed-flat : (a : SimpleType) (s t : Lambda) (st : State) → IsFlat (minus (eq a s t)) → Is st → Is (with_decomposition setting a s t st)
  decomposed-flat a s t st h g =
      pick_good Is (is_spine s && same_head s t) (with_instance setting.mode (minus (eq a s t) ∷ []) (differ (type_of (scope_in setting st) [] (head_of s)) (arguments s) (arguments t)) st) st
      (with_instance-flat (minus (eq a s t) ∷ []) (differ (type_of (scope_in setting st) [] (head_of s)) (arguments s) (arguments t)) st (h, tt) g) g

  equated-flat : (a : SimpleType) (sign : Bool) (s t : Lambda) (st : State) → depth (eq a s t) ≤ 4096 → Is st → Is (with_equation setting a sign s t st)
  equated-flat (base zero) true s t st h g = with_instance-flat (plus (eq formula s t) ∷ []) (bool_pos s t) st (h, tt) g
  equated-flat (base zero) false s t st h g = with_instance-flat (minus (eq formula s t) ∷ []) (bool_neg s t) st (h, tt) g
  equated-flat (arrow a b) true s t st h g = with_instance-flat (plus (eq (arrow a b) s t) ∷ []) (fun_pos a b s t) st (h, tt) g
  equated-flat (arrow a b) false s t st h g =
      let us = offered_sides setting.mode s t in
      with_instance-flat (minus (eq (arrow a b) s t) ∷ []) (fun_neg a b s t) (with_terms setting.mode (arrow a b) us st) (h, tt) (with_terms-flat (arrow a b) us st g)
  equated-flat (base (suc n)) true s t st h g = confronted-flat (base (suc n)) (plus (eq (base (suc n)) s t)) st h g
  equated-flat (base (suc n)) false s t st h g =
      let b = base (suc n) in
      let first = with_term setting.mode b s st in
      let second = with_term setting.mode b t first in
      confronted-flat b (minus (eq b s t)) (with_decomposition setting b s t second) h (decomposed-flat b s t second h (with_term-flat b t first (with_term-flat b s st g)))

  quantified-flat : (a : SimpleType) (f : Lambda) (st : State) → IsFlat (plus (every a f)) → Is st → Is (with_universal setting a f st)
  quantified-flat a f st h g =
      let ready = with_preparation setting a st in
      pushed-flat (map (inst (plus (every a f))) (terms_of a ready)) ready (all_mapped IsFlatCommand (inst (plus (every a f))) (λ u. h) (terms_of a ready)) (prepared-flat a st g)

  mated-flat : (l : Literal) (st : State) → IsFlat l → Is st → Is (with_matings setting l st)
  mated-flat l st h g =
      pick_good Is (is_spine l.atom) (with_commands setting.mode (matings l st.noted) st) st
      (pushed-flat (matings l st.noted) st
      (each_mapped IsFlat IsFlatCommand (positive_first mate l) (λ m n. pick_good IsFlatCommand l.positive (mate l m) (mate m l) (h, n) (n, h)) (partners (same_head l.atom) l st.noted) (each_filtered IsFlat IsFlat _ (λ m n e. n) st.noted g.noted)) g) g

  witnessed-flat : (a : SimpleType) (f : Lambda) (s : State) → IsFlat (minus (every a f)) → Is s → Is (with_witness setting a f s)
  witnessed-flat a f s h g = pick_good Is (list_any (same_row r) s.rows) (added s) (with_new_witness setting a (witness_of s.rows r) (added more)) (add s g) (grow_all (added more) (add more wide))
    where
      r : Row
      r = record { type = a; predicate = f }

      more : State
      more = record s { rows = s.rows ++ r ∷ [] }

      flat : depth f ≤ 4096
      flat = omega (arith, h)

      wide : Is more
      wide = record { clauses = g.clauses; noted = g.noted; rows = each-joined (λ (q : Row). depth q.predicate ≤ 4096) s.rows (r ∷ []) g.rows (flat, tt); queue = g.queue }

      added : State → State
      added = with_instance setting.mode (minus (every a f) ∷ []) (all_neg a f (witness_of s.rows r))

      add : (st : State) → Is st → Is (added st)
      add st k = with_instance-flat (minus (every a f) ∷ []) (all_neg a f (witness_of s.rows r)) st (h, tt) k

      grow_all : (st : State) → Is st → Is (with_new_witness setting a (witness_of s.rows r) st)
      grow_all st k =
          pushed-flat (map (λ p. grow p (witness_of s.rows r)) (filter (has_hole_of (target a)) st.parked)) st
          (all_mapped IsFlatCommand (λ p. grow p (witness_of s.rows r)) (λ p. tt) (filter (has_hole_of (target a)) st.parked)) k

  denied-flat : (a : SimpleType) (f : Lambda) (s : State) → depth (every a f) ≤ 4096 → Is s → Is (with_denied setting a f s)
  denied-flat a f s h g =
      let r : Row = record { type = a; predicate = f } in
      let done = with_witness setting a f s in
      let us = offered_witness setting.mode a (witness_of s.rows r) done in
      let k = witnessed-flat a f s h g in
      pick_good Is (list_any (same_row r) s.rows) done (with_terms setting.mode a us done) k (with_terms-flat a us done k)

  connected-flat : (l : Literal) (o : Option (LiteralRule l)) (s : State) → IsFlat l → Is s → Is (with_connective l setting o s)
  connected-flat l (Some rule) s h g = with_instance-flat (l ∷ []) rule.alternatives s (h, tt) g
  connected-flat l None s h g = mated-flat l s h g

  worked-flat : (sign : Bool) (t : Lambda) (s : State) → depth t ≤ 4096 → Is s → Is (with_rules setting sign t s)
  worked-flat true (app (app (constant (equality a)) u) v) s h g = equated-flat a true u v s h g
  worked-flat false (app (app (constant (equality a)) u) v) s h g =
      pick_good Is (same_term u v) (with_instance setting.mode (minus (eq a u v) ∷ []) [] s) (with_equation setting a false u v s) (with_instance-flat (minus (eq a u v) ∷ []) [] s (h, tt) g) (equated-flat a false u v s h g)
  worked-flat true (app (constant (all a)) f) s h g = quantified-flat a f s h g
  worked-flat false (app (constant (all a)) f) s h g = denied-flat a f s h g
  worked-flat sign t s h g = connected-flat (record { positive = sign; atom = t }) (connective_rule t sign) s h g

  processed-flat : (l : Literal) (s : State) → IsFlat l → Is s → Is (with_processing setting l s)
  processed-flat l s h g =
      let done = with_rules setting l.positive l.atom s in
      let k = worked-flat l.positive l.atom s h g in
      with_selections-flat (selections_in l.atom) (record done { noted = done.noted ++ l ∷ [] }) (selections-flat 4096 l.atom h)
      (record { clauses = k.clauses; noted = each-joined IsFlat done.noted (l ∷ []) k.noted (h, tt); rows = k.rows; queue = k.queue })

  -- COMMANDS

  confront-flat : (l m : Literal) (x y : Lambda) (s : State) → IsFlat l → IsFlat m → Is s → Is (with_confrontation setting l m x y s)
  confront-flat l m (app (app (constant (equality a)) u) v) (app (app c w) z) s h k g = with_instance-flat (l ∷ m ∷ []) (con a u v w z) s (h, (k, tt)) g
  confront-flat l m x y s h k g = g

  inst-flat : (l : Literal) (t u : Lambda) (s : State) → IsFlat l → Is s → Is (with_instantiation setting l t u s)
  inst-flat l (app (constant (all a)) f) u s h g = pick_good Is (is_shallow u) (with_instance setting.mode (l ∷ []) (all_pos f u) s) s (with_instance-flat (l ∷ []) (all_pos f u) s (h, tt) g) g
  inst-flat l t u s h g = g

  carried_out-flat : (c : Command) (s : State) → IsFlatCommand c → Is s → Is (with_command setting c s)
  carried_out-flat (process l) s h g = processed-flat l s h g
  carried_out-flat (mate l m) s h g = with_instance-flat (l ∷ m ∷ []) (differ (type_of (scope_in setting s) [] (head_of l.atom)) (arguments l.atom) (arguments m.atom)) s (h.0, (h.1, tt)) g
  carried_out-flat (confront l m) s h g = confront-flat l m l.atom m.atom s h.0 h.1 g
  carried_out-flat (inst l u) s h g = inst-flat l l.atom u s h g
  carried_out-flat (choose a f) s h g = with_instance-flat [] (cho a f) s tt g
  carried_out-flat (describe a f) s h g = with_instance-flat [] (des a f) s tt g
  carried_out-flat (grow p t) s h g = let q = growth_by (scope_in setting s) t p in grown-flat q (whole_term q.partial) s g

  -- RUNS

  taken-flat : (first : Entry Command) (s : State) → Is s → Is (with_taken setting first s)
  taken-flat first s g = record {
    clauses = g.clauses;
    noted = g.noted;
    rows = g.rows;
    queue = each_filtered (λ (q : Entry Command). IsFlatCommand q.command) (λ q. IsFlatCommand q.command) _ (λ q h e. h) s.queue g.queue;
  }

  next-flat : (s t : State) → Is s → (qs : List (Entry Command)) → Each (λ q. IsFlatCommand q.command) qs → after_command setting (next_command qs) s ≡ Some t → Is t
  next-flat s t g [] h e = cc
  next-flat s t g (q ∷ qs) h e =
      let first = first_waiting q qs in
      let flat = first_good (λ p. IsFlatCommand p.command) q qs h.0 h.1 in
      let same : with_command setting first.command (with_taken setting first s) ≡ t = cc in
      subst Is same (carried_out-flat first.command (with_taken setting first s) flat (taken-flat first s g))

  step-flat : (o : Option State) (t : State) → ((s : State) → o ≡ Some s → Is s) → next_state setting o ≡ Some t → Is t
  step-flat None t h e = cc
  step-flat (Some s) t h e = let g = h s refl in next-flat s t g s.queue g.queue e

  passed : (ls : List Literal) → Each IsFlat (filter is_shallow_literal ls)
  passed [] = tt
  passed (l ∷ ls) = go (is_shallow_literal l) refl (passed ls)
    where
      go : (b : Bool) → is_shallow_literal l ≡ b → Each IsFlat (filter is_shallow_literal ls) → Each IsFlat (if b then l ∷ filter is_shallow_literal ls else filter is_shallow_literal ls)
      go true e rest = (shallow_flat l e, rest)
      go false e rest = rest

  started-flat : (start : List Literal) → Is (starting_state setting start)
  started-flat start =
      let ls = filter is_shallow_literal start in
      let some = passed start in
      pushed-flat (map process ls) (record nothing_yet { clauses = map (λ l. l ∷ []) ls; seen = ls; offers = offered_heads setting.mode setting.scope ls }) (each_mapped IsFlat IsFlatCommand process (λ l k. k) ls some)
      (record { clauses = each_mapped IsFlat (Each IsFlat) (λ l. l ∷ []) (λ l k. (k, tt)) ls some; noted = tt; rows = tt; queue = tt })

  pub after-flat : (start : List Literal) (n : ℕ) (s : State) → state_after setting start n ≡ Some s → Is s
  after-flat start zero s e =
      let same : starting_state setting start ≡ s = cc in
      subst Is same (started-flat start)
  after-flat start (suc n) s e = step-flat (state_after setting start n) s (λ t f. after-flat start n t f) e
