-- Every state of a run is modest.
use Rattle.std.proofs.Common.{◌≡◌, ◌≤◌, ◌&&◌, ℕ, zero, suc, Bool, true, false, List, [], ◌∷◌, ◌++◌, map, filter, Option, Some, None, refl, subst, if◌then◌else◌}
use Rattle.std.specs.List.{list_any, position_or_len}
use Rattle.std.proofs.lemmas.Bool.{and_parts}
use Rattle.stt_core.specs.SimpleType.{SimpleType, base, arrow, formula, target}
use Rattle.stt_core.specs.Lambda.{all, equality, Lambda, constant, app, eq, every}
use Rattle.stt_core.specs.Typing.{type_of}
use Rattle.stt_core.specs.SameTerm.{same_term}
use Rattle.normal_forms.specs.Normal.{eta}
use Rattle.tableau_calculus.specs.Literals.{Literal, plus, minus}
use Rattle.tableau_calculus.specs.Witnesses.{Row}
use Rattle.tableau_calculus.specs.Each.{Each}
use Rattle.search_spec.specs.Shallow.{is_shallow, is_shallow_literal}
use Rattle.search_spec.specs.Queue.{first_waiting, next_command}
use Rattle.command_queue.specs.declared.entry.Entry.{Entry}
use Rattle.command_queue.specs.Queue.{comes_before}
use Rattle.search_spec.specs.State.{State, Setting, Sketch, Command, process, mate, confront, inst, choose, describe, grow, with_commands, scope_in}
use Rattle.search_spec.specs.Spine.{head_of, arguments, is_spine, same_head}
use Rattle.tableau_calculus.specs.Rules.{bool_pos, bool_neg, fun_pos, fun_neg, all_pos, all_neg, differ, con, cho, des}
use Rattle.search_spec.specs.Instances.{with_instance}
use Rattle.search_spec.specs.Terms.{terms_of, with_term, with_terms}
use Rattle.search_spec.specs.Offers.{offers_terms, takes_witness, offered_witness, offered_sides, offered_heads}
use Rattle.search_spec.specs.Preparing.{with_preparation}
use Rattle.search_spec.specs.Partners.{matings, confrontations}
use Rattle.search_spec.specs.Selections.{selections_in}
use Rattle.search_spec.specs.Witness.{same_row, witness_of, has_hole_of, with_new_witness, with_witness, with_denied}
use Rattle.search_spec.specs.Processing.{with_decomposition, with_confrontations, with_equation, with_universal, with_matings, LiteralRule, connective_rule, with_connective, with_rules, with_processing}
use Rattle.search_spec.specs.Commands.{with_mating, with_confrontation, with_instantiation, with_command}
use Rattle.search_spec.specs.After.{nothing_yet, starting_state, with_taken, after_command, next_state, state_after}
use Rattle.search_spec.proofs.NamingLaws.{each-joined, pick_good}
use Rattle.search_spec.proofs.TypedPushes.{each_filtered, each_mapped}
use Rattle.refute_print.specs.Sizes.{nesting}
use Rattle.type_bound.specs.Modest.{IsModest, IsModestLiteral, IsModestPartial, IsModestRow, IsModestCommand, IsModestState, IsModestSetting}
use Rattle.type_bound.proofs.ModestTerms.{head_of_keeps, arguments_keep, head_shallow, alone_keeps, bool_pos_keeps, bool_neg_keeps, fun_pos_keeps, fun_neg_keeps, all_pos_keeps, all_neg_keeps, differ_keeps, con_keeps, cho_keeps, des_keeps}
use Rattle.type_bound.proofs.ModestSteps.{pushed-modest, with_instance-modest, with_term-modest, with_terms-modest, terms_of-modest, witness-modest, prepared-modest, witnesses-modest, grow-modest, matings-modest, confrontations-modest, selections-modest, with_selections-modest}

first_good : (P : Entry Command → Type 0) (q : Entry Command) (qs : List (Entry Command)) → P q → Each P qs → P (first_waiting q qs)
first_good P q [] h k = h
first_good P q (p ∷ ps) h k = first_good P (if comes_before p q then p else q) ps (pick_good P (comes_before p q) p q k.0 h) k.1

module _ (limit : ℕ) (setting : Setting) (good : IsModestSetting limit setting) where
  abbrev Is : State → Type 0
  Is s = IsModestState limit s

  abbrev Lit : Literal → Type 0
  Lit l = IsModestLiteral limit l

  -- PROCESSING

  differ-modest : (s t : Lambda) (st : State) → is_spine s ≡ true → IsModest limit s → IsModest limit t → Is st
      → Each (Each Lit) (differ (type_of (scope_in setting st) [] (head_of s)) (arguments s) (arguments t))
  differ-modest s t st e h k g =
      differ_keeps limit (type_of (scope_in setting st) [] (head_of s)) (arguments s) (arguments t)
      (head_shallow limit (scope_in setting st) good.names (witnesses-modest limit setting good st g) (head_of s) (and_parts _ _ e).1 (head_of_keeps limit s h))
      (arguments_keep limit s h) (arguments_keep limit t k)

  decomposed-modest : (a : SimpleType) (s t : Lambda) (st : State) → nesting a ≤ limit → IsModest limit s → IsModest limit t → Is st → Is (with_decomposition setting a s t st)
  decomposed-modest a s t st within h k g = by_test (is_spine s && same_head s t) refl
    where
      by_test : (x : Bool) → (is_spine s && same_head s t) ≡ x
          → Is (if x then with_instance setting.mode (minus (eq a s t) ∷ []) (differ (type_of (scope_in setting st) [] (head_of s)) (arguments s) (arguments t)) st else st)
      by_test false e = g
      by_test true e =
          with_instance-modest limit setting (minus (eq a s t) ∷ []) (differ (type_of (scope_in setting st) [] (head_of s)) (arguments s) (arguments t)) st
          (((within, h), k), tt) (differ-modest s t st (and_parts _ _ e).0 h k g) g

  confronted-modest : (a : SimpleType) (l : Literal) (st : State) → Lit l → Is st → Is (with_confrontations setting a l st)
  confronted-modest a l st h g = pushed-modest limit setting (confrontations a l st.noted) st (confrontations-modest limit setting a l st.noted h g.noted) g

  equated-modest : (a : SimpleType) (sign : Bool) (s t : Lambda) (st : State) → nesting a ≤ limit → IsModest limit s → IsModest limit t → Is st → Is (with_equation setting a sign s t st)
  equated-modest (base zero) true s t st w h k g = with_instance-modest limit setting (plus (eq formula s t) ∷ []) (bool_pos s t) st (((w, h), k), tt) (bool_pos_keeps limit s t h k) g
  equated-modest (base zero) false s t st w h k g = with_instance-modest limit setting (minus (eq formula s t) ∷ []) (bool_neg s t) st (((w, h), k), tt) (bool_neg_keeps limit s t h k) g
  equated-modest (arrow a b) true s t st w h k g = with_instance-modest limit setting (plus (eq (arrow a b) s t) ∷ []) (fun_pos a b s t) st (((w, h), k), tt) (fun_pos_keeps limit a b s t w h k) g
  equated-modest (arrow a b) false s t st w h k g =
      let us = offered_sides setting.mode s t in
      with_instance-modest limit setting (minus (eq (arrow a b) s t) ∷ []) (fun_neg a b s t) (with_terms setting.mode (arrow a b) us st) (((w, h), k), tt) (fun_neg_keeps limit a b s t w h k)
      (with_terms-modest limit setting (arrow a b) us st (pick_good (Each (IsModest limit)) (offers_terms setting.mode) (s ∷ t ∷ []) [] (h, (k, tt)) tt) g)
  equated-modest (base (suc n)) true s t st w h k g = confronted-modest (base (suc n)) (plus (eq (base (suc n)) s t)) st ((w, h), k) g
  equated-modest (base (suc n)) false s t st w h k g =
      let b = base (suc n) in
      let first = with_term setting.mode b s st in
      let second = with_term setting.mode b t first in
      confronted-modest b (minus (eq b s t)) (with_decomposition setting b s t second) ((w, h), k)
      (decomposed-modest b s t second w h k
      (with_term-modest limit setting b t first k
      (with_term-modest limit setting b s st h g)))

  quantified-modest : (a : SimpleType) (f : Lambda) (st : State) → nesting a ≤ limit → IsModest limit f → Is st → Is (with_universal setting a f st)
  quantified-modest a f st w h g =
      let ready = with_preparation setting a st in
      let k = prepared-modest limit setting good a st w g in
      pushed-modest limit setting (map (inst (plus (every a f))) (terms_of a ready)) ready
      (each_mapped (IsModest limit) (IsModestCommand limit) (inst (plus (every a f))) (λ u m. ((w, h), m)) (terms_of a ready) (terms_of-modest limit setting a ready k)) k

  mated-modest : (l : Literal) (st : State) → Lit l → Is st → Is (with_matings setting l st)
  mated-modest l st h g = by_test (is_spine l.atom) refl
    where
      by_test : (x : Bool) → is_spine l.atom ≡ x → Is (if x then with_commands setting.mode (matings l st.noted) st else st)
      by_test false e = g
      by_test true e = pushed-modest limit setting (matings l st.noted) st (matings-modest limit setting l st.noted (and_parts _ _ e).1 h g.noted) g

  witnessed-modest : (a : SimpleType) (f : Lambda) (s : State) → nesting a ≤ limit → IsModest limit f → Is s → Is (with_witness setting a f s)
  witnessed-modest a f s w h g = pick_good Is (list_any (same_row r) s.rows) (added s) (with_new_witness setting a (witness_of s.rows r) (added more)) (add s g) (grow_all (added more) (add more wide))
    where
      r : Row
      r = record { type = a; predicate = f }

      more : State
      more = record s { rows = s.rows ++ r ∷ [] }

      added : State → State
      added = with_instance setting.mode (minus (every a f) ∷ []) (all_neg a f (witness_of s.rows r))

      wide : Is more
      wide = record { clauses = g.clauses; noted = g.noted; terms = g.terms; rows = each-joined (IsModestRow limit) s.rows (r ∷ []) g.rows ((w, h), tt); parked = g.parked; queue = g.queue }

      add : (st : State) → Is st → Is (added st)
      add st k = with_instance-modest limit setting (minus (every a f) ∷ []) (all_neg a f (witness_of s.rows r)) st ((w, h), tt) (all_neg_keeps limit a f (witness_of s.rows r) w h tt) k

      grow_all : (st : State) → Is st → Is (with_new_witness setting a (witness_of s.rows r) st)
      grow_all st k =
          pushed-modest limit setting (map (λ p. grow p (witness_of s.rows r)) (filter (has_hole_of (target a)) st.parked)) st
          (each_mapped (λ (p : Sketch). IsModestPartial limit p.partial) (IsModestCommand limit) (λ p. grow p (witness_of s.rows r)) (λ p m. (m, (tt, tt))) (filter (has_hole_of (target a)) st.parked)
          (each_filtered (λ (p : Sketch). IsModestPartial limit p.partial) (λ p. IsModestPartial limit p.partial) (has_hole_of (target a)) (λ p m e. m) st.parked k.parked)) k

  denied-modest : (a : SimpleType) (f : Lambda) (s : State) → nesting a ≤ limit → IsModest limit f → Is s → Is (with_denied setting a f s)
  denied-modest a f s w h g =
      let r : Row = record { type = a; predicate = f } in
      let done = with_witness setting a f s in
      let k = witnessed-modest a f s w h g in
      let u = eta a (witness_of s.rows r) in
      pick_good Is (list_any (same_row r) s.rows) done (with_terms setting.mode a (offered_witness setting.mode a (witness_of s.rows r) done) done) k
      (with_terms-modest limit setting a (offered_witness setting.mode a (witness_of s.rows r) done) done
      (pick_good (Each (IsModest limit)) (takes_witness setting.mode a done) (u ∷ []) [] (witness-modest limit setting good a (position_or_len (same_row r) s.rows) w, tt) tt) k)

  connected-modest : (l : Literal) (s : State) → Lit l → Is s → (o : Option (LiteralRule l)) → Is (with_connective l setting o s)
  connected-modest l s h g None = mated-modest l s h g
  connected-modest l s h g (Some rule) =
      with_instance-modest limit setting (l ∷ []) rule.alternatives s (h, tt) (alone_keeps limit rule.kind l rule.alternatives rule.fits h) g

  worked-modest : (sign : Bool) (t : Lambda) (s : State) → IsModest limit t → Is s → Is (with_rules setting sign t s)
  worked-modest true (app (app (constant (equality a)) u) v) s h g = equated-modest a true u v s h.0.0 h.0.1 h.1 g
  worked-modest false (app (app (constant (equality a)) u) v) s h g =
      pick_good Is (same_term u v) (with_instance setting.mode (minus (eq a u v) ∷ []) [] s) (with_equation setting a false u v s)
      (with_instance-modest limit setting (minus (eq a u v) ∷ []) [] s (h, tt) tt g) (equated-modest a false u v s h.0.0 h.0.1 h.1 g)
  worked-modest true (app (constant (all a)) f) s h g = quantified-modest a f s h.0 h.1 g
  worked-modest false (app (constant (all a)) f) s h g = denied-modest a f s h.0 h.1 g
  worked-modest sign t s h g = connected-modest (record { positive = sign; atom = t }) s h g (connective_rule t sign)

  processed-modest : (l : Literal) (s : State) → Lit l → Is s → Is (with_processing setting l s)
  processed-modest l s h g =
      let done = with_rules setting l.positive l.atom s in
      let k = worked-modest l.positive l.atom s h g in
      with_selections-modest limit setting (selections_in l.atom) (record done { noted = done.noted ++ l ∷ [] }) (selections-modest limit setting l.atom h)
      (record { clauses = k.clauses; noted = each-joined Lit done.noted (l ∷ []) k.noted (h, tt); terms = k.terms; rows = k.rows; parked = k.parked; queue = k.queue })

  -- COMMANDS

  confront-modest : (l m : Literal) (x y : Lambda) (s : State) → Lit l → Lit m → IsModest limit x → IsModest limit y → Is s → Is (with_confrontation setting l m x y s)
  confront-modest l m (app (app (constant (equality a)) u) v) (app (app c w) z) s h k hx hy g =
      with_instance-modest limit setting (l ∷ m ∷ []) (con a u v w z) s (h, (k, tt)) (con_keeps limit a u v w z hx.0.0 hx.0.1 hx.1 hy.0.1 hy.1) g
  confront-modest l m x y s h k hx hy g = g

  inst-modest : (l : Literal) (t u : Lambda) (s : State) → Lit l → IsModest limit t → IsModest limit u → Is s → Is (with_instantiation setting l t u s)
  inst-modest l (app (constant (all a)) f) u s h ht hu g =
      pick_good Is (is_shallow u) (with_instance setting.mode (l ∷ []) (all_pos f u) s) s
      (with_instance-modest limit setting (l ∷ []) (all_pos f u) s (h, tt) (all_pos_keeps limit f u ht.1 hu) g) g
  inst-modest l t u s h ht hu g = g

  mate-modest : (l m : Literal) (s : State) → IsModestCommand limit (mate l m) → Is s → Is (with_mating setting l m s)
  mate-modest l m s h g =
      with_instance-modest limit setting (l ∷ m ∷ []) (differ (type_of (scope_in setting s) [] (head_of l.atom)) (arguments l.atom) (arguments m.atom)) s (h.1.0, (h.1.1, tt))
      (differ_keeps limit (type_of (scope_in setting s) [] (head_of l.atom)) (arguments l.atom) (arguments m.atom)
      (head_shallow limit (scope_in setting s) good.names (witnesses-modest limit setting good s g) (head_of l.atom) h.0 (head_of_keeps limit l.atom h.1.0))
      (arguments_keep limit l.atom h.1.0) (arguments_keep limit m.atom h.1.1)) g

  carried_out-modest : (c : Command) (s : State) → IsModestCommand limit c → Is s → Is (with_command setting c s)
  carried_out-modest (process l) s h g = processed-modest l s h g
  carried_out-modest (mate l m) s h g = mate-modest l m s h g
  carried_out-modest (confront l m) s h g = confront-modest l m l.atom m.atom s h.0 h.1 h.0 h.1 g
  carried_out-modest (inst l u) s h g = inst-modest l l.atom u s h.0 h.0 h.1 g
  carried_out-modest (choose a f) s h g = with_instance-modest limit setting [] (cho a f) s tt (cho_keeps limit a f h.0 h.1) g
  carried_out-modest (describe a f) s h g = with_instance-modest limit setting [] (des a f) s tt (des_keeps limit a f h.0 h.1) g
  carried_out-modest (grow p t) s h g = grow-modest limit setting good p t s h.0 h.1.0 h.1.1 g

  -- RUNS

  taken-modest : (first : Entry Command) (s : State) → Is s → Is (with_taken setting first s)
  taken-modest first s g = record {
    clauses = g.clauses;
    noted = g.noted;
    terms = g.terms;
    rows = g.rows;
    parked = g.parked;
    queue = each_filtered (λ (q : Entry Command). IsModestCommand limit q.command) (λ q. IsModestCommand limit q.command) _ (λ q h e. h) s.queue g.queue;
  }

  next-modest : (s t : State) → Is s → (qs : List (Entry Command)) → Each (λ q. IsModestCommand limit q.command) qs → after_command setting (next_command qs) s ≡ Some t → Is t
  next-modest s t g [] h e = cc
  next-modest s t g (q ∷ qs) h e =
      let first = first_waiting q qs in
      let modest = first_good (λ p. IsModestCommand limit p.command) q qs h.0 h.1 in
      let same : with_command setting first.command (with_taken setting first s) ≡ t = cc in
      subst Is same (carried_out-modest first.command (with_taken setting first s) modest (taken-modest first s g))

  step-modest : (o : Option State) (t : State) → ((s : State) → o ≡ Some s → Is s) → next_state setting o ≡ Some t → Is t
  step-modest None t h e = cc
  step-modest (Some s) t h e = let g = h s refl in next-modest s t g s.queue g.queue e

  started-modest : (start : List Literal) → Each Lit start → Is (starting_state setting start)
  started-modest start h =
      let ls = filter is_shallow_literal start in
      let some = each_filtered Lit Lit is_shallow_literal (λ l k e. k) start h in
      let first = record nothing_yet { clauses = map (λ l. l ∷ []) ls; seen = ls; offers = offered_heads setting.mode setting.scope ls } in
      pushed-modest limit setting (map process ls) first (each_mapped Lit (IsModestCommand limit) process (λ l k. k) ls some)
      (record { clauses = each_mapped Lit (Each Lit) (λ l. l ∷ []) (λ l k. (k, tt)) ls some; noted = tt; terms = tt; rows = tt; parked = tt; queue = tt })

  pub after-modest : (start : List Literal) → Each Lit start → (n : ℕ) (s : State) → state_after setting start n ≡ Some s → Is s
  after-modest start h zero s e =
      let same : starting_state setting start ≡ s = cc in
      subst Is same (started-modest start h)
  after-modest start h (suc n) s e = step-modest (state_after setting start n) s (λ t f. after-modest start h n t f) e
