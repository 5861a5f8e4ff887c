-- No command of a run is due late: where no delay is above 2,000, each is due at most at 2,000 times the commands done, and 2,000.
use Rattle.std.specs.Prelude.{◌≡◌, ◌≤◌, ◌+◌, ◌*◌, ◌==◌, ◌++◌, ◌&&◌, ℕ, zero, suc, Bool, true, false, not, List, [], ◌∷◌, map, filter, Option, Some, None, refl, if◌then◌else◌}
use Rattle.std.specs.List.{list_any, list_all, flat_map}
use Rattle.std.proofs.Common.{ap, subst, arith}
use Rattle.stt_core.specs.SimpleType.{SimpleType, base, arrow, formula, target}
use Rattle.stt_core.specs.Lambda.{all, equality, Lambda, constant, app, eq, every}
use Rattle.stt_core.specs.SameTerm.{same_term}
use Rattle.stt_core.specs.Typing.{type_of}
use Rattle.tableau_calculus.specs.Literals.{Literal, plus, minus}
use Rattle.tableau_calculus.specs.Kinds.{has, formulas}
use Rattle.tableau_calculus.specs.Witnesses.{Row}
use Rattle.tableau_calculus.specs.Each.{Each}
use Rattle.search_spec.specs.Shallow.{is_shallow, is_shallow_literal}
use Rattle.search_spec.specs.Clauses.{instance_clauses, with_clauses}
use Rattle.search_spec.specs.Heads.{heads_for}
use Rattle.search_spec.specs.Partial.{first_hole, whole_term, blank_partial}
use Rattle.search_spec.specs.Spine.{head_of, arguments, is_spine, same_head}
use Rattle.command_queue.specs.declared.entry.Entry.{Entry}
use Rattle.command_queue.specs.Queue.{comes_before}
use Rattle.search_spec.specs.Queue.{new_entries, first_waiting, next_command}
use Rattle.search_spec.specs.State.{State, Setting, Sketch, Command, process, mate, confront, inst, choose, describe, grow, delay, due, with_commands, scope_in}
use Rattle.tableau_calculus.specs.Rules.{Alternatives, bool_pos, bool_neg, fun_pos, fun_neg, all_pos, all_neg, differ, con, cho, des}
use Rattle.search_spec.specs.Instances.{with_literal, with_literals, with_instance}
use Rattle.search_spec.specs.Terms.{terms_of, universals, with_term, with_terms, with_opening, first_terms}
use Rattle.search_spec.specs.Offers.{is_prepared, early_terms, offered_witness, offered_sides, offered_heads}
use Rattle.search_spec.specs.Preparing.{with_beginning, with_preparation}
use Rattle.search_spec.specs.Partners.{matings, confrontations}
use Rattle.search_spec.specs.Selections.{Selection, by_choice, by_description, selections_in, with_selection, with_selections}
use Rattle.search_spec.specs.Witness.{same_row, witness_of, has_hole_of, with_new_witness, with_witness, with_denied}
use Rattle.search_spec.specs.Processing.{with_decomposition, with_confrontations, with_equation, with_universal, with_matings, LiteralRule, connective_rule, with_connective, with_rules, with_processing}
use Rattle.search_spec.specs.Commands.{with_confrontation, with_instantiation, with_growth, growth_by, with_command}
use Rattle.search_spec.specs.After.{nothing_yet, starting_state, with_taken, after_command, next_state, state_after}
use Rattle.search_spec.proofs.NamingLaws.{each-joined, pick_good}

-- no command waits longer than 2,000
abbrev pub AreShort : Setting → Type 0
AreShort setting = (c : Command) → delay setting.mode c ≤ 2000

-- after so many commands, the moment is at most 2,000 times as many, and what waits is due at most 2,000 later
abbrev pub IsPaced : ℕ → State → Type 0
IsPaced n s = (s.done ≡ n) × (s.moment ≤ 2000 * n) × Each (λ q. q.due ≤ 2000 * n + 2000) s.queue

module _ (setting : Setting) (short : AreShort setting) (n : ℕ) where
  abbrev Good : State → Type 0
  Good s = IsPaced n s

  each_due : (now : ℕ) → now ≤ 2000 * n → (k : ℕ) (cs : List Command) → Each (λ q. q.due ≤ 2000 * n + 2000) (new_entries (due setting.mode now) k cs)
  each_due now h k [] = tt
  each_due now h k (c ∷ cs) = (omega (arith, h, short c), each_due now h (suc k) cs)

  pushed-paced : (cs : List Command) (s : State) → Good s → Good (with_commands setting.mode cs s)
  pushed-paced cs s g = (g.0, g.1, each-joined _ s.queue (new_entries (due setting.mode s.moment) s.pushes cs) g.2 (each_due s.moment g.1 s.pushes cs))

  with_literal-paced : (l : Literal) (s : State) → Good s → Good (with_literal setting.mode l s)
  with_literal-paced l s g =
      let more = record s { seen = s.seen ++ l ∷ [] } in
      pick_good Good (has formulas s.seen l) s (with_commands setting.mode (process l ∷ []) more) g (pushed-paced (process l ∷ []) more g)

  with_literals-paced : (ls : List Literal) (s : State) → Good s → Good (with_literals setting.mode ls s)
  with_literals-paced [] s g = g
  with_literals-paced (l ∷ ls) s g = with_literals-paced ls (with_literal setting.mode l s) (with_literal-paced l s g)

  with_instance-paced : (ps : List Literal) (as' : Alternatives) (s : State) → Good s → Good (with_instance setting.mode ps as' s)
  with_instance-paced ps as' s g =
      let added = record s { clauses = with_clauses formulas s.clauses (instance_clauses formulas ps as') } in
      pick_good Good (list_all (list_all is_shallow_literal) as') (with_literals setting.mode (flat_map (λ (a : List Literal). a) as') added) s
      (with_literals-paced (flat_map (λ (a : List Literal). a) as') added g) g

  with_term-paced : (a : SimpleType) (u : Lambda) (s : State) → Good s → Good (with_term setting.mode a u s)
  with_term-paced a u s g =
      let more = record s { terms = s.terms ++ record { type = a; term = u } ∷ [] } in
      let cs : List Command = map (λ l. inst l u) (universals a s) in
      pick_good Good (list_any (same_term u) (terms_of a s)) s (with_commands setting.mode cs more) g (pushed-paced cs more g)

  with_terms-paced : (a : SimpleType) (us : List Lambda) (s : State) → Good s → Good (with_terms setting.mode a us s)
  with_terms-paced a [] s g = g
  with_terms-paced a (u ∷ us) s g = with_terms-paced a us (with_term setting.mode a u s) (with_term-paced a u s g)

  opened-paced : (p : Sketch) (s : State) → Good s → Good (with_opening setting p s)
  opened-paced p s g = pushed-paced (map (grow p) (heads_for s.offers (scope_in setting s) (first_hole [] p.partial))) (record s { parked = s.parked ++ p ∷ [] }) g

  begun-paced : (a : SimpleType) (s : State) → Good s → Good (with_beginning setting a s)
  begun-paced (base k) s g = with_terms-paced (base k) (first_terms (base k)) s g
  begun-paced (arrow a b) s g = opened-paced (record { type = arrow a b; partial = blank_partial (arrow a b) }) s g

  prepared-paced : (a : SimpleType) (s : State) → Good s → Good (with_preparation setting a s)
  prepared-paced a s g =
      let us = early_terms setting.mode a s in
      let more = with_terms setting.mode a us s in
      pick_good Good (is_prepared setting.mode a s) s (with_beginning setting a more) g (begun-paced a more (with_terms-paced a us s g))

  with_selection-paced : (p : Selection) (s : State) → Good s → Good (with_selection setting.mode p s)
  with_selection-paced (by_choice a f) s g =
      let more = record s { chosen = s.chosen ++ f ∷ [] } in
      pick_good Good (list_any (same_term f) s.chosen) s (with_commands setting.mode (choose a f ∷ []) more) g (pushed-paced (choose a f ∷ []) more g)
  with_selection-paced (by_description a f) s g =
      let more = record s { described = s.described ++ f ∷ [] } in
      pick_good Good (list_any (same_term f) s.described) s (with_commands setting.mode (describe a f ∷ []) more) g (pushed-paced (describe a f ∷ []) more g)

  with_selections-paced : (ps : List Selection) (s : State) → Good s → Good (with_selections setting.mode ps s)
  with_selections-paced [] s g = g
  with_selections-paced (p ∷ ps) s g = with_selections-paced ps (with_selection setting.mode p s) (with_selection-paced p s g)

  decomposed-paced : (a : SimpleType) (u v : Lambda) (s : State) → Good s → Good (with_decomposition setting a u v s)
  decomposed-paced a u v s g =
      let as' = differ (type_of (scope_in setting s) [] (head_of u)) (arguments u) (arguments v) in
      pick_good Good (is_spine u && same_head u v) (with_instance setting.mode (minus (eq a u v) ∷ []) as' s) s (with_instance-paced (minus (eq a u v) ∷ []) as' s g) g

  confronted-paced : (a : SimpleType) (l : Literal) (s : State) → Good s → Good (with_confrontations setting a l s)
  confronted-paced a l s g = pushed-paced (confrontations a l s.noted) s g

  equated-paced : (a : SimpleType) (sign : Bool) (u v : Lambda) (s : State) → Good s → Good (with_equation setting a sign u v s)
  equated-paced (base zero) true u v s g = with_instance-paced (plus (eq formula u v) ∷ []) (bool_pos u v) s g
  equated-paced (base zero) false u v s g = with_instance-paced (minus (eq formula u v) ∷ []) (bool_neg u v) s g
  equated-paced (arrow a b) true u v s g = with_instance-paced (plus (eq (arrow a b) u v) ∷ []) (fun_pos a b u v) s g
  equated-paced (arrow a b) false u v s g =
      let us = offered_sides setting.mode u v in
      with_instance-paced (minus (eq (arrow a b) u v) ∷ []) (fun_neg a b u v) (with_terms setting.mode (arrow a b) us s) (with_terms-paced (arrow a b) us s g)
  equated-paced (base (suc k)) true u v s g = confronted-paced (base (suc k)) (plus (eq (base (suc k)) u v)) s g
  equated-paced (base (suc k)) false u v s g =
      let b = base (suc k) in
      let first = with_term setting.mode b u s in
      let second = with_term setting.mode b v first in
      confronted-paced b (minus (eq b u v)) (with_decomposition setting b u v second) (decomposed-paced b u v second (with_term-paced b v first (with_term-paced b u s g)))

  quantified-paced : (a : SimpleType) (f : Lambda) (s : State) → Good s → Good (with_universal setting a f s)
  quantified-paced a f s g =
      let ready = with_preparation setting a s in
      pushed-paced (map (inst (plus (every a f))) (terms_of a ready)) ready (prepared-paced a s g)

  mated-paced : (l : Literal) (s : State) → Good s → Good (with_matings setting l s)
  mated-paced l s g = pick_good Good (is_spine l.atom) (with_commands setting.mode (matings l s.noted) s) s (pushed-paced (matings l s.noted) s g) g

  witnessed-paced : (a : SimpleType) (f : Lambda) (s : State) → Good s → Good (with_witness setting a f s)
  witnessed-paced a f s g =
      let r : Row = record { type = a; predicate = f } in
      let w = witness_of s.rows r in
      let wide = record s { rows = s.rows ++ r ∷ [] } in
      let l = minus (every a f) ∷ [] in
      let added = with_instance setting.mode l (all_neg a f w) wide in
      pick_good Good (list_any (same_row r) s.rows) (with_instance setting.mode l (all_neg a f w) s) (with_new_witness setting a w added)
      (with_instance-paced l (all_neg a f w) s g)
      (pushed-paced (map (λ p. grow p w) (filter (has_hole_of (target a)) added.parked)) added (with_instance-paced l (all_neg a f w) wide g))

  denied-paced : (a : SimpleType) (f : Lambda) (s : State) → Good s → Good (with_denied setting a f s)
  denied-paced a f s g =
      let r : Row = record { type = a; predicate = f } in
      let done = with_witness setting a f s in
      let us = offered_witness setting.mode a (witness_of s.rows r) done in
      let k = witnessed-paced a f s g in
      pick_good Good (list_any (same_row r) s.rows) done (with_terms setting.mode a us done) k (with_terms-paced a us done k)

  connected-paced : (l : Literal) (o : Option (LiteralRule l)) (s : State) → Good s → Good (with_connective l setting o s)
  connected-paced l (Some rule) s g = with_instance-paced (l ∷ []) rule.alternatives s g
  connected-paced l None s g = mated-paced l s g

  worked-paced : (sign : Bool) (t : Lambda) (s : State) → Good s → Good (with_rules setting sign t s)
  worked-paced true (app (app (constant (equality a)) u) v) s g = equated-paced a true u v s g
  worked-paced false (app (app (constant (equality a)) u) v) s g =
      pick_good Good (same_term u v) (with_instance setting.mode (minus (eq a u v) ∷ []) [] s) (with_equation setting a false u v s)
      (with_instance-paced (minus (eq a u v) ∷ []) [] s g) (equated-paced a false u v s g)
  worked-paced true (app (constant (all a)) f) s g = quantified-paced a f s g
  worked-paced false (app (constant (all a)) f) s g = denied-paced a f s g
  worked-paced sign t s g = connected-paced (record { positive = sign; atom = t }) (connective_rule t sign) s g

  processed-paced : (l : Literal) (s : State) → Good s → Good (with_processing setting l s)
  processed-paced l s g =
      let done = with_rules setting l.positive l.atom s in
      with_selections-paced (selections_in l.atom) (record done { noted = done.noted ++ l ∷ [] }) (worked-paced l.positive l.atom s g)

  confronted_pair-paced : (l m : Literal) (t u : Lambda) (s : State) → Good s → Good (with_confrontation setting l m t u s)
  confronted_pair-paced l m (app (app (constant (equality a)) x) y) (app (app c u) v) s g = with_instance-paced (l ∷ m ∷ []) (con a x y u v) s g
  confronted_pair-paced l m t u s g = g

  instantiated-paced : (l : Literal) (t u : Lambda) (s : State) → Good s → Good (with_instantiation setting l t u s)
  instantiated-paced l (app (constant (all a)) f) u s g =
      pick_good Good (is_shallow u) (with_instance setting.mode (l ∷ []) (all_pos f u) s) s (with_instance-paced (l ∷ []) (all_pos f u) s g) g
  instantiated-paced l t u s g = g

  grown-paced : (p : Sketch) (o : Option Lambda) (s : State) → Good s → Good (with_growth setting p o s)
  grown-paced p (Some u) s g = with_term-paced p.type u s g
  grown-paced p None s g = opened-paced p s g

  carried_out-paced : (c : Command) (s : State) → Good s → Good (with_command setting c s)
  carried_out-paced (process l) s g = processed-paced l s g
  carried_out-paced (mate l m) s g = with_instance-paced (l ∷ m ∷ []) (differ (type_of (scope_in setting s) [] (head_of l.atom)) (arguments l.atom) (arguments m.atom)) s g
  carried_out-paced (confront l m) s g = confronted_pair-paced l m l.atom m.atom s g
  carried_out-paced (inst l u) s g = instantiated-paced l l.atom u s g
  carried_out-paced (choose a f) s g = with_instance-paced [] (cho a f) s g
  carried_out-paced (describe a f) s g = with_instance-paced [] (des a f) s g
  carried_out-paced (grow p h) s g =
      let q = growth_by (scope_in setting s) h p in
      grown-paced q (whole_term q.partial) s g

first_good : (P : Entry Command → Type 0) (q : Entry Command) (qs : List (Entry Command)) → P q → Each P qs → P (first_waiting q qs)
first_good P q [] h k = h
first_good P q (p ∷ ps) h k = first_good P (if comes_before p q then p else q) ps (pick_good P (comes_before p q) p q k.0 h) k.1

module _ (setting : Setting) (short : AreShort setting) where
  later_due : (n : ℕ) (test : Entry Command → Bool) (qs : List (Entry Command)) → Each (λ q. q.due ≤ 2000 * n + 2000) qs → Each (λ q. q.due ≤ 2000 * suc n + 2000) (filter test qs)
  later_due n test [] h = tt
  later_due n test (q ∷ qs) h = by_test (test q) (later_due n test qs h.1)
    where
      by_test : (b : Bool) → Each (λ p. p.due ≤ 2000 * suc n + 2000) (filter test qs) → Each (λ p. p.due ≤ 2000 * suc n + 2000) (if b then q ∷ filter test qs else filter test qs)
      by_test true rest = (omega (arith, h.0), rest)
      by_test false rest = rest

  taken-paced : (n : ℕ) (first : Entry Command) (s : State) → first.due ≤ 2000 * n + 2000 → IsPaced n s → IsPaced (suc n) (with_taken setting first s)
  taken-paced n first s h g = (
    ap suc g.0,
    pick_good (λ m. m ≤ 2000 * suc n) (setting.mode.clock == 0) (suc s.done) first.due (omega (arith, g.0)) (omega (arith, h)),
    later_due n (λ q. not (q.number == first.number)) s.queue g.2,
  )

  next-paced : (n : ℕ) (s t : State) → IsPaced n s → (qs : List (Entry Command)) → Each (λ q. q.due ≤ 2000 * n + 2000) qs → after_command setting (next_command qs) s ≡ Some t → IsPaced (suc n) t
  next-paced n s t g [] h e = cc
  next-paced n s t g (q ∷ qs) h e =
      let first = first_waiting q qs in
      let P : State → Type 0 = λ x. IsPaced (suc n) x in
      let same : with_command setting first.command (with_taken setting first s) ≡ t = cc in
      subst P same (carried_out-paced setting short (suc n) first.command (with_taken setting first s) (taken-paced n first s (first_good (λ p. p.due ≤ 2000 * n + 2000) q qs h.0 h.1) g))

  step-paced : (n : ℕ) (o : Option State) (t : State) → ((s : State) → o ≡ Some s → IsPaced n s) → next_state setting o ≡ Some t → IsPaced (suc n) t
  step-paced n None t h e = cc
  step-paced n (Some s) t h e = let g = h s refl in next-paced n s t g s.queue g.2 e

  started-paced : (start : List Literal) → IsPaced 0 (starting_state setting start)
  started-paced start =
      let ls = filter is_shallow_literal start in
      pushed-paced setting short 0 (map process ls) (record nothing_yet { clauses = map (λ l. l ∷ []) ls; seen = ls; offers = offered_heads setting.mode setting.scope ls }) (refl, omega arith, tt)

  -- no command of a run is due late
  pub after-paced : (start : List Literal) (n : ℕ) (s : State) → state_after setting start n ≡ Some s → IsPaced n s
  after-paced start zero s e =
      let P : State → Type 0 = λ x. IsPaced 0 x in
      let same : starting_state setting start ≡ s = cc in
      subst P same (started-paced start)
  after-paced start (suc n) s e = step-paced n (state_after setting start n) s (λ t f. after-paced start n t f) e
