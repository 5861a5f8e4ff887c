-- Commands keep a state typed, and so every state of a run is.
use Rattle.std.specs.Prelude.{◌≡◌, ◌==◌, ℕ, zero, suc, not, List, [], ◌∷◌, ◌++◌, map, filter, Option, Some, None, refl, if◌then◌else◌}
use Rattle.std.proofs.Common.{sym, ap, ◌∙◌, subst, append_assoc}
use Rattle.stt_core.specs.SimpleType.{base, arrow, formula}
use Rattle.stt_core.specs.Lambda.{Lambda, constant, app, applied, eq}
use Rattle.stt_core.specs.Typing.{Scope, IsScope, type_of}
use Rattle.stt_core.specs.Canonical.{IsCanonical}
use Rattle.tableau_calculus.specs.Literals.{Literal, IsLiteral, IsBranch}
use Rattle.tableau_calculus.specs.Witnesses.{with_rows}
use Rattle.tableau_calculus.specs.Rules.{all_pos_rule, mat_rule, con_rule, cho_rule, des_rule, Alternatives, all_pos, differ, con, cho, des}
use Rattle.tableau_calculus.specs.declared.rule_use.RuleUse.TheVariants.{AtTwo, AllPos, WithPredicate}
use Rattle.tableau_calculus.specs.declared.rule_use.TwoPlaces.TheVariants.{Mat, Con}
use Rattle.tableau_calculus.specs.declared.rule_use.OfPredicate.TheVariants.{Cho, Des}
use Rattle.tableau_calculus.specs.Each.{Each}
use Rattle.search_spec.specs.Shallow.{is_shallow, is_shallow_literal}
use Rattle.search_spec.specs.Spine.{head_of, arguments}
use Rattle.search_spec.specs.Queue.{first_waiting, next_command}
use Rattle.command_queue.specs.declared.entry.Entry.{Entry}
use Rattle.command_queue.specs.Queue.{comes_before}
use Rattle.search_spec.specs.State.{State, Setting, Command, process, mate, confront, inst, choose, describe, grow}
use Rattle.search_spec.specs.Instances.{with_instance}
use Rattle.search_spec.specs.Commands.{with_mating, with_confrontation, with_instantiation, with_command}
use Rattle.search_spec.specs.Offers.{offered_heads}
use Rattle.search_spec.specs.After.{nothing_yet, starting_state, with_taken, after_command, next_state, state_after}
use Rattle.search_spec.specs.TypedState.{Mates, Confronts, Instantiates, IsTypedCommand, IsTypedStateWith, IsTypedState}
use Rattle.search_spec.proofs.NamingLaws.{pick_good}
use Rattle.search_spec.proofs.TypedAlternatives.{alternatives_typed}
use Rattle.search_spec.proofs.TypedPushes.{each_mapped, each_filtered, pushed-typed, with_instance-typed}
use Rattle.search_spec.proofs.TypedOpening.{grow-typed}
use Rattle.search_spec.proofs.TypedPartners.{head_function}
use Rattle.search_spec.proofs.TypedProcessing.{spines_differ}
use Rattle.search_spec.proofs.RowLaws.{table_scope}
use Rattle.search_spec.proofs.TypedRun.{processed-typed, whole_state}

head_of-applied : (t : Lambda) (us : List Lambda) → head_of (applied t us) ≡ head_of t
head_of-applied t [] = refl
head_of-applied t (u ∷ us) = head_of-applied (app t u) us

joined_nil : {X : Type 0} (xs : List X) → xs ≡ xs ++ []
joined_nil [] = refl
joined_nil (x ∷ xs) = ap (λ ys. x ∷ ys) (joined_nil xs)

arguments-applied : (t : Lambda) (us : List Lambda) → arguments (applied t us) ≡ arguments t ++ us
arguments-applied t [] = joined_nil (arguments t)
arguments-applied t (u ∷ us) = arguments-applied (app t u) us ∙ append_assoc (arguments t) (u ∷ []) us

first_good : (P : Entry Command → Type 0) (q : Entry Command) (qs : List (Entry Command)) → P q → Each P qs → P (first_waiting q qs)
first_good P q [] h k = h
first_good P q (p ∷ ps) h k = first_good P (if comes_before p q then p else q) ps (pick_good P (comes_before p q) p q k.0 h) k.1

module _ (setting : Setting) (over : IsScope setting.scope) (s : State) (state : IsTypedState setting s) where
  abbrev here : Scope
  here = with_rows setting.scope s.rows

  good : IsScope here
  good = table_scope setting.scope s.rows over state.table

  whole : (t : State) → IsTypedStateWith setting s.rows t → IsTypedState setting t
  whole t g = whole_state setting over s.rows t state.table g

  mate-typed : (l m : Literal) → Mates here l m → IsTypedStateWith setting s.rows (with_mating setting l m s)
  mate-typed l m h =
      let c = h.head in
      let lits : l.atom ≡ applied (constant c) (h.s ∷ h.ss) = ap (λ x. x.atom) h.is_positive in
      let mits : m.atom ≡ applied (constant c) (h.t ∷ h.ts) = ap (λ x. x.atom) h.is_negative in
      let P : Lambda → Type 0 = λ u. IsCanonical here [] formula u in
      let f = head_function here (constant c) h.s h.ss formula (subst P lits h.positive.formula) in
      let L : Literal → Type 0 = λ x. IsLiteral here x in
      let typed = alternatives_typed here good s.rows refl (AtTwo Mat 0 1) _ _ (mat_rule 0 1 c (arrow f.0 f.1) h.s h.t h.ss h.ts h.compared f.2) (subst L h.is_positive h.positive, (subst L h.is_negative h.negative, tt)) in
      let same = spines_differ setting s.rows good l.atom m.atom c (arrow f.0 f.1) h.s h.ss h.t h.ts
      (ap head_of lits ∙ head_of-applied (constant c) (h.s ∷ h.ss))
      (ap arguments lits ∙ arguments-applied (constant c) (h.s ∷ h.ss))
      (ap arguments mits ∙ arguments-applied (constant c) (h.t ∷ h.ts)) f.2 in
      let D : Alternatives → Type 0 = λ as'. Each (IsBranch here) as' in
      with_instance-typed setting s.rows (l ∷ m ∷ []) (differ (type_of here [] (head_of l.atom)) (arguments l.atom) (arguments m.atom)) s (subst D (sym same) typed) state.typed

  confront-typed : (l m : Literal) → Confronts here l m → IsTypedStateWith setting s.rows (with_confrontation setting l m l.atom m.atom s)
  confront-typed l m h =
      let b = base (suc h.n) in
      let P : Lambda → Type 0 = λ x. IsTypedStateWith setting s.rows (with_confrontation setting l m x m.atom s) in
      let Q : Lambda → Type 0 = λ y. IsTypedStateWith setting s.rows (with_confrontation setting l m (eq b h.s h.t) y s) in
      let L : Literal → Type 0 = λ x. IsLiteral here x in
      let typed = alternatives_typed here good s.rows refl (AtTwo Con 0 1) _ _ (con_rule 0 1 h.n h.s h.t h.u h.v) (subst L h.is_positive h.positive, (subst L h.is_negative h.negative, tt)) in
      subst P (sym (ap (λ x. x.atom) h.is_positive)) (subst Q (sym (ap (λ x. x.atom) h.is_negative)) (with_instance-typed setting s.rows (l ∷ m ∷ []) (con b h.s h.t h.u h.v) s typed state.typed))

  inst-typed : (l : Literal) (u : Lambda) → Instantiates here l u → IsTypedStateWith setting s.rows (with_instantiation setting l l.atom u s)
  inst-typed l u h =
      let P : Lambda → Type 0 = λ x. IsTypedStateWith setting s.rows (with_instantiation setting l x u s) in
      let L : Literal → Type 0 = λ x. IsLiteral here x in
      let typed = alternatives_typed here good s.rows refl (AllPos 0 u) _ _ (all_pos_rule 0 h.type h.predicate u h.argument) (subst L h.is_universal h.literal, tt) in
      subst P (sym (ap (λ x. x.atom) h.is_universal))
      (pick_good (IsTypedStateWith setting s.rows) (is_shallow u) (with_instance setting.mode (l ∷ []) (all_pos h.predicate u) s) s
      (with_instance-typed setting s.rows (l ∷ []) (all_pos h.predicate u) s typed state.typed) state.typed)

  carried_out-typed : (c : Command) → IsTypedCommand here c → IsTypedState setting (with_command setting c s)
  carried_out-typed (process l) h = processed-typed setting over l s state h
  carried_out-typed (mate l m) h = whole _ (mate-typed l m h)
  carried_out-typed (confront l m) h = whole _ (confront-typed l m h)
  carried_out-typed (inst l u) h = whole _ (inst-typed l u h)
  carried_out-typed (choose a f) h = whole _ (with_instance-typed setting s.rows [] (cho a f) s (alternatives_typed here good s.rows refl (WithPredicate Cho f) _ _ (cho_rule a f h) tt) state.typed)
  carried_out-typed (describe a f) h = whole _ (with_instance-typed setting s.rows [] (des a f) s (alternatives_typed here good s.rows refl (WithPredicate Des f) _ _ (des_rule a f h) tt) state.typed)
  carried_out-typed (grow p t) h = whole _ (grow-typed setting s.rows good p t s h state.typed)

module _ (setting : Setting) (over : IsScope setting.scope) where
  taken-typed : (first : Entry Command) (s : State) → IsTypedState setting s → IsTypedState setting (with_taken setting first s)
  taken-typed first s state =
      let g = state.typed in
      record {
        table = state.table;
        typed = record {
          are_rows = refl;
          noted = g.noted;
          terms = g.terms;
          parked = g.parked;
          queue = each_filtered (λ (q : Entry Command). IsTypedCommand (with_rows setting.scope s.rows) q.command) (λ q. IsTypedCommand (with_rows setting.scope s.rows) q.command) (λ q. not (q.number == first.number)) (λ q h e. h) s.queue g.queue;
        };
      }

  next-typed : (s t : State) → IsTypedState setting s → (qs : List (Entry Command)) → Each (λ q. IsTypedCommand (with_rows setting.scope s.rows) q.command) qs → after_command setting (next_command qs) s ≡ Some t → IsTypedState setting t
  next-typed s t state [] h e = cc
  next-typed s t state (q ∷ qs) h e =
      let first = first_waiting q qs in
      let typed = first_good (λ p. IsTypedCommand (with_rows setting.scope s.rows) p.command) q qs h.0 h.1 in
      let P : State → Type 0 = λ x. IsTypedState setting x in
      let same : with_command setting first.command (with_taken setting first s) ≡ t = cc in
      subst P same (carried_out-typed setting over (with_taken setting first s) (taken-typed first s state) first.command typed)

  step-typed : (o : Option State) (t : State) → ((s : State) → o ≡ Some s → IsTypedState setting s) → next_state setting o ≡ Some t → IsTypedState setting t
  step-typed None t h e = cc
  step-typed (Some s) t h e = let state = h s refl in next-typed s t state s.queue state.typed.queue e

  shallow_each : (ls : List Literal) → IsBranch (with_rows setting.scope []) ls → Each (IsLiteral (with_rows setting.scope [])) ls
  shallow_each [] h = tt
  shallow_each (l ∷ ls) h = (h.0, shallow_each ls h.1)

  started-typed : (start : List Literal) → IsBranch (with_rows setting.scope []) start → IsTypedState setting (starting_state setting start)
  started-typed start h =
      let ls = filter is_shallow_literal start in
      let cs = map process ls in
      let first = record nothing_yet { clauses = map (λ l. l ∷ []) ls; seen = ls; offers = offered_heads setting.mode setting.scope ls } in
      let typed = each_mapped (IsLiteral (with_rows setting.scope [])) (IsTypedCommand (with_rows setting.scope [])) process (λ l k. k) ls
      (each_filtered (IsLiteral (with_rows setting.scope [])) (IsLiteral (with_rows setting.scope [])) is_shallow_literal (λ l k e. k) start (shallow_each start h)) in
      record { table = tt; typed = pushed-typed setting [] cs first typed (record { are_rows = refl; noted = tt; terms = tt; parked = tt; queue = tt }) }

  -- every state of a run is typed
  pub after-typed : (start : List Literal) → IsBranch (with_rows setting.scope []) start → (n : ℕ) (s : State) → state_after setting start n ≡ Some s → IsTypedState setting s
  after-typed start h zero s e =
      let P : State → Type 0 = λ x. IsTypedState setting x in
      let same : starting_state setting start ≡ s = cc in
      subst P same (started-typed start h)
  after-typed start h (suc n) s e = step-typed (state_after setting start n) s (λ t f. after-typed start h n t f) e
