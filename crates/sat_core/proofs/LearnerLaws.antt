-- What keeps a learner right.
use Rattle.std.proofs.Common.{◌≡◌, ◌≢◌, inl, inr, ◌<◌, ◌≤◌, ◌+◌, ◌-◌, ◌^◌, ℕ, zero, suc, Bool, true, false, List, [], ◌∷◌, ◌++◌, Some, IsTrue, length, take, get_or, refl, sym, ap, ◌∙◌, subst, arith, length-append, append_assoc, append-nil}
use Rattle.std.specs.List.{All, Any, Contains, list_any, slice_get}
use Rattle.std.proofs.lemmas.Bool.{false≢true, cases_order, or_left, or_right}
use Rattle.std.proofs.lemmas.List.{length-map, length-take-le, take-take, take-append-le, take_all, map-append}
use Rattle.std.proofs.lemmas.List.Elements.{All-push, All-weaker, All-contains, All-contains_itself, Contains-append_left, Contains-append_right, Contains-append_cases, Contains-push_cases}
use Rattle.std.proofs.lemmas.List.Quantifiers.{all_pairs_push}
use Rattle.std.proofs.lemmas.Option.{slice_get_within, slice_get-get_or, same_Some}
use Rattle.std.proofs.Math.Seq.{take-append_seam}
use Rattle.sat_base.specs.declared.literal.Var.{Var}
use Rattle.sat_base.specs.declared.literal.SatLit.{SatLit}
use Rattle.sat_base.specs.Literal.{same_var, holds, HoldsNoVariableTwice, IsAlike}
use Rattle.sat_base.proofs.LiteralLaws.{same_var-refl, All-held}
use Rattle.sat_log.specs.declared.chain.Premise.{Premise}
use Rattle.sat_log.specs.declared.chain.Premise.TheVariants.{Clause, Result}
use Rattle.sat_log.specs.declared.log.LogEntry.{LogEntry}
use Rattle.sat_log.specs.Chains.{premise_clause, results}
use Rattle.sat_log.specs.Propagation.{IsNew, Includes}
use Rattle.sat_log.proofs.ChainLaws.{slice_get-before, slice_get-seam}
use Rattle.sat_log.proofs.PropagationLaws.{Reaches-included, ReachesFalse-included, IsNew-apart}
use Rattle.sat_laws.specs.Internal.Counting.{IsAmong}
use Rattle.sat_laws.proofs.CountLaws.{clause_count}
use Rattle.sat_propagate.specs.Internal.Propagator.{texts}
use Rattle.sat_propagate.specs.declared.propagator.Propagator.{Propagator}
use Rattle.sat_propagate.proofs.ListLaws.{get-take}
use Rattle.sat_propagate.proofs.TableLaws.{get_or-any}
use Rattle.sat_core.specs.declared.learner.Learner.{Learner}
use Rattle.sat_core.specs.Solver.{learned_from, AreAmong, IsLearnedFrom, WereLearned}
use Rattle.sat_core.specs.Internal.Learned.{OccursInClauses}
use Rattle.sat_core.specs.Internal.Learner.{IsNamedPropagator, AreInserted, AreLearned, GrewLearner}
use Rattle.sat_core.proofs.AnalysisSteps.{contains_at}

-- 1. Which clauses are inserted

pub AreInserted-within : (n : ℕ) (clauses others more : List (List SatLit)) → Includes others more → AreInserted n clauses others → AreInserted n clauses more
AreInserted-within n clauses others more within inserted = λ k clause h at. within clause (inserted k clause h at)

pub AreInserted-next : (n : ℕ) (clauses others : List (List SatLit)) (next : List SatLit) → slice_get clauses n ≡ Some next → Contains others next
    → AreInserted n clauses others → AreInserted (n + 1) clauses others
AreInserted-next n clauses others next at there inserted = λ k clause h at_k.
    elim (cases_order k n) [
      | inl here ↦ subst (Contains others) (same_Some next clause (sym at ∙ ap (slice_get clauses) (sym here) ∙ at_k)) there
      | inr other ↦ elim other [
        | inl before ↦ inserted k clause before at_k
        | inr after ↦ absurd (omega (arith, h, after))
      ]
    ]

pub AreInserted-append : (n : ℕ) (clauses more others : List (List SatLit)) → n ≤ length clauses → AreInserted n clauses others → AreInserted n (clauses ++ more) others
AreInserted-append n clauses more others made inserted = λ k clause h at.
    inserted k clause h (sym (slice_get-before clauses more k (omega (arith, h, made))) ∙ at)

-- where all are inserted, each is
inserted_all : (n : ℕ) (clauses others : List (List SatLit)) (clause : List SatLit) → length clauses ≤ n → AreInserted n clauses others → Contains clauses clause → Contains others clause
inserted_all n clauses others clause all inserted there =
    let inside = there.1 in
    inserted there.0 clause (omega (arith, inside, all)) (slice_get-get_or clauses there.0 clause inside ∙ ap Some there.2)

pub all_inserted : (n m : ℕ) (clauses results others : List (List SatLit)) → length clauses ≤ n → length results ≤ m → AreInserted n clauses others → AreInserted m results others
    → Includes (clauses ++ results) others
all_inserted n m clauses results others all_clauses all_results clauses_in results_in = λ clause there.
    elim (Contains-append_cases clauses results clause there) [
      | inl first ↦ inserted_all n clauses others clause all_clauses clauses_in first
      | inr second ↦ inserted_all m results others clause all_results results_in second
    ]

-- 2. What was learned

any_from : {X : Type 0} (P : X → Type 0) (xs : List X) (x : X) → Contains xs x → P x → Any P xs
any_from P xs x there holds_of = (there.0, x, there.1, there.2, holds_of)

-- new over more clauses is new over fewer
pub IsNew-fewer : (clauses others : List (List SatLit)) (clause : List SatLit) → Includes clauses others → IsNew others clause → IsNew clauses clause
IsNew-fewer clauses others clause within new = record {
  literal = new.literal;
  member = new.member;
  unreached = λ r. new.unreached (Reaches-included clauses others within _ _ r);
  consistent = λ r. new.consistent (ReachesFalse-included clauses others within _ r);
}

new_is_filled : (clauses : List (List SatLit)) (clause : List SatLit) → IsNew clauses clause → clause ≢ []
new_is_filled clauses clause new empty = false≢true (ap (λ (c : List SatLit). holds c new.literal) (sym empty) ∙ new.member)

pub AreLearned-append : (clauses more learned : List (List SatLit)) → AreLearned clauses learned → AreLearned (clauses ++ more) learned
AreLearned-append clauses more learned l = record {
  filled = l.filled;
  once = l.once;
  apart = l.apart;
  occurring = λ clause k there h.
      let found = l.occurring clause k there h in
      any_from (λ (c : List SatLit). IsTrue (holds c k)) (clauses ++ more) found.1 (Contains-append_left clauses more found.1 (found.0, found.2, found.3)) found.4;
}

pub AreLearned-nil : (clauses : List (List SatLit)) → AreLearned clauses []
AreLearned-nil clauses = record {
  filled = λ clause there. let inside = there.1 in absurd (omega (arith, inside));
  once = λ k d h. absurd (omega (arith, h));
  apart = λ i j d before h. absurd (omega (arith, h));
  occurring = λ clause l there h. let inside = there.1 in absurd (omega (arith, inside));
}

pub AreLearned-push : (clauses learned : List (List SatLit)) (outcome : List SatLit) → AreLearned clauses learned → IsNew (clauses ++ learned) outcome → HoldsNoVariableTwice outcome
    → ((l : SatLit) → holds outcome l ≡ true → Any (λ c. IsTrue (holds c l)) clauses) → AreLearned clauses (learned ++ outcome ∷ [])
AreLearned-push clauses learned outcome before new once occurring = record {
  filled = λ clause there. elim (Contains-push_cases learned outcome clause there) [
    | inl earlier ↦ before.filled clause earlier
    | inr last ↦ subst (λ (c : List SatLit). c ≢ []) last (new_is_filled (clauses ++ learned) outcome new)
  ];
  once = All-push HoldsNoVariableTwice learned outcome before.once once;
  apart = all_pairs_push (λ (a b : List SatLit). ¬ IsAlike a b) learned outcome before.apart (λ k d h.
      IsNew-apart (clauses ++ learned) outcome (get_or learned k d) new
      (Contains-append_right clauses learned (get_or learned k d) (k, h, get_or-any learned k (get_or learned k d) d h)));
  occurring = λ clause l there h. elim (Contains-push_cases learned outcome clause there) [
    | inl earlier ↦ before.occurring clause l earlier h
    | inr last ↦ occurring l (ap (λ (c : List SatLit). holds c l) last ∙ h)
  ];
}

-- clauses were added
pub WereLearned-append : (clauses more learned : List (List SatLit)) → WereLearned clauses learned → WereLearned (clauses ++ more) learned
WereLearned-append clauses more learned w = record {
  there = w.there;
  counted = w.counted;
  in_order = w.in_order;
  within = All-weaker (λ (n : ℕ). n ≤ length clauses) (λ (n : ℕ). n ≤ length (clauses ++ more)) (λ n h. omega (arith, h, length-append clauses more)) w.there w.within;
  each = λ k n clause at_k at.
      subst (λ (front : List (List SatLit)). IsLearnedFrom front (take k learned) clause) (sym (take-append-le n clauses more (at_most w n k at_k))) (w.each k n clause at_k at);
}
  where
    at_most : (w : WereLearned clauses learned) (n k : ℕ) → slice_get w.there k ≡ Some n → n ≤ length clauses
    at_most w n k at_k = All-contains (λ (m : ℕ). m ≤ length clauses) w.there n w.within (contains_at w.there k n at_k)

pub WereLearned-nil : (clauses : List (List SatLit)) → WereLearned clauses []
WereLearned-nil clauses = record {
  there = [];
  counted = refl;
  in_order = λ i j d before h. absurd (omega (arith, h));
  within = λ k d h. absurd (omega (arith, h));
  each = λ k n clause at_k at. let inside = slice_get_within {A = List SatLit} [] k clause at in absurd (omega (arith, inside));
}

-- a clause is learned from all that are there
pub WereLearned-push : (clauses learned : List (List SatLit)) (outcome : List SatLit) → WereLearned clauses learned → IsLearnedFrom clauses learned outcome → WereLearned clauses (learned ++ outcome ∷ [])
WereLearned-push clauses learned outcome before last = record {
  there = before.there ++ length clauses ∷ [];
  counted = omega (arith, before.counted, length-append before.there (length clauses ∷ []), length-append learned (outcome ∷ []));
  in_order = all_pairs_push (λ (n m : ℕ). n ≤ m) before.there (length clauses) before.in_order before.within;
  within = All-push (λ (n : ℕ). n ≤ length clauses) before.there (length clauses) before.within (omega arith);
  each = λ k n clause at_k at.
      elim (cases_order k (length learned)) [
        | inl end ↦
            let all : length clauses ≡ n =
            same_Some _ _ (sym (slice_get-seam before.there (length clauses)) ∙ ap (slice_get (before.there ++ length clauses ∷ [])) (before.counted ∙ sym end) ∙ at_k) in
            let is : outcome ≡ clause = same_Some _ _ (sym (slice_get-seam learned outcome) ∙ ap (slice_get (learned ++ outcome ∷ [])) (sym end) ∙ at) in
            let front : take n clauses ≡ clauses = ap (λ (m : ℕ). take m clauses) (sym all) ∙ take_all (length clauses) clauses (omega arith) in
            let earlier : take k (learned ++ outcome ∷ []) ≡ learned = ap (λ (m : ℕ). take m (learned ++ outcome ∷ [])) end ∙ take-append_seam learned (outcome ∷ []) in
            subst (λ (c : List SatLit). IsLearnedFrom (take n clauses) (take k (learned ++ outcome ∷ [])) c) is
            (subst (λ (list : List (List SatLit)). IsLearnedFrom (take n clauses) list outcome) (sym earlier)
            (subst (λ (list : List (List SatLit)). IsLearnedFrom list learned outcome) (sym front) last))
        | inr other ↦ elim other [
          | inl less ↦
              subst (λ (list : List (List SatLit)). IsLearnedFrom (take n clauses) list clause) (sym (take-append-le k learned (outcome ∷ []) (omega (arith, less))))
              (before.each k n clause (sym (slice_get-before before.there (length clauses ∷ []) k (omega (arith, less, before.counted))) ∙ at_k)
              (sym (slice_get-before learned (outcome ∷ []) k less) ∙ at))
          | inr more ↦ let inside = slice_get_within (learned ++ outcome ∷ []) k clause at in absurd (omega (arith, more, inside, length-append learned (outcome ∷ [])))
        ]
      ];
}

-- a literal of a clause or a learned one occurs in the clauses
pub premise_occurring : (clauses learned : List (List SatLit)) (premise : Premise) (clause : List SatLit) (l : SatLit) → AreLearned clauses learned → premise_clause clauses learned premise ≡ Some clause
    → holds clause l ≡ true → Any (λ c. IsTrue (holds c l)) clauses
premise_occurring clauses learned (Clause n) clause l known e h = any_from (λ (c : List SatLit). IsTrue (holds c l)) clauses clause (contains_at clauses n clause e) h
premise_occurring clauses learned (Result n) clause l known e h = known.occurring clause l (contains_at learned n clause e) h

-- what one more conflict gives is learned, whether it is pushed or not
pub learned_more : (clauses learned : List (List SatLit)) (propagator : Propagator) (names : List Premise) (marks : List Bool) (outcome : List SatLit) → IsNamedPropagator clauses learned propagator names marks
    → AreLearned clauses learned → Includes (clauses ++ learned) (texts propagator.clauses.items) → IsNew (texts propagator.clauses.items) outcome → HoldsNoVariableTwice outcome
    → ((l : SatLit) → holds outcome l ≡ true → OccursInClauses propagator.clauses.items l) → AreLearned clauses (learned ++ outcome ∷ [])
learned_more clauses learned propagator names marks outcome ready known included new once occurring =
    AreLearned-push clauses learned outcome known (IsNew-fewer (clauses ++ learned) (texts propagator.clauses.items) outcome included new) once
    (λ l h. let occurs = occurring l h in
    let name = ready.named occurs.at occurs.watched occurs.there in
    premise_occurring clauses learned name.0 occurs.watched.clause l known name.2 occurs.member)

-- 3. How many clauses there can be

var_among : (variables : List Var) (v : Var) (k : ℕ) → k < length variables → get_or variables k v ≡ v → list_any (same_var v) variables ≡ true
var_among [] v k h e = absurd (omega arith)
var_among (w ∷ variables) v zero h e = or_left _ _ (ap (same_var v) e ∙ same_var-refl v)
var_among (w ∷ variables) v (suc k) h e = or_right (same_var v w) _ (var_among variables v k (omega arith) e)

pub learned_count : (variables : List Var) (clauses learned : List (List SatLit)) → AreAmong variables clauses → AreLearned clauses learned → length learned ≤ 3 ^ length variables
learned_count variables clauses learned among known =
    clause_count variables learned (All-weaker (Contains learned) (IsAmong variables) is_among learned (All-contains_itself learned)) known.once known.apart
  where
    is_among : (clause : List SatLit) → Contains learned clause → IsAmong variables clause
    is_among clause there l h =
        let found = known.occurring clause l there h in
        let each = All-contains (λ (c : List SatLit). All (λ m. Contains variables m.var) c) clauses found.1 among (found.0, found.2, found.3) in
        let var = All-held (λ (m : SatLit). Contains variables m.var) found.1 l each found.4 in
        var_among variables l.var var.0 var.1 var.2

-- 4. The learned clauses among the results

pub learned_open : (is_refuted : Bool) (some : List (List SatLit)) → is_refuted ≡ false → learned_from is_refuted some ≡ some
learned_open true some e = absurd (false≢true (sym e))
learned_open false some e = refl

pub learned_pushed : (some : List (List SatLit)) (last : List SatLit) → learned_from true (some ++ last ∷ []) ≡ some
learned_pushed some last =
    let end : length (some ++ last ∷ []) - 1 ≡ length some = omega (arith, length-append some (last ∷ [])) in
    ap (λ (n : ℕ). take n (some ++ last ∷ [])) end ∙ take-append_seam some (last ∷ [])

-- a learned clause is a result, with the same ones before it
pub learned_at : (is_refuted : Bool) (some : List (List SatLit)) (k : ℕ) (clause : List SatLit) → slice_get (learned_from is_refuted some) k ≡ Some clause
    → (slice_get some k ≡ Some clause) × (take k (learned_from is_refuted some) ≡ take k some)
learned_at false some k clause at = (at, refl)
learned_at true some k clause at =
    let inside = slice_get_within (learned_from true some) k clause at in
    let short : k < length some - 1 = omega (arith, inside, length-take-le (length some - 1) some (omega arith)) in
    (sym (get-take (length some - 1) some k short) ∙ at, take-take k (length some - 1) some (omega (arith, short)))

-- 5. Growth

pub Grew-same : (before after : Learner) → after.clauses ≡ before.clauses → length after.propagator.trail.phases ≡ length before.propagator.trail.phases → after.log ≡ before.log → GrewLearner before after
Grew-same before after clauses made log = record {
  clauses_same = clauses;
  made_same = made;
  more = [];
  appended = log ∙ sym (append-nil before.log);
  new = λ k clause from at filled.
      let inside = slice_get_within (results after.log) k clause at in
      absurd (omega (arith, from, inside, length-map after.log (λ (entry : LogEntry). entry.result), ap (λ (list : List LogEntry). length list) log));
}

pub Grew-trans : (a b c : Learner) → GrewLearner a b → GrewLearner b c → GrewLearner a c
Grew-trans a b c first second = record {
  clauses_same = second.clauses_same ∙ first.clauses_same;
  made_same = second.made_same ∙ first.made_same;
  more = first.more ++ second.more;
  appended = second.appended ∙ ap (λ (list : List LogEntry). list ++ second.more) first.appended ∙ append_assoc a.log first.more second.more;
  new = λ k clause from at filled.
      elim (cases_order k (length b.log)) [
        | inl here ↦ later k clause (omega (arith, here)) at filled
        | inr other ↦ elim other [
          | inl before ↦ earlier k clause from before at filled
          | inr after ↦ later k clause (omega (arith, after)) at filled
        ]
      ];
}
  where
    grown : results c.log ≡ results b.log ++ results second.more
    grown = ap results second.appended ∙ map-append (λ (entry : LogEntry). entry.result) b.log second.more

    later : (k : ℕ) (clause : List SatLit) → length b.log ≤ k → slice_get (results c.log) k ≡ Some clause → clause ≢ [] → IsNew (a.clauses ++ take k (results c.log)) clause
    later k clause from at filled = subst (λ (clauses : List (List SatLit)). IsNew (clauses ++ take k (results c.log)) clause) first.clauses_same (second.new k clause from at filled)

    earlier : (k : ℕ) (clause : List SatLit) → length a.log ≤ k → k < length b.log → slice_get (results c.log) k ≡ Some clause → clause ≢ [] → IsNew (a.clauses ++ take k (results c.log)) clause
    earlier k clause from before at filled =
        let short : k < length (results b.log) = omega (arith, before, length-map b.log (λ (entry : LogEntry). entry.result)) in
        let there : slice_get (results b.log) k ≡ Some clause =
        sym (slice_get-before (results b.log) (results second.more) k short) ∙ ap (λ (list : List (List SatLit)). slice_get list k) (sym grown) ∙ at in
        let same : take k (results c.log) ≡ take k (results b.log) =
        ap (λ (list : List (List SatLit)). take k list) grown ∙ take-append-le k (results b.log) (results second.more) (omega (arith, short)) in
        subst (λ (before_it : List (List SatLit)). IsNew (a.clauses ++ before_it) clause) (sym same) (first.new k clause from there filled)

-- the log has one result more, which is new or the empty clause
pub Grew-pushed : (before after : Learner) (entry : LogEntry) → after.clauses ≡ before.clauses → length after.propagator.trail.phases ≡ length before.propagator.trail.phases
    → after.log ≡ before.log ++ entry ∷ [] → (entry.result ≢ [] → IsNew (before.clauses ++ results before.log) entry.result) → GrewLearner before after
Grew-pushed before after entry clauses made log new = record {
  clauses_same = clauses;
  made_same = made;
  more = entry ∷ [];
  appended = log;
  new = λ k clause from at filled.
      let inside = slice_get_within (results after.log) k clause at in
      let count : length (results after.log) ≡ length before.log + 1 =
      length-map after.log (λ (e : LogEntry). e.result) ∙ ap (λ (list : List LogEntry). length list) log ∙ length-append before.log (entry ∷ []) in
      let end : k ≡ length (results before.log) = omega (arith, from, inside, count, length-map before.log (λ (e : LogEntry). e.result)) in
      let is : entry.result ≡ clause =
      same_Some _ _ (sym (slice_get-seam (results before.log) entry.result) ∙ ap (slice_get (results before.log ++ entry.result ∷ [])) (sym end) ∙ ap (λ (list : List (List SatLit)). slice_get list k) (sym grown) ∙ at) in
      let earlier : take k (results after.log) ≡ results before.log =
      ap (λ (list : List (List SatLit)). take k list) grown ∙ ap (λ (n : ℕ). take n (results before.log ++ entry.result ∷ [])) end ∙ take-append_seam (results before.log) (entry.result ∷ []) in
      subst (λ (list : List (List SatLit)). IsNew (before.clauses ++ list) clause) (sym earlier)
      (subst (λ (c : List SatLit). IsNew (before.clauses ++ results before.log) c) is (new (λ empty. filled (sym is ∙ empty))));
}
  where
    grown : results after.log ≡ results before.log ++ entry.result ∷ []
    grown = ap results log ∙ map-append (λ (e : LogEntry). e.result) before.log (entry ∷ [])
