-- Flags of what the chain of the last result reaches.
use Rattle.std.proofs.Common.{◌≡◌, ◌<◌, ◌≤◌, ◌+◌, ◌||◌, ◌&&◌, ◌⊎◌, nat_eq, ℕ, zero, suc, Bool, true, false, List, [], ◌∷◌, length, take, replicate, get_or, set, slice_set, Option, Some, None, slice_get, slice_index_or, Contains, refl, sym, ap, ◌∙◌, subst, inl, inr, arith}
use Rattle.std.specs.List.{All, list_any}
use Rattle.std.proofs.lemmas.Bool.{false≢true, and_parts, and_from, or_cases, or_left, or_right, eqb-true, eq-eqb}
use Rattle.std.proofs.lemmas.List.{get_or-set_same, get_or-set_other}
use Rattle.std.proofs.lemmas.List.Elements.{All-nil, All-cons, All-contains}
use Rattle.tableau_calculus.proofs.ListLaws.{contains-first, contains-later, contains_cases}
use Rattle.sat_base.specs.declared.literal.SatLit.{SatLit}
use Rattle.sat_log.specs.declared.chain.Premise.{Premise}
use Rattle.sat_log.specs.declared.chain.Premise.TheVariants.{Clause, Result}
use Rattle.sat_log.specs.declared.chain.ChainStep.{ChainStep}
use Rattle.sat_log.specs.declared.chain.Chain.{Chain}
use Rattle.sat_log.specs.declared.log.LogEntry.{LogEntry}
use Rattle.sat_log.specs.Resolution.{resolved}
use Rattle.sat_log.specs.Chains.{premise_clause, after_step, after_steps, results, IsLogOver}
use Rattle.sat_log.proofs.ChainLaws.{and_then-Some}
use Rattle.tableau_clauses.specs.Table.{Table, the_clauses}
use Rattle.rebuild_spec.specs.Trees.{Place, at_clause, at_step, at_result, same_place}
use Rattle.rebuild_spec.specs.Stands.{premise_place}
use Rattle.rebuild_spec.specs.Used.{IsUsed, last_result, first_of, step_of}
use Rattle.rebuild_spec.proofs.WalkLaws.{same_place-refl}
use Rattle.rebuild_spec.proofs.StandsLaws.{same_place-true}
use Rattle.tableau_rebuild.specs.declared.reached.Reached.{Reached}
use Rattle.tableau_rebuild.specs.UsedInstances.{IsUsedInstance}
use Rattle.tableau_rebuild.specs.Internal.Arenas.{IsThere}
use Rattle.tableau_rebuild.specs.Internal.Flags.{flagged, is_premise, is_premise_of, is_premise_in, ArePremisesThere, AreFlagsOf, IsFlaggedOrigin, HasFlaggedOrigin}
use Rattle.tableau_rebuild.proofs.ChainLaws.{there_later, premise_in, first_facts}

-- BITS

or_false : (b : Bool) → b ≡ (b || false)
or_false true = refl
or_false false = refl

-- a flag after one is set
set_flag : (flags : List Bool) (n m : ℕ) → n < length flags → get_or (set flags n true) m false ≡ (get_or flags m false || nat_eq n m)
set_flag flags n m l = go (nat_eq n m) refl
  where
    go : (b : Bool) → nat_eq n m ≡ b → get_or (set flags n true) m false ≡ (get_or flags m false || b)
    go true e =
        let same : n ≡ m = eqb-true n m e in
        ap (λ k. get_or (set flags n true) k false) (sym same) ∙ get_or-set_same flags n true false l ∙ sym (or_right (get_or flags m false) true refl)
    go false e = get_or-set_other flags n m true false (λ same. false≢true (sym e ∙ eq-eqb n m (sym same))) ∙ or_false (get_or flags m false)

module _ (old new : Reached) where
  pub marked_clause : (n : ℕ) → n < length old.clauses.items → new.clauses.items ≡ slice_set old.clauses.items n true → new.results.items ≡ old.results.items → (p : Place) → flagged new p ≡ (flagged old p || same_place (at_clause n) p)
  marked_clause n l e f (at_clause m) = ap (λ xs. slice_index_or xs m false) e ∙ set_flag old.clauses.items n m l
  marked_clause n l e f (at_step m k) = refl
  marked_clause n l e f (at_result m) = ap (λ xs. slice_index_or xs m false) f ∙ or_false (slice_index_or old.results.items m false)

  pub marked_result : (n : ℕ) → n < length old.results.items → new.results.items ≡ slice_set old.results.items n true → new.clauses.items ≡ old.clauses.items → (p : Place) → flagged new p ≡ (flagged old p || same_place (at_result n) p)
  marked_result n l e f (at_result m) = ap (λ xs. slice_index_or xs m false) e ∙ set_flag old.results.items n m l
  marked_result n l e f (at_step m k) = refl
  marked_result n l e f (at_clause m) = ap (λ xs. slice_index_or xs m false) f ∙ or_false (slice_index_or old.clauses.items m false)

-- CHAINS

abbrev pub any_premise : List ChainStep → Place → Bool
any_premise steps p = list_any (λ step. same_place (premise_place step.premise) p) steps

any_there : {A : Type 0} (f : A → Bool) (xs : List A) (x : A) → Contains xs x → f x ≡ true → list_any f xs ≡ true
any_there f [] x h e = absurd (omega (arith, h.1))
any_there f (y ∷ xs) x h e = contains_cases (list_any f (y ∷ xs) ≡ true) x y xs h (λ same. or_left (f y) (list_any f xs) (ap f same ∙ e)) (λ later. or_right (f y) (list_any f xs) (any_there f xs x later e))

any_found : {A : Type 0} (f : A → Bool) (xs : List A) → list_any f xs ≡ true → (x : A) × Contains xs x × (f x ≡ true)
any_found f [] h = absurd (false≢true h)
any_found f (y ∷ xs) h =
    elim (or_cases (f y) (list_any f xs) h) [
      | inl e ↦ (y, contains-first y xs, e)
      | inr later ↦ let r = any_found f xs later in (r.0, contains-later r.0 y xs r.1, r.2)
    ]

module _ (t : Table) (log : List LogEntry) where
  module _ (right : IsLogOver (the_clauses t) log) where
    steps_there : (n : ℕ) (steps : List ChainStep) (c r : List SatLit) → after_steps (the_clauses t) (results (take n log)) c steps ≡ Some r → All (λ (s : ChainStep). IsThere (length (the_clauses t)) n s.premise) steps
    steps_there n [] c r h = All-nil (λ (s : ChainStep). IsThere (length (the_clauses t)) n s.premise)
    steps_there n (s ∷ steps) c r h =
        let clauses = the_clauses t in
        let outcomes = results (take n log) in
        let next = and_then-Some (λ d. after_steps clauses outcomes d steps) (after_step clauses outcomes c s) r h in
        let premise = and_then-Some (resolved s.var c) (premise_clause clauses outcomes s.premise) next.0 next.1 in
        All-cons (λ (s : ChainStep). IsThere (length (the_clauses t)) n s.premise) s steps (premise_in t log n s.premise premise.0 premise.1).0 (steps_there n steps next.0 r next.2)

    -- the premises of a result's chain are clauses and earlier results
    pub entry_premises : (n : ℕ) (entry : LogEntry) → slice_get log n ≡ Some entry → ArePremisesThere (length (the_clauses t)) n entry.chain
    entry_premises n entry at =
        let facts = first_facts t log right n entry.chain (ap (λ o. chain_in o) at) in
        record { first = facts.there; steps = steps_there n entry.chain.steps facts.premise entry.result (facts.ahead entry at) }
      where
        chain_in : Option LogEntry → Option Chain
        chain_in o = elim o [ None ↦ None | Some e ↦ Some e.chain ]

  pub premises_later : (m n : ℕ) (chain : Chain) → m ≤ n → ArePremisesThere (length (the_clauses t)) m chain → ArePremisesThere (length (the_clauses t)) n chain
  premises_later m n chain l h = record { first = there_later t log m n chain.first l h.first; steps = λ k d inside. there_later t log m n (slice_index_or chain.steps k d).premise l (h.steps k d inside) }

  -- a premise at a place of its own
  premise_of_chain : (P : Type 0) (chain : Chain) (p : Place) → is_premise chain p ≡ true → (p ≡ premise_place chain.first → P) → ((step : ChainStep) → Contains chain.steps step → p ≡ premise_place step.premise → P) → P
  premise_of_chain P chain p h first step =
      elim (or_cases (same_place (premise_place chain.first) p) (any_premise chain.steps p) h) [
        | inl e ↦ first (sym (same_place-true (premise_place chain.first) p e))
        | inr e ↦
            let found = any_found (λ (s : ChainStep). same_place (premise_place s.premise) p) chain.steps e in
            step found.0 found.1 (sym (same_place-true (premise_place found.0.premise) p found.2))
      ]

  result_below : (m n : ℕ) (p : Premise) → at_result m ≡ premise_place p → IsThere (length (the_clauses t)) n p → m < n
  result_below m n (Clause k) e h = cc
  result_below m n (Result k) e h = let same : m ≡ k = cc in omega (arith, same, h)

  -- the entry of a premise
  entry_of : (n : ℕ) (p : Place) (o : Option LogEntry) → slice_get log n ≡ o → is_premise_of o p ≡ true → (entry : LogEntry) × (slice_get log n ≡ Some entry) × (is_premise entry.chain p ≡ true)
  entry_of n p None e h = absurd (false≢true h)
  entry_of n p (Some entry) e h = (entry, e, h)

  -- a premise of what is used is used
  used_premise : (n : ℕ) (p : Place) → IsUsed log (at_result n) → is_premise_in log n p ≡ true → IsUsed log p
  used_premise n p used h =
      let found = entry_of n p (slice_get log n) refl h in
      premise_of_chain (IsUsed log p) found.0.chain p found.2 (λ e. subst (IsUsed log) (sym e) (first_of n found.0 found.1 used))
      (λ step there e. subst (IsUsed log) (sym e) (step_of n found.0 step found.1 used there))

  module _ (right : IsLogOver (the_clauses t) log) where
    premise_below : (n m : ℕ) → is_premise_in log n (at_result m) ≡ true → m < n
    premise_below n m h =
        let found = entry_of n (at_result m) (slice_get log n) refl h in
        let there = entry_premises right n found.0 found.1 in
        premise_of_chain (m < n) found.0.chain (at_result m) found.2 (λ e. result_below m n found.0.chain.first e there.first)
        (λ step contained e. result_below m n step.premise e (All-contains (λ (s : ChainStep). IsThere (length (the_clauses t)) n s.premise) found.0.chain.steps step there.steps contained))

    -- the premises of a result more are marked
    pub flags_more : (n : ℕ) (old new : Reached) → AreFlagsOf t log (suc n) old → length new.clauses.items ≡ length old.clauses.items → length new.results.items ≡ length old.results.items → ((p : Place) → flagged new p ≡ (flagged old p || (flagged old (at_result n) && is_premise_in log n p))) → AreFlagsOf t log n new
    flags_more n old new h clauses results marks = record {
      clauses = clauses ∙ h.clauses;
      results = results ∙ h.results;
      sound = λ p e. sound p (sym (marks p) ∙ e);
      last = λ m e. marks (at_result m) ∙ or_left (flagged old (at_result m)) (flagged old (at_result n) && is_premise_in log n (at_result m)) (h.last m e);
      closed = closed;
    }
      where
        sound : (p : Place) → (flagged old p || (flagged old (at_result n) && is_premise_in log n p)) ≡ true → IsUsed log p
        sound p e =
            elim (or_cases (flagged old p) (flagged old (at_result n) && is_premise_in log n p) e) [
              | inl a ↦ h.sound p a
              | inr a ↦ let parts = and_parts (flagged old (at_result n)) (is_premise_in log n p) a in used_premise n p (h.sound (at_result n) parts.0) parts.1
            ]

        -- no flag of a later result is new
        kept : (m : ℕ) → n ≤ m → flagged new (at_result m) ≡ true → flagged old (at_result m) ≡ true
        kept m l e =
            elim (or_cases (flagged old (at_result m)) (flagged old (at_result n) && is_premise_in log n (at_result m)) (sym (marks (at_result m)) ∙ e)) [
              | inl a ↦ a
              | inr a ↦ let below = premise_below n m (and_parts (flagged old (at_result n)) (is_premise_in log n (at_result m)) a).1 in absurd (omega (arith, below, l))
            ]

        closed : (m : ℕ) (p : Place) → n ≤ m → flagged new (at_result m) ≡ true → is_premise_in log m p ≡ true → flagged new p ≡ true
        closed m p l e premise = go (nat_eq n m) refl (kept m l e)
          where
            go : (b : Bool) → nat_eq n m ≡ b → flagged old (at_result m) ≡ true → flagged new p ≡ true
            go true i f =
                let same : n ≡ m = eqb-true n m i in
                let one : flagged old (at_result n) ≡ true = ap (λ k. flagged old (at_result k)) same ∙ f in
                let two : is_premise_in log n p ≡ true = ap (λ k. is_premise_in log k p) same ∙ premise in
                marks p ∙ or_right (flagged old p) (flagged old (at_result n) && is_premise_in log n p) (and_from (flagged old (at_result n)) (is_premise_in log n p) one two)
            go false i f =
                let differ = λ (same : n ≡ m). false≢true (sym i ∙ eq-eqb n m same) in
                marks p ∙ or_left (flagged old p) (flagged old (at_result n) && is_premise_in log n p) (h.closed m p (omega (arith, l, differ)) f premise)

  no_flag : (n m : ℕ) → slice_index_or (replicate n false) m false ≡ false
  no_flag zero m = refl
  no_flag (suc n) zero = refl
  no_flag (suc n) (suc m) = no_flag n m

  none_flagged : (r : Reached) (a b : ℕ) → r.clauses.items ≡ replicate a false → r.results.items ≡ replicate b false → (p : Place) → flagged r p ≡ false
  none_flagged r a b e f (at_clause n) = ap (λ xs. slice_index_or xs n false) e ∙ no_flag a n
  none_flagged r a b e f (at_step n k) = refl
  none_flagged r a b e f (at_result n) = ap (λ xs. slice_index_or xs n false) f ∙ no_flag b n

  past : {A : Type 0} (xs : List A) (m : ℕ) → length xs ≤ m → slice_get xs m ≡ None
  past [] m l = refl
  past (x ∷ xs) zero l = absurd (omega (arith, l))
  past (x ∷ xs) (suc m) l = past xs m (omega (arith, l))

  -- the last result alone is marked
  pub flags_begin : (last : ℕ) → length log ≡ last + 1 → (old new : Reached) (a b : ℕ) → old.clauses.items ≡ replicate a false → old.results.items ≡ replicate b false → length new.clauses.items ≡ length (the_clauses t) → length new.results.items ≡ length log → ((p : Place) → flagged new p ≡ (flagged old p || same_place (at_result last) p)) → AreFlagsOf t log (length log) new
  flags_begin last is_last old new a b e f clauses results marks = record {
    clauses = clauses;
    results = results;
    sound = λ p g.
        let only : same_place (at_result last) p ≡ true = ap (λ x. x || same_place (at_result last) p) (sym (none_flagged old a b e f p)) ∙ sym (marks p) ∙ g in
        subst (IsUsed log) (same_place-true (at_result last) p only) (last_result last is_last);
    last = λ m g.
        let same : last ≡ m = omega (arith, is_last, g) in
        marks (at_result m) ∙ or_right (flagged old (at_result m)) (same_place (at_result last) (at_result m)) (ap (λ k. same_place (at_result last) (at_result k)) (sym same) ∙ same_place-refl (at_result last));
    closed = λ m p l g premise. absurd (false≢true (sym (ap (λ o. is_premise_of o p) (past log m l)) ∙ premise));
  }

  -- what is used has its flag
  pub used_flagged : (r : Reached) → AreFlagsOf t log 0 r → (p : Place) → IsUsed log p → flagged r p ≡ true
  used_flagged r h p (last_result n e) = h.last n e
  used_flagged r h p (first_of n entry at used) =
      let q = premise_place entry.chain.first in
      h.closed n q (omega arith) (used_flagged r h (at_result n) used)
      (ap (λ o. is_premise_of o q) at ∙ or_left (same_place q q) (any_premise entry.chain.steps q) (same_place-refl q))
  used_flagged r h p (step_of n entry step at used there) =
      let q = premise_place step.premise in
      h.closed n q (omega arith) (used_flagged r h (at_result n) used)
      (ap (λ o. is_premise_of o q) at ∙ or_right (same_place (premise_place entry.chain.first) q) (any_premise entry.chain.steps q) (any_there (λ (s : ChainStep). same_place (premise_place s.premise) q) entry.chain.steps step there (same_place-refl q)))

  -- the instances of the clauses whose flags are set are those that are used
  pub origin_used : (r : Reached) → AreFlagsOf t log 0 r → (count k : ℕ) → HasFlaggedOrigin t r.clauses.items count k → IsUsedInstance t log k
  origin_used r h count k f = record { number = f.number; used = h.sound (at_clause f.number) f.is.flag; origin = f.is.origin }

  pub used_origin : (r : Reached) → AreFlagsOf t log 0 r → (k : ℕ) → IsUsedInstance t log k → HasFlaggedOrigin t r.clauses.items (length r.clauses.items) k
  used_origin r h k u = record {
    number = u.number;
    below = below;
    is = record { flag = used_flagged r h (at_clause u.number) u.used; origin = u.origin };
  }
    where
      below : u.number < length r.clauses.items
      below = inside r.clauses.items u.number (used_flagged r h (at_clause u.number) u.used)
        where
          inside : (flags : List Bool) (n : ℕ) → slice_index_or flags n false ≡ true → n < length flags
          inside [] n e = absurd (false≢true e)
          inside (x ∷ flags) zero e = omega arith
          inside (x ∷ flags) (suc n) e = let rest = inside flags n e in omega (arith, rest)

-- a clause more
module _ (t : Table) (clauses : List Bool) (n k : ℕ) where
  pub origin_more : HasFlaggedOrigin t clauses n k ⊎ IsFlaggedOrigin t clauses n k → HasFlaggedOrigin t clauses (n + 1) k
  origin_more (inl h) = let l = h.below in record { number = h.number; below = omega (arith, l); is = h.is }
  origin_more (inr h) = record { number = n; below = omega arith; is = h }

  pub origin_less : HasFlaggedOrigin t clauses (n + 1) k → HasFlaggedOrigin t clauses n k ⊎ IsFlaggedOrigin t clauses n k
  origin_less h = go (nat_eq h.number n) refl
    where
      go : (b : Bool) → nat_eq h.number n ≡ b → HasFlaggedOrigin t clauses n k ⊎ IsFlaggedOrigin t clauses n k
      go true e = inr (subst (λ m. IsFlaggedOrigin t clauses m k) (eqb-true h.number n e) h.is)
      go false e =
          let l = h.below in
          let differ = λ (same : h.number ≡ n). false≢true (sym e ∙ eq-eqb h.number n same) in
          inl (record { number = h.number; below = omega (arith, l, differ); is = h.is })
