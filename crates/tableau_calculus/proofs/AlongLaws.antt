-- Each model extends along a witness table.
use Rattle.std.proofs.Common.{◌≡◌, ℕ, zero, suc, ◌+◌, ◌<◌, ◌≤◌, List, [], ◌∷◌, ◌++◌, length, map, Some, refl, ap, ap₂, subst, sym, ◌∙◌, Bool, true, false, nat_eq, slice_get, slice_index, if◌then◌else◌, append_assoc, append-nil, length-append, eqb-true, eq-eqb, add-zero, ⊎_elim, arith}
use Rattle.std.proofs.Math.Nat.{eq-or-lt_of_le}
use mathlib.Core.Path.{fun_ext}
use Rattle.stt_core.specs.SimpleType.{SimpleType, base, arrow, predicate}
use Rattle.stt_core.specs.Lambda.{Constant, name, witness, falsity, negation, implication, all, equality, choice, description, Lambda, bound, constant, lam, app}
use Rattle.stt_core.specs.Typing.{Scope, type_of, constant_type}
use Rattle.stt_core.specs.Canonical.{IsCanonical, IsNeutral}
use Rattle.stt_core.specs.Digits.{entry, table}
use Rattle.stt_core.specs.Meaning.{Model, size, size_of, result_size, value, constant_value, IsModel}
use Rattle.stt_core.proofs.ValueLaws.{size_pos, test_below}
use Rattle.tableau_calculus.specs.Witnesses.{Row, with_rows, IsTwice, IsTableAfter, IsTable}
use Rattle.tableau_calculus.specs.Along.{least_zero, with_witnesses, witness_list, extended, GoesAlong}

-- the term names no witness from k on
abbrev IsConstantBelow : ℕ → Constant → Type 0
IsConstantBelow k (witness j) = j < k
IsConstantBelow k (name j) = Unit {0}
IsConstantBelow k falsity = Unit {0}
IsConstantBelow k negation = Unit {0}
IsConstantBelow k implication = Unit {0}
IsConstantBelow k (all a) = Unit {0}
IsConstantBelow k (equality a) = Unit {0}
IsConstantBelow k (choice a) = Unit {0}
IsConstantBelow k (description a) = Unit {0}

abbrev IsBelow : ℕ → Lambda → Type 0
IsBelow k (bound j) = Unit {0}
IsBelow k (constant c) = IsConstantBelow k c
IsBelow k (lam a s) = IsBelow k s
IsBelow k (app s u) = IsBelow k s × IsBelow k u

got_below : (rows : List Row) (k : ℕ) (a : SimpleType) → slice_get (map (λ r. r.type) rows) k ≡ Some a → k < length rows
got_below [] k a h = cc
got_below (r ∷ rows) zero a h = omega arith
got_below (r ∷ rows) (suc k) a h = omega (arith, got_below rows k a h)

module _ (scope : Scope) (rows : List Row) where
  constant_below : (c : Constant) (a : SimpleType) → constant_type (with_rows scope rows) c ≡ Some a → IsConstantBelow (length rows) c
  constant_below (name k) a h = tt
  constant_below (witness k) a h = got_below rows k a h
  constant_below falsity a h = tt
  constant_below negation a h = tt
  constant_below implication a h = tt
  constant_below (all b) a h = tt
  constant_below (equality b) a h = tt
  constant_below (choice b) a h = tt
  constant_below (description b) a h = tt

  mutual
    canonical_below : (ctx : List SimpleType) (a : SimpleType) (t : Lambda) → IsCanonical (with_rows scope rows) ctx a t → IsBelow (length rows) t
    canonical_below ctx a (bound k) h = tt
    canonical_below ctx a (constant c) h = constant_below c a h.1
    canonical_below ctx (base n) (lam c s) h = absurd h.1
    canonical_below ctx (arrow d b) (lam c s) h = canonical_below (c ∷ ctx) b s h.1.1
    canonical_below ctx a (app s u) h = (neutral_below ctx (arrow h.1.0 a) s h.1.1, canonical_below ctx h.1.0 u h.1.2)

    neutral_below : (ctx : List SimpleType) (a : SimpleType) (t : Lambda) → IsNeutral (with_rows scope rows) ctx a t → IsBelow (length rows) t
    neutral_below ctx a (bound k) h = tt
    neutral_below ctx a (constant c) h = constant_below c a h
    neutral_below ctx a (lam c s) h = absurd h
    neutral_below ctx a (app s u) h = (neutral_below ctx (arrow h.0 a) s h.1, canonical_below ctx h.0 u h.2)

-- each predicate names only witnesses of earlier rows, of which there are k before the first
abbrev AreBelow : ℕ → List Row → Type 0
AreBelow k [] = Unit {0}
AreBelow k (r ∷ rows) = IsBelow k r.predicate × AreBelow (suc k) rows

table_below : (scope : Scope) (earlier rows : List Row) → IsTableAfter scope earlier rows → AreBelow (length earlier) rows
table_below scope earlier [] h = tt
table_below scope earlier (r ∷ rows) h =
    let n : length (earlier ++ r ∷ []) ≡ suc (length earlier) = omega (arith, length-append earlier (r ∷ [])) in
    (canonical_below scope earlier [] (predicate r.type) r.predicate h.0, subst (λ k. AreBelow k rows) n (table_below scope (earlier ++ r ∷ []) rows h.2))

module _ (scope : Scope) (m : Model) (ws vs : List ℕ) (k : ℕ) (same : (j : ℕ) → j < k → slice_index ws j ≡ slice_index vs j) where
  same_constant : (c : Constant) → IsConstantBelow k c → constant_value (with_witnesses m ws) c ≡ constant_value (with_witnesses m vs) c
  same_constant (name j) h = refl
  same_constant (witness j) h = same j h
  same_constant falsity h = refl
  same_constant negation h = refl
  same_constant implication h = refl
  same_constant (all a) h = refl
  same_constant (equality a) h = refl
  same_constant (choice a) h = refl
  same_constant (description a) h = refl

  -- a value depends only on the witnesses that the term names
  same_value : (ctx : List SimpleType) (env : List ℕ) (t : Lambda) → IsBelow k t → value scope (with_witnesses m ws) ctx env t ≡ value scope (with_witnesses m vs) ctx env t
  same_value ctx env (bound j) h = refl
  same_value ctx env (constant c) h = same_constant c h
  same_value ctx env (lam a s) h =
      ap (table (size_of scope (with_witnesses m ws) (a ∷ ctx) s) (size (with_witnesses m ws) a)) (fun_ext (λ x. same_value (a ∷ ctx) (x ∷ env) s h))
  same_value ctx env (app s u) h =
      ap₂ (entry (result_size (with_witnesses m ws) (type_of scope ctx s))) (same_value ctx env s h.0) (same_value ctx env u h.1)

index_front : (ws vs : List ℕ) (j : ℕ) → j < length ws → slice_index (ws ++ vs) j ≡ slice_index ws j
index_front [] vs j h = absurd (omega arith)
index_front (w ∷ ws) vs zero h = refl
index_front (w ∷ ws) vs (suc j) h = index_front ws vs j (omega arith)

index_next : (ws : List ℕ) (v : ℕ) (vs : List ℕ) → slice_index (ws ++ v ∷ vs) (length ws) ≡ v
index_next [] v vs = refl
index_next (w ∷ ws) v vs = index_next ws v vs

-- the list goes on
record GoesOn (ws vs : List ℕ) : Type 0 where
  pub rest : List ℕ
  pub is : vs ≡ ws ++ rest

goes_on : (scope : Scope) (m : Model) (ws : List ℕ) (rows : List Row) → GoesOn ws (witness_list scope m ws rows)
goes_on scope m ws [] = record { rest = []; is = sym (append-nil ws) }
goes_on scope m ws (r ∷ rows) =
    let v : ℕ = least_zero (value scope (with_witnesses m ws) [] [] r.predicate) (size m r.type) 0 in
    let g = goes_on scope m (ws ++ v ∷ []) rows in
    record { rest = v ∷ g.rest; is = g.is ∙ append_assoc ws (v ∷ []) g.rest }

true_not_false : (b : Bool) → b ≡ true → b ≡ false → ⊥
true_not_false b h k = cc

-- the least entry 0 is one
least_zero_is : (p n x y : ℕ) → x ≤ y → y < x + n → entry 2 p y ≡ 0 → entry 2 p (least_zero p n x) ≡ 0
least_zero_is p zero x y l k h = absurd (omega arith)
least_zero_is p (suc n) x y l k h = go (nat_eq (entry 2 p x) 0) refl (λ l' k'. least_zero_is p n (suc x) y l' k' h)
  where
    go : (b : Bool) → nat_eq (entry 2 p x) 0 ≡ b → (suc x ≤ y → y < suc x + n → entry 2 p (least_zero p n (suc x)) ≡ 0) → entry 2 p (if b then x else least_zero p n (suc x)) ≡ 0
    go true e rest = eqb-true (entry 2 p x) 0 e
    go false e rest =
        let other = λ (q : x ≡ y). true_not_false (nat_eq (entry 2 p x) 0) (eq-eqb (entry 2 p x) 0 (ap (entry 2 p) q ∙ h)) e in
        ⊎_elim (λ q. absurd (other q)) (λ o. rest o (omega arith)) (eq-or-lt_of_le l)

least_zero-lt : (p n x b : ℕ) → 0 < b → x + n ≤ b → least_zero p n x < b
least_zero-lt p zero x b h k = h
least_zero-lt p (suc n) x b h k = test_below (nat_eq (entry 2 p x) 0) x (least_zero p n (suc x)) b (omega arith) (least_zero-lt p n (suc x) b h (omega arith))

module _ (scope : Scope) (m : Model) where
  -- the next witness has the least value at which its predicate is 0, or 0
  next_is : (ws : List ℕ) (q : Row) (rows : List Row) → slice_index (witness_list scope m ws (q ∷ rows)) (length ws + 0) ≡ least_zero (value scope (with_witnesses m ws) [] [] q.predicate) (size m q.type) 0
  next_is ws q rows =
      let v : ℕ = least_zero (value scope (with_witnesses m ws) [] [] q.predicate) (size m q.type) 0 in
      let h = goes_on scope m (ws ++ v ∷ []) rows in
      let is : witness_list scope m ws (q ∷ rows) ≡ ws ++ v ∷ h.rest = h.is ∙ append_assoc ws (v ∷ []) h.rest in
      ap (λ j. slice_index (witness_list scope m ws (q ∷ rows)) j) (add-zero (length ws)) ∙ ap (λ t. slice_index t (length ws)) is ∙ index_next ws v h.rest

  along_here : (ws : List ℕ) (q : Row) (rows : List Row) → IsBelow (length ws) q.predicate → (x : ℕ) → x < size m q.type → entry 2 (value scope (with_witnesses m (witness_list scope m ws (q ∷ rows))) [] [] q.predicate) x ≡ 0 → entry 2 (value scope (with_witnesses m (witness_list scope m ws (q ∷ rows))) [] [] q.predicate) (slice_index (witness_list scope m ws (q ∷ rows)) (length ws + 0)) ≡ 0
  along_here ws q rows b x l z =
      let g = goes_on scope m ws (q ∷ rows) in
      let p = same_value scope m ws (witness_list scope m ws (q ∷ rows)) (length ws) (λ j k. sym (ap (λ t. slice_index t j) g.is ∙ index_front ws g.rest j k)) [] [] q.predicate b in
      ap₂ (entry 2) (sym p) (next_is ws q rows)
      ∙ least_zero_is (value scope (with_witnesses m ws) [] [] q.predicate) (size m q.type) 0 x (omega arith) (omega arith) (ap (λ u. entry 2 u x) p ∙ z)

  -- where a witness's predicate is 0 somewhere, it is 0 at the witness
  along : (ws : List ℕ) (rows : List Row) → AreBelow (length ws) rows → (i : ℕ) (r : Row) → slice_get rows i ≡ Some r → (x : ℕ) → x < size m r.type → entry 2 (value scope (with_witnesses m (witness_list scope m ws rows)) [] [] r.predicate) x ≡ 0 → entry 2 (value scope (with_witnesses m (witness_list scope m ws rows)) [] [] r.predicate) (slice_index (witness_list scope m ws rows) (length ws + i)) ≡ 0
  along ws [] b i r g x l z = cc
  along ws (q ∷ rows) b zero r g x l z =
      let e : q ≡ r = cc in
      subst (λ w. entry 2 (value scope (with_witnesses m (witness_list scope m ws (q ∷ rows))) [] [] w.predicate) (slice_index (witness_list scope m ws (q ∷ rows)) (length ws + 0)) ≡ 0) e
      (along_here ws q rows b.0 x (subst (λ w. x < size m w.type) (sym e) l) (subst (λ w. entry 2 (value scope (with_witnesses m (witness_list scope m ws (q ∷ rows))) [] [] w.predicate) x ≡ 0) (sym e) z))
  along ws (q ∷ rows) b (suc i) r g x l z =
      let v : ℕ = least_zero (value scope (with_witnesses m ws) [] [] q.predicate) (size m q.type) 0 in
      let n : suc (length ws) ≡ length (ws ++ v ∷ []) = omega (arith, length-append ws (v ∷ [])) in
      let n' : length (ws ++ v ∷ []) + i ≡ length ws + suc i = omega (arith, length-append ws (v ∷ [])) in
      subst (λ j. entry 2 (value scope (with_witnesses m (witness_list scope m ws (q ∷ rows))) [] [] r.predicate) (slice_index (witness_list scope m ws (q ∷ rows)) j) ≡ 0) n'
      (along (ws ++ v ∷ []) rows (subst (λ k. AreBelow k rows) n b.1) i r g x l z)

  module _ (pos : (a : SimpleType) → 0 < size m a) where
    -- each witness has a value of its type
    witness_in : (ws : List ℕ) (rows : List Row) (k : ℕ) (a : SimpleType) → slice_get (map (λ r. r.type) rows) k ≡ Some a → slice_index (witness_list scope m ws rows) (length ws + k) < size m a
    witness_in ws [] k a h = cc
    witness_in ws (q ∷ rows) zero a h =
        let e : q.type ≡ a = cc in
        subst (λ b. slice_index (witness_list scope m ws (q ∷ rows)) (length ws + 0) < size m b) e
        (subst (λ x. x < size m q.type) (sym (next_is ws q rows)) (least_zero-lt (value scope (with_witnesses m ws) [] [] q.predicate) (size m q.type) 0 (size m q.type) (pos q.type) (omega arith)))
    witness_in ws (q ∷ rows) (suc k) a h =
        let v : ℕ = least_zero (value scope (with_witnesses m ws) [] [] q.predicate) (size m q.type) 0 in
        let n : length (ws ++ v ∷ []) + k ≡ length ws + suc k = omega (arith, length-append ws (v ∷ [])) in
        subst (λ j. slice_index (witness_list scope m ws (q ∷ rows)) j < size m a) n (witness_in (ws ++ v ∷ []) rows k a h)

zero_add : (k : ℕ) → 0 + k ≡ k
zero_add k = omega arith

module _ (scope : Scope) (rows : List Row) where
  -- a model of a scope extends along a witness table to one of the scope with the witnesses
  pub extended_is_model : (m : Model) → IsModel scope m → IsModel (with_rows scope rows) (extended scope m rows)
  extended_is_model m good = record {
    sizes_pos = good.sizes_pos;
    names_in = good.names_in;
    witnesses_in = λ k a h. subst (λ j. slice_index (witness_list (with_rows scope rows) m [] rows) j < size m a) (zero_add k) (witness_in (with_rows scope rows) m (size_pos scope m good) [] rows k a h);
    choices_in = good.choices_in;
    choices_law = good.choices_law;
    descriptions_in = good.descriptions_in;
    descriptions_law = good.descriptions_law;
  }

  pub extended_along : IsTable scope rows → (m : Model) → GoesAlong (with_rows scope rows) (extended scope m rows) rows
  extended_along is m = record {
    at_witness = λ k r g x l z.
        subst (λ j. entry 2 (value (with_rows scope rows) (extended scope m rows) [] [] r.predicate) (slice_index (witness_list (with_rows scope rows) m [] rows) j) ≡ 0) (zero_add k)
        (along (with_rows scope rows) m [] rows (table_below scope [] rows is) k r g x l z);
  }

twice-front : (earlier more : List Row) (r : Row) → IsTwice earlier r → IsTwice (earlier ++ more) r
twice-front [] more r h = absurd (omega (arith, h.1))
twice-front (q ∷ earlier) more r (zero, below, is) = (0, omega arith, is)
twice-front (q ∷ earlier) more r (suc k, below, is) =
    let rest = twice-front earlier more r (k, omega (arith, below), is) in
    (suc rest.0, omega (arith, rest.1), rest.2)

last_row : (earlier : List Row) (p r : Row) → p.predicate ≡ r.predicate → IsTwice (earlier ++ p ∷ []) r
last_row [] p r e = (0, omega arith, e)
last_row (q ∷ earlier) p r e =
    let rest = last_row earlier p r e in
    (suc rest.0, omega (arith, rest.1), rest.2)

later_differs : (scope : Scope) (earlier rows : List Row) → IsTableAfter scope earlier rows → (k : ℕ) (r : Row) → slice_get rows k ≡ Some r → IsTwice earlier r → ⊥
later_differs scope earlier [] h k r g twice = cc
later_differs scope earlier (p ∷ rows) h zero r g twice = let same : p ≡ r = cc in h.1 (subst (IsTwice earlier) (sym same) twice)
later_differs scope earlier (p ∷ rows) h (suc k) r g twice = later_differs scope (earlier ++ p ∷ []) rows h.2 k r g (twice-front earlier (p ∷ []) r twice)

-- predicates of different rows differ
pub same_row : (scope : Scope) (earlier rows : List Row) → IsTableAfter scope earlier rows → (j k : ℕ) (q r : Row) → slice_get rows j ≡ Some q → slice_get rows k ≡ Some r → q.predicate ≡ r.predicate → j ≡ k
same_row scope earlier [] h j k q r f g e = cc
same_row scope earlier (p ∷ rows) h zero zero q r f g e = refl
same_row scope earlier (p ∷ rows) h (suc j) (suc k) q r f g e = ap (λ n. suc n) (same_row scope (earlier ++ p ∷ []) rows h.2 j k q r f g e)
same_row scope earlier (p ∷ rows) h zero (suc k) q r f g e =
    let same : p ≡ q = cc in absurd (later_differs scope (earlier ++ p ∷ []) rows h.2 k r g (last_row earlier p r (ap (λ x. x.predicate) same ∙ e)))
same_row scope earlier (p ∷ rows) h (suc j) zero q r f g e =
    let same : p ≡ r = cc in absurd (later_differs scope (earlier ++ p ∷ []) rows h.2 j q f (last_row earlier p q (ap (λ x. x.predicate) same ∙ sym e)))
