-- The instances that a log uses stand in one order.
use Rattle.std.proofs.Common.{◌≡◌, ℕ, zero, suc, ◌+◌, ◌-◌, ◌<◌, ◌≤◌, List, [], ◌∷◌, map, length, Some, option_map, unwrap_or, slice_get, slice_index, Contains, refl, sym, ap, ap₂, subst, ◌∙◌, arith}
use Rattle.std.specs.List.Sorted.{IsStrictlyIncreasing}
use Rattle.std.proofs.lemmas.Option.{same_Some, slice_get_within}
use Rattle.stt_core.specs.Lambda.{Lambda}
use Rattle.tableau_calculus.proofs.ListLaws.{contains_cases, contains-first, contains-later}
use Rattle.search_spec.specs.Clauses.{instance_clauses}
use Rattle.search_spec.specs.Numbered.{numbers}
use Rattle.tableau_clauses.specs.declared.origin.Origin.TheVariants.{Instance as From}
use Rattle.tableau_clauses.specs.Table.{Table, the_origins, ComesFromOrigin, EachComes, StandInOrder}
use Rattle.rebuild_spec.specs.Input.{Instance}
use Rattle.tableau_rebuild.specs.Tables.{no_instance, the_instance}
use Rattle.plain_tableau.proofs.ExpandLaws.{step_there}
use Rattle.prover_run.specs.Tree.{UsesInstance}
use Rattle.prover_run.specs.Laws.{OneUsedList}

-- THE INSTANCES OF A TABLE

module _ (terms : List Lambda) (atoms : List ℕ) (t : Table) where
  abbrev instance_in : ℕ → Instance
  instance_in k = unwrap_or (option_map (the_instance terms atoms) (slice_get t.1 k)) no_instance

  -- an instance that has a clause is the first one of those that are the same
  not_later : EachComes t → StandInOrder t → (n m k l : ℕ) → slice_get (the_origins t) n ≡ Some (From k) → slice_get (the_origins t) m ≡ Some (From l)
      → instance_in k ≡ instance_in l → k ≤ l
  not_later comes order n m k l at there same =
      let s = step_there t.0 n (From k) at in
      let r = step_there t.0 m (From l) there in
      let from : ComesFromOrigin t.1 s.0.0 (From k) = subst (ComesFromOrigin t.1 s.0.0) s.2 (comes n s.0 s.1) in
      let other : ComesFromOrigin t.1 r.0.0 (From l) = subst (ComesFromOrigin t.1 r.0.0) r.2 (comes m r.0 r.1) in
      let i = from.0 in
      let j = other.0 in
      let alike : the_instance terms atoms i ≡ the_instance terms atoms j =
      sym (ap (λ o. unwrap_or (option_map (the_instance terms atoms) o) no_instance) from.1) ∙ same ∙ ap (λ o. unwrap_or (option_map (the_instance terms atoms) o) no_instance) other.1 in
      let principals : i.principals ≡ j.principals = ap (λ (x : Instance). x.principals) alike in
      let alternatives : i.alternatives ≡ j.alternatives = ap (λ (x : Instance). x.alternatives) alike in
      let has : Contains (instance_clauses numbers j.principals j.alternatives) s.0.0 =
      subst (λ as'. Contains (instance_clauses numbers j.principals as') s.0.0) alternatives (subst (λ ps. Contains (instance_clauses numbers ps i.alternatives) s.0.0) principals from.2) in
      order.first n l k s.0 j s.1 s.2 other.1 has

  pub one_number : EachComes t → StandInOrder t → (n m k l : ℕ) → slice_get (the_origins t) n ≡ Some (From k) → slice_get (the_origins t) m ≡ Some (From l)
      → instance_in k ≡ instance_in l → k ≡ l
  one_number comes order n m k l at there same =
      let a = not_later comes order n m k l at there same in
      let b = not_later comes order m n l k there at (sym same) in
      omega (arith, a, b)

-- NUMBERS THAT INCREASE

pub from_list : {A B : Type 0} (f : A → B) (xs : List A) (n : ℕ) (y : B) → slice_get (map f xs) n ≡ Some y → (x : A) × (slice_get xs n ≡ Some x) × (f x ≡ y)
from_list f [] n y h = cc
from_list f (x ∷ xs) zero y h = (x, refl, same_Some (f x) y h)
from_list f (x ∷ xs) (suc n) y h = from_list f xs n y h

index_at : (xs : List ℕ) (n x : ℕ) → slice_get xs n ≡ Some x → slice_index xs n ≡ x
index_at [] n x h = cc
index_at (y ∷ ys) zero x h = same_Some y x h
index_at (y ∷ ys) (suc n) x h = index_at ys n x h

increasing_far : (xs : List ℕ) → IsStrictlyIncreasing xs → (p d : ℕ) → p + d + 1 < length xs → slice_index xs p < slice_index xs (p + d + 1)
increasing_far xs up p zero within =
    let e : p + 0 + 1 ≡ p + 1 = omega arith in
    subst (λ n. slice_index xs p < slice_index xs n) (sym e) (up p (omega (arith, within)))
increasing_far xs up p (suc d) within =
    let e : p + suc d + 1 ≡ p + d + 1 + 1 = omega arith in
    let before = increasing_far xs up p d (omega (arith, within)) in
    let next = up (p + d + 1) (omega (arith, within)) in
    subst (λ n. slice_index xs p < slice_index xs n) (sym e) (omega (arith, before, next))

pub increasing_at : (xs : List ℕ) → IsStrictlyIncreasing xs → (p q x y : ℕ) → p < q → slice_get xs p ≡ Some x → slice_get xs q ≡ Some y → x < y
increasing_at xs up p q x y less a b =
    let within = slice_get_within xs q y b in
    let e : p + (q - p - 1) + 1 ≡ q = omega (arith, less) in
    let far = increasing_far xs up p (q - p - 1) (omega (arith, e, within)) in
    let far_q : slice_index xs p < slice_index xs q = subst (λ n. slice_index xs p < slice_index xs n) e far in
    omega (arith, far_q, index_at xs p x a, index_at xs q y b)

-- ONE LIST

-- lists in an order that no two elements have in both directions, nor one with itself, with the same elements
module _ {A : Type 0} (Before : A → A → Type 0) where
  abbrev pub AreOrdered : List A → Type 0
  AreOrdered xs = (p q : ℕ) (i j : A) → p < q → slice_get xs p ≡ Some i → slice_get xs q ≡ Some j → Before i j

  contained_at : (xs : List A) (x : A) → Contains xs x → (n : ℕ) × (slice_get xs n ≡ Some x)
  contained_at [] x h = absurd (omega (arith, h.1))
  contained_at (y ∷ ys) x h = contains_cases ((n : ℕ) × (slice_get (y ∷ ys) n ≡ Some x)) x y ys h (λ e. (0, ap (λ z. Some z) e)) (λ later. let r = contained_at ys x later in (suc r.0, r.1))

  later_than : (x : A) (xs : List A) → AreOrdered (x ∷ xs) → (y : A) → Contains xs y → Before x y
  later_than x xs order y h = let r = contained_at xs y h in order 0 (suc r.0) x y (omega arith) refl r.1

  rest_ordered : (x : A) (xs : List A) → AreOrdered (x ∷ xs) → AreOrdered xs
  rest_ordered x xs order p q i j less a b = order (suc p) (suc q) i j (omega (arith, less)) a b

  pub one_list : (xs ys : List A) → ((x : A) → Contains xs x → Before x x → ⊥) → ((x y : A) → Contains xs x → Contains xs y → Before x y → Before y x → ⊥)
      → AreOrdered xs → AreOrdered ys → ((x : A) → Contains xs x → Contains ys x) → ((x : A) → Contains ys x → Contains xs x) → xs ≡ ys
  one_list [] [] itself both a b into back = refl
  one_list [] (y ∷ ys) itself both a b into back = let none = back y (contains-first y ys) in absurd (omega (arith, none.1))
  one_list (x ∷ xs) [] itself both a b into back = let none = into x (contains-first x xs) in absurd (omega (arith, none.1))
  one_list (x ∷ xs) (y ∷ ys) itself both a b into back =
      ap₂ (λ z zs. z ∷ zs) same
      (one_list xs ys (λ z h. itself z (contains-later z x xs h)) (λ z w h k. both z w (contains-later z x xs h) (contains-later w x xs k)) (rest_ordered x xs a) (rest_ordered y ys b)
      (λ z h. contains_cases (Contains ys z) z y ys (into z (contains-later z x xs h))
      (λ e. absurd (itself x (contains-first x xs) (subst (Before x) (sym e ∙ sym same) (later_than x xs a z h)))) (λ later. later))
      (λ z h. contains_cases (Contains xs z) z x xs (back z (contains-later z y ys h))
      (λ e. absurd (itself x (contains-first x xs) (subst (λ w. Before w x) (sym same) (subst (Before y) (sym e) (later_than y ys b z h))))) (λ later. later)))
    where
      same : x ≡ y
      same =
          contains_cases (x ≡ y) x y ys (into x (contains-first x xs)) (λ e. sym e)
          (λ later. contains_cases (x ≡ y) y x xs (back y (contains-first y ys)) (λ e. e)
          (λ further. absurd (both x y (contains-first x xs) (back y (contains-first y ys)) (later_than x xs a y further) (later_than y ys b x later))))

pub used_list-one : OneUsedList
used_list-one input instances others a b =
    one_list (λ i j. (u : UsesInstance input i) (v : UsesInstance input j) → u.number < v.number) instances others
    (λ i h before. let u = a.each i h in let less = before u u in omega (arith, less))
    (λ i j h k before after. let u = a.each i h in let v = a.each j k in let less = before u v in let more = after v u in omega (arith, less, more))
    a.in_order b.in_order (λ i h. b.all i (a.each i h)) (λ i h. a.all i (b.each i h))
