-- Lists of allowed values in their order.
use Rattle.std.proofs.Common.{◌≡◌, ℕ, zero, suc, ◌+◌, ◌*◌, ◌-◌, ◌<◌, ◌≤◌, List, [], ◌∷◌, length, Bool, slice_get, slice_index, slice_index_or, slice_set, Some, get_or-set_same, get_or-set_other, refl, ap, sym, subst, ◌∙◌, ◌⊎◌, inl, inr, ⊎_elim, arith, mul-le-mul_right, le_of_suc-le-suc}
use Rattle.std.proofs.Math.Nat.{eq-or-lt_of_le}
use Rattle.finite_models.specs.Internal.Search.{IsAllowed, AreAllowed, AreFilled, SameFront, IsEarlier, AreLeastFrom, IsPassedBy, IsNext, lists, rank}

-- an allowed value is below the number of values
pub allowed-lt : (d : List Bool) (v : ℕ) → IsAllowed d v → v < length d
allowed-lt [] v h = cc
allowed-lt (b ∷ d) zero h = omega arith
allowed-lt (b ∷ d) (suc v) h = omega (arith, allowed-lt d v h)

allowed_tail : (d : List Bool) (ds : List (List Bool)) (v : ℕ) (vs : List ℕ) → AreAllowed (d ∷ ds) (v ∷ vs) → AreAllowed ds vs
allowed_tail d ds v vs h = record { count = let c = h.count in omega arith; each = λ i e g. h.each (suc i) e g }

pub rank-lt : (ds : List (List Bool)) (vs : List ℕ) → AreAllowed ds vs → rank ds vs < lists ds
rank-lt [] vs h = omega arith
rank-lt (d ∷ ds) [] h = let c = h.count in absurd (omega arith)
rank-lt (d ∷ ds) (v ∷ vs) h =
    let below : suc v ≤ length d = allowed-lt d v (h.each 0 d refl) in
    omega (arith, rank-lt ds vs (allowed_tail d ds v vs h), mul-le-mul_right (lists ds) below)

earlier_tail : (w v : ℕ) (ws vs : List ℕ) (i : ℕ) → suc i < length (v ∷ vs) → SameFront (suc i) (w ∷ ws) (v ∷ vs) → slice_index ws i < slice_index vs i → IsEarlier ws vs
earlier_tail w v ws vs i l same less = record { at = i; within = omega arith; same = λ j k. same (suc j) (omega arith); less = less }

-- what is earlier has a smaller number
pub earlier_rank : (ds : List (List Bool)) (ws vs : List ℕ) → AreAllowed ds ws → AreAllowed ds vs → IsEarlier ws vs → rank ds ws < rank ds vs
earlier_rank [] ws [] h k e = let l = e.within in absurd (omega arith)
earlier_rank [] ws (v ∷ vs) h k e = let c = k.count in absurd (omega arith)
earlier_rank (d ∷ ds) [] vs h k e = let c = h.count in absurd (omega arith)
earlier_rank (d ∷ ds) (w ∷ ws) [] h k e = let c = k.count in absurd (omega arith)
earlier_rank (d ∷ ds) (w ∷ ws) (v ∷ vs) h k e = go (λ x. earlier_rank ds ws vs (allowed_tail d ds w ws h) (allowed_tail d ds v vs k) x) e.at e.within e.same e.less
  where
    go : (IsEarlier ws vs → rank ds ws < rank ds vs) → (i : ℕ) → i < length (v ∷ vs) → SameFront i (w ∷ ws) (v ∷ vs) → slice_index (w ∷ ws) i < slice_index (v ∷ vs) i → rank (d ∷ ds) (w ∷ ws) < rank (d ∷ ds) (v ∷ vs)
    go below zero l same less =
        let above : suc w ≤ v = less in
        omega (arith, rank-lt ds ws (allowed_tail d ds w ws h), mul-le-mul_right (lists ds) above)
    go below (suc i) l same less =
        let first : w ≡ v = same 0 (omega arith) in
        let rest = below (earlier_tail w v ws vs i l same less) in
        subst (λ x. x * lists ds + rank ds ws < v * lists ds + rank ds vs) (sym first) (omega arith)

-- Where the old values from a place i on are the greatest ones up to the reach, what has the same first i values is earlier than the old
-- list or the same up to the reach.
module _ (ds : List (List Bool)) (old : List ℕ) (allowed : AreAllowed ds old) where
  some_domain : (ds : List (List Bool)) (i : ℕ) → i < length ds → (d : List Bool) × (slice_get ds i ≡ Some d)
  some_domain [] i l = absurd (omega arith)
  some_domain (d ∷ ds) zero l = (d, refl)
  some_domain (d ∷ ds) (suc i) l = some_domain ds i (omega arith)

  abbrev GreatestFrom : ℕ → ℕ → Type 0
  GreatestFrom i r = (j : ℕ) (d : List Bool) → i ≤ j → j < r → slice_get ds j ≡ Some d → (v : ℕ) → IsAllowed d v → v ≤ slice_index old j

  same_up_to : (ws : List ℕ) → AreAllowed ds ws → (i n : ℕ) → GreatestFrom i (i + n) → i + n ≤ length old → SameFront i old ws → IsPassedBy ds (i + n) old ws
  same_up_to ws h i zero great l same = inr (λ j k. same j (omega arith))
  same_up_to ws h i (suc n) great l same =
      ⊎_elim (λ e. inl e) last (same_up_to ws h i n (λ j d p q g v a. great j d p (omega arith) g v a) (omega arith) same)
    where
      last : SameFront (i + n) old ws → IsPassedBy ds (i + suc n) old ws
      last front =
          let c = allowed.count in
          let s = some_domain ds (i + n) (omega arith) in
          let at_most = great (i + n) s.0 (omega arith) (omega arith) s.1 (slice_index ws (i + n)) (h.each (i + n) s.0 s.1) in
          ⊎_elim
          (λ e. inr (λ j k. ⊎_elim (λ q. ap (slice_index old) q ∙ sym e ∙ ap (slice_index ws) (sym q)) (λ q. front j q) (eq-or-lt_of_le (below j k))))
          (λ less. inl (record { at = i + n; within = omega arith; same = λ j k. sym (front j k); less = less }))
          (eq-or-lt_of_le at_most)
        where
          below : (j : ℕ) → j < i + suc n → j ≤ i + n
          below j k = omega arith

  -- places beyond the end have no difference
  beyond : (vs : List ℕ) (j : ℕ) → length vs ≤ j → slice_index vs j ≡ 0
  beyond [] j l = refl
  beyond (v ∷ vs) zero l = absurd (omega arith)
  beyond (v ∷ vs) (suc j) l = beyond vs j (omega arith)

  passed_from : (ws : List ℕ) → AreAllowed ds ws → (i r : ℕ) → i ≤ r → i ≤ length old → GreatestFrom i r → SameFront i old ws → IsPassedBy ds r old ws
  passed_from ws h i r l m great same =
      ⊎_elim all_within all_beyond (either (length old) r)
    where
      either : (a b : ℕ) → (b ≤ a) ⊎ (a < b)
      either a zero = inl (omega arith)
      either zero (suc b) = inr (omega arith)
      either (suc a) (suc b) = ⊎_elim (λ e. inl (omega arith)) (λ e. inr (omega arith)) (either a b)

      all_within : r ≤ length old → IsPassedBy ds r old ws
      all_within k =
          let n : ℕ = r - i in
          let e : i + n ≡ r = omega arith in
          subst (λ m. IsPassedBy ds m old ws) e (same_up_to ws h i n (λ j d p q g v a. great j d p (omega arith) g v a) (omega arith) same)

      all_beyond : length old < r → IsPassedBy ds r old ws
      all_beyond k =
          let n : ℕ = length old - i in
          let e : i + n ≡ length old = omega arith in
          let c = allowed.count in
          let d = h.count in
          let front : SameFront (length old) old ws → SameFront r old ws =
          λ f j q. ⊎_elim (λ o. beyond old j o ∙ sym (beyond ws j (omega arith))) (λ o. f j o) (either j (length old)) in
          ⊎_elim (λ x. inl x) (λ f. inr (front f)) (subst (λ m. IsPassedBy ds m old ws) e (same_up_to ws h i n (λ j d p q g v a. great j d p (omega arith) g v a) (omega arith) same))

  -- where every value up to the reach is the greatest one, all other lists are passed
  pub all_passed : (r : ℕ) → GreatestFrom 0 r → (ws : List ℕ) → AreAllowed ds ws → IsPassedBy ds r old ws
  all_passed r great ws h = passed_from ws h 0 r (omega arith) (omega arith) great (λ j k. absurd (omega arith))

  -- the next list: the value at i is the least greater one, and those behind it are the least ones
  module _ (new : List ℕ) (i r : ℕ) (next : ℕ) where
    pub record Moves : Type 0 where
      pub count : length new ≡ length ds
      pub within : i < length old
      pub reach : i < r
      pub great : GreatestFrom (suc i) r
      pub front : (j : ℕ) → j < i → slice_index new j ≡ slice_index old j
      pub at : slice_index new i ≡ next
      pub less : slice_index old i < next
      pub allowed_next : (d : List Bool) → slice_get ds i ≡ Some d → IsAllowed d next
      pub between : (d : List Bool) → slice_get ds i ≡ Some d → (v : ℕ) → slice_index old i < v → v < next → IsAllowed d v → ⊥
      pub least : AreLeastFrom (suc i) ds new

    pub next_list : Moves → IsNext ds r old new
    next_list m = record {
      allowed = record { count = m.count; each = each };
      later = record { at = i; within = (let c = m.count in let d = allowed.count in let w = m.within in omega arith); same = λ j k. sym (m.front j k); less = (let a = m.at in let l = m.less in omega arith) };
      passed = passed;
    }
      where
        order : (j k : ℕ) → (j < k) ⊎ ((j ≡ k) ⊎ (k < j))
        order zero zero = inr (inl refl)
        order zero (suc k) = inl (omega arith)
        order (suc j) zero = inr (inr (omega arith))
        order (suc j) (suc k) = ⊎_elim (λ e. inl (omega arith)) (λ e. inr (⊎_elim (λ q. inl (ap suc q)) (λ q. inr (omega arith)) e)) (order j k)

        each : (j : ℕ) (d : List Bool) → slice_get ds j ≡ Some d → IsAllowed d (slice_index new j)
        each j d g =
            ⊎_elim
            (λ l. subst (IsAllowed d) (sym (m.front j l)) (allowed.each j d g))
            (λ e. ⊎_elim
            (λ q. subst (λ k. IsAllowed d (slice_index new k)) (sym q) (subst (IsAllowed d) (sym m.at) (m.allowed_next d (subst (λ k. slice_get ds k ≡ Some d) q g))))
            (λ l. (m.least j d (omega arith) g).0)
            e)
            (order j i)

        passed : (ws : List ℕ) → AreAllowed ds ws → IsEarlier ws new → IsPassedBy ds r old ws
        passed ws h e =
            ⊎_elim before (λ o. ⊎_elim at_place behind o) (order e.at i)
          where
            before : e.at < i → IsPassedBy ds r old ws
            before l =
                inl (record {
                  at = e.at;
                  within = (let w = m.within in omega arith);
                  same = λ j k. e.same j k ∙ m.front j (omega arith);
                  less = subst (λ x. slice_index ws e.at < x) (m.front e.at l) e.less;
                })

            front_same : SameFront i old new
            front_same j k = sym (m.front j k)

            at_place : e.at ≡ i → IsPassedBy ds r old ws
            at_place q =
                let c = allowed.count in
                let w = m.within in
                let s = some_domain ds i (omega arith) in
                let lower : slice_index ws i < next = subst (λ x. slice_index ws i < x) m.at (subst (λ k. slice_index ws k < slice_index new k) q e.less) in
                let same : SameFront i old ws = λ j k. sym (e.same j (omega arith) ∙ m.front j k) in
                ⊎_elim
                (λ l. inl (record { at = i; within = w; same = λ j k. sym (same j k); less = l }))
                (λ o. ⊎_elim
                (λ x. passed_from ws h (suc i) r m.reach (omega arith) m.great (λ j k. up_to same (sym x) j k))
                (λ l. absurd (m.between s.0 s.1 (slice_index ws i) l lower (h.each i s.0 s.1)))
                o)
                (order (slice_index ws i) (slice_index old i))
              where
                up_to : SameFront i old ws → slice_index old i ≡ slice_index ws i → (j : ℕ) → j < suc i → slice_index old j ≡ slice_index ws j
                up_to same x j k = ⊎_elim (λ q. ap (slice_index old) q ∙ x ∙ ap (slice_index ws) (sym q)) (λ l. same j l) (eq-or-lt_of_le (le_of_suc-le-suc k))

            behind : i < e.at → IsPassedBy ds r old ws
            behind l =
                let c = m.count in
                let w = e.within in
                let s = some_domain ds e.at (omega arith) in
                let least = (m.least e.at s.0 (omega arith) s.1).1 (slice_index ws e.at) (h.each e.at s.0 s.1) in
                let less = e.less in
                absurd (omega arith)

-- THE STEPS OF THE CODE

pub got : {A : Type 0} (xs : List A) (i : ℕ) (x : A) → i < length xs → x ≡ slice_index_or xs i x → slice_get xs i ≡ Some x
got [] i x l e = absurd (omega arith)
got (y ∷ xs) zero x l e = ap Some (sym e)
got (y ∷ xs) (suc i) x l e = got xs i x (omega arith) e

pub get_within : {A : Type 0} (xs : List A) (i : ℕ) (x : A) → slice_get xs i ≡ Some x → i < length xs
get_within [] i x g = cc
get_within (y ∷ xs) zero x g = omega arith
get_within (y ∷ xs) (suc i) x g = omega (arith, get_within xs i x g)

pub set_here : (xs : List ℕ) (i v : ℕ) → i < length xs → slice_index (slice_set xs i v) i ≡ v
set_here xs i v l = get_or-set_same xs i v 0 l

pub set_elsewhere : (xs : List ℕ) (i j v : ℕ) → (j ≡ i → ⊥) → slice_index (slice_set xs i v) j ≡ slice_index xs j
set_elsewhere xs i j v n = get_or-set_other xs i j v 0 n

pub moved : (ds : List (List Bool)) (old cur new : List ℕ) → AreAllowed ds old → (i reach next : ℕ) (d : List Bool) → cur ≡ old → 0 < i → i ≤ length cur → i ≤ reach → ((j : ℕ) (d : List Bool) → i ≤ j → j < reach → slice_get ds j ≡ Some d → (v : ℕ) → IsAllowed d v → v ≤ slice_index old j) → slice_get ds (i - 1) ≡ Some d → slice_index cur (i - 1) + 1 ≤ next → IsAllowed d next → ((v : ℕ) → slice_index cur (i - 1) + 1 ≤ v → v < next → IsAllowed d v → ⊥) → length new ≡ length ds → ((j : ℕ) → j < i - 1 + 1 → slice_index new j ≡ slice_index (slice_set cur (i - 1) next) j) → AreLeastFrom (i - 1 + 1) ds new → IsNext ds reach old new
moved ds old cur new allowed i reach next d same pos within reached great g from found before count front least =
    let k : ℕ = i - 1 in
    let there : slice_index cur k ≡ slice_index old k = ap (λ xs. slice_index xs k) same in
    let longs : length cur ≡ length old = ap length same in
    next_list ds old allowed new k reach next
    (record {
      count = count;
      within = omega arith;
      reach = omega arith;
      great = λ j e l m q v a. great j e (omega arith) m q v a;
      front = λ j l. front j (omega arith) ∙ set_elsewhere cur k j next (λ e. absurd (omega arith)) ∙ ap (λ xs. slice_index xs j) same;
      at = front k (omega arith) ∙ set_here cur k next (omega arith);
      less = omega arith;
      allowed_next = λ e q. let r = g in let p : d ≡ e = cc in subst (λ x. IsAllowed x next) p found;
      between = λ e q v l m a. let r = g in let p : e ≡ d = cc in before v (omega arith) m (subst (λ x. IsAllowed x v) p a);
      least = λ j e l q. least j e (omega arith) q;
    })

-- one value more is reset
pub reset_more : (ds : List (List Bool)) (cur : List ℕ) (from i next : ℕ) (d : List Bool) → i < length cur → slice_get ds i ≡ Some d → IsAllowed d next → ((v : ℕ) → v < next → IsAllowed d v → ⊥) → ((j : ℕ) (e : List Bool) → from ≤ j → j < i → slice_get ds j ≡ Some e → IsAllowed e (slice_index cur j) × ((v : ℕ) → IsAllowed e v → slice_index cur j ≤ v)) → (j : ℕ) (e : List Bool) → from ≤ j → j < i + 1 → slice_get ds j ≡ Some e → IsAllowed e (slice_index (slice_set cur i next) j) × ((v : ℕ) → IsAllowed e v → slice_index (slice_set cur i next) j ≤ v)
reset_more ds cur from i next d l g found before least j e p q r =
    ⊎_elim
    (λ x.
    let h = set_here cur i next l in
    let is : slice_index (slice_set cur i next) j ≡ next = ap (slice_index (slice_set cur i next)) x ∙ h in
    let s : slice_get ds i ≡ Some e = subst (λ k. slice_get ds k ≡ Some e) x r in
    let same : d ≡ e = cc in
    (subst (IsAllowed e) (sym is) (subst (λ y. IsAllowed y next) same found), λ v a. least_one v is (subst (λ y. IsAllowed y v) (sym same) a)))
    (λ k.
    let is = set_elsewhere cur i j next (λ x. absurd (omega arith)) in
    let h = least j e p k r in
    (subst (IsAllowed e) (sym is) h.0, λ v a. let m = h.1 v a in omega arith))
    (eq-or-lt_of_le (below j i q))
  where
    below : (j i : ℕ) → j < i + 1 → j ≤ i
    below j i k = omega arith

    least_one : (v : ℕ) → slice_index (slice_set cur i next) j ≡ next → IsAllowed d v → slice_index (slice_set cur i next) j ≤ v
    least_one v is a = ⊎_elim (λ k. absurd (before v k a)) (λ k. omega arith) (split v next)
      where
        split : (a b : ℕ) → (a < b) ⊎ (b ≤ a)
        split a zero = inr (omega arith)
        split zero (suc b) = inl (omega arith)
        split (suc a) (suc b) = ⊎_elim (λ e. inl (omega arith)) (λ e. inr (omega arith)) (split a b)

-- the first list is the least one
pub none_before : (ds : List (List Bool)) (vs : List ℕ) → length vs ≡ length ds → AreLeastFrom 0 ds vs → AreAllowed ds vs × ((ws : List ℕ) → AreAllowed ds ws → IsEarlier ws vs → ⊥)
none_before ds vs c least = (
  record { count = c; each = λ i d g. (least i d (omega arith) g).0 },
  λ ws h e. refuted ws h e,
)
  where
    some : (ds : List (List Bool)) (i : ℕ) → i < length ds → (d : List Bool) × (slice_get ds i ≡ Some d)
    some [] i l = absurd (omega arith)
    some (d ∷ ds) zero l = (d, refl)
    some (d ∷ ds) (suc i) l = some ds i (omega arith)

    refuted : (ws : List ℕ) → AreAllowed ds ws → IsEarlier ws vs → ⊥
    refuted ws h e =
        let w = e.within in
        let s = some ds e.at (omega arith) in
        let m = (least e.at s.0 (omega arith) s.1).1 (slice_index ws e.at) (h.each e.at s.0 s.1) in
        let l = e.less in
        absurd (omega arith)

-- where there is an allowed value, the least one is found
pub least_within : (d : List Bool) (n v : ℕ) → IsAllowed d v → n ≤ length d → ((v : ℕ) → v < n → IsAllowed d v → ⊥) → n < length d
least_within d n v a l before =
    ⊎_elim (λ e. absurd (before v (let k = allowed-lt d v a in omega arith) a)) (λ k. k) (eq-or-lt_of_le l)

-- no list that is earlier than the next one passes
pub goes_on : (P : List ℕ → Type 0) (ds : List (List Bool)) (r : ℕ) (old new : List ℕ) → ((ws : List ℕ) → AreAllowed ds ws → IsEarlier ws old → P ws → ⊥) → ((ws : List ℕ) → SameFront r old ws → P ws → ⊥) → IsNext ds r old new → (ws : List ℕ) → AreAllowed ds ws → IsEarlier ws new → P ws → ⊥
goes_on P ds r old new before same next ws h e p = ⊎_elim (λ x. before ws h x p) (λ x. same ws x p) (next.passed ws h e)

-- where there is no next one, none passes
pub ends_here : (P : List ℕ → Type 0) (ds : List (List Bool)) (r : ℕ) (old : List ℕ) → ((ws : List ℕ) → AreAllowed ds ws → IsEarlier ws old → P ws → ⊥) → ((ws : List ℕ) → SameFront r old ws → P ws → ⊥) → ((ws : List ℕ) → AreAllowed ds ws → IsPassedBy ds r old ws) → (ws : List ℕ) → AreAllowed ds ws → P ws → ⊥
ends_here P ds r old before same passed ws h p = ⊎_elim (λ x. before ws h x p) (λ x. same ws x p) (passed ws h)

-- where a place has no allowed value, there is no list
pub not_filled : (ds : List (List Bool)) → (AreFilled ds → ⊥) → (ws : List ℕ) → AreAllowed ds ws → ⊥
not_filled ds n ws h = n (λ i d g. (slice_index ws i, h.each i d g))

-- the measure falls
pub rank_falls : (ds : List (List Bool)) (r : ℕ) (old new : List ℕ) → AreAllowed ds old → IsNext ds r old new → lists ds - rank ds new < lists ds - rank ds old
rank_falls ds r old new h next =
    omega (arith, earlier_rank ds old new h next.allowed next.later, rank-lt ds new next.allowed)
