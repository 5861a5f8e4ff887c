-- Heads that fit a hole, one after the other.
use Rattle.std.specs.Prelude.{◌≡◌, ◌≢◌, ◌<◌, ◌≤◌, ◌+◌, ◌-◌, nat_eq, ℕ, zero, suc, Bool, true, false, List, [], ◌∷◌, ◌++◌, map, take, drop, get_or, length, slice_get, Option, Some, None, refl, if◌then◌else◌}
use Rattle.std.proofs.Common.{sym, ap, ap₂, subst, ◌∙◌, arith, append_assoc, length-append, take-append-drop, length-take-le}
use Rattle.std.proofs.lemmas.List.{length-map}
use Rattle.stt_core.specs.SimpleType.{SimpleType, base, target}
use Rattle.stt_core.specs.Lambda.{Lambda, bound, constant, name, witness, all, equality}
use Rattle.stt_core.specs.Typing.{Scope}
use Rattle.stt_core.proofs.ListLaws.{mapped_get, drop_got, slice_get-append}
use Rattle.tableau_calculus.specs.Each.{Each}
use Rattle.search_spec.specs.Heads.{HeadOffers, places_to, logical_heads, heads_for}
use Rattle.search_spec.specs.Partial.{Hole}
use Rattle.prover_state.specs.Internal.Fitting.{variables_for, names_for, chooses_for, over_bases, logical_for, later_heads, SplitsAt}
use Rattle.head_offers.specs.Offering.{the_offers}
use Rattle.prover_state.specs.Internal.Offering.{offered_among}
use Rattle.prover_state.specs.Internal.Pending.{base_of}
use Rattle.prover_state.specs.declared.command.Planned.{Planned}
use Rattle.prover_state.specs.declared.command.Delays.{Delays}
use Rattle.prover_state.specs.declared.tables.Tables.{Tables}
use Rattle.prover_state.specs.Internal.Standing.{without_witnesses, rows_in, IsRightState}
use Rattle.command_queue.specs.Queue.{Queue}
use Rattle.instantiate.specs.Listing.{ids_of}
use Rattle.tableau_calculus.specs.Witnesses.{Row, with_rows}
use Rattle.prover_state.proofs.EachLaws.{each-weaker}

-- PLACES BY TARGET TYPES

-- what begins at a place
places_here : (b i : ℕ) (types : List SimpleType) (a : SimpleType) → slice_get types i ≡ Some a
    → places_to b i (drop i types) ≡ (if nat_eq (target a) b then i ∷ places_to b (i + 1) (drop (i + 1) types) else places_to b (i + 1) (drop (i + 1) types))
places_here b i types a at =
    ap (places_to b i) (drop_got types i a at)
    ∙ sym (ap (λ n. if nat_eq (target a) b then i ∷ places_to b n (drop (i + 1) types) else places_to b n (drop (i + 1) types)) (let n : i + 1 ≡ suc i = omega arith in n))

pub count-step : (b i : ℕ) (types : List SimpleType) (a : SimpleType) (old new : ℕ) (fits : Bool) → slice_get types i ≡ Some a → fits ≡ nat_eq (target a) b → new ≡ (if fits then old + 1 else old)
    → new + length (places_to b (i + 1) (drop (i + 1) types)) ≡ old + length (places_to b i (drop i types))
count-step b i types a old new fits at e is =
    ap (λ n. n + length rest) is ∙ go fits
    ∙ ap (λ (x : Bool). old + length (if x then i ∷ rest else rest)) e
    ∙ ap (λ (xs : List ℕ). old + length xs) (sym (places_here b i types a at))
  where
    rest : List ℕ
    rest = places_to b (i + 1) (drop (i + 1) types)

    go : (x : Bool) → (if x then old + 1 else old) + length rest ≡ old + length (if x then i ∷ rest else rest)
    go true = omega arith
    go false = refl

module _ (b i : ℕ) (types : List SimpleType) (a : SimpleType) (at : slice_get types i ≡ Some a) (fits : Bool) (e : fits ≡ nat_eq (target a) b) where
  abbrev behind : List ℕ
  behind = places_to b (i + 1) (drop (i + 1) types)

  from_here : places_to b i (drop i types) ≡ (if fits then i ∷ behind else behind)
  from_here = places_here b i types a at ∙ ap (λ (x : Bool). if x then i ∷ behind else behind) (sym e)

  pub variable-here : (left : ℕ) → fits ≡ true → left ≡ 0 → slice_get (places_to b i (drop i types)) left ≡ Some i
  variable-here left f z = ap₂ slice_get (from_here ∙ ap (λ (x : Bool). if x then i ∷ behind else behind) f) z

  pub variable-next : (left : ℕ) → fits ≡ true → left ≢ 0 → slice_get behind (left - 1) ≡ slice_get (places_to b i (drop i types)) left
  variable-next zero f z = absurd (z refl)
  variable-next (suc k) f z =
      ap (slice_get behind) (let n : suc k - 1 ≡ k = omega arith in n)
      ∙ sym (ap (λ xs. slice_get xs (suc k)) (from_here ∙ ap (λ (x : Bool). if x then i ∷ behind else behind) f))

  pub variable-later : (left : ℕ) → fits ≡ false → slice_get behind left ≡ slice_get (places_to b i (drop i types)) left
  variable-later left f = sym (ap (λ xs. slice_get xs left) (from_here ∙ ap (λ (x : Bool). if x then i ∷ behind else behind) f))

past_end : {X : Type 0} (xs : List X) (i : ℕ) → length xs ≤ i → drop i xs ≡ []
past_end [] zero h = refl
past_end [] (suc i) h = refl
past_end (x ∷ xs) zero h = absurd (omega (arith, h))
past_end (x ∷ xs) (suc i) h = past_end xs i (omega (arith, h))

pub got : {X : Type 0} (xs : List X) (i : ℕ) → i < length xs → (x : X) × (slice_get xs i ≡ Some x)
got [] i h = absurd (omega (arith, h))
got (x ∷ xs) zero h = (x, refl)
got (x ∷ xs) (suc i) h = got xs i (omega (arith, h))

-- behind the last one is none
pub none-behind : (b i left place : ℕ) (types : List SimpleType) → length types ≤ i → slice_get (places_to b i (drop i types)) left ≡ slice_get (places_to b 0 types) place → place < length (places_to b 0 types) → ⊥
none-behind b i left place types past e within =
    let found = got (places_to b 0 types) place within in
    let none : slice_get (places_to b i (drop i types)) left ≡ None = ap (λ (ts : List SimpleType). slice_get (places_to b i ts) left) (past_end types i past) in
    let some = e ∙ found.1 in
    cc

-- what stands behind a first list
pub get-behind : {X : Type 0} (xs ys : List X) (i : ℕ) → length xs ≤ i → slice_get (xs ++ ys) i ≡ slice_get ys (i - length xs)
get-behind [] ys i h = ap (slice_get ys) (let e : i ≡ i - 0 = omega arith in e)
get-behind (x ∷ xs) ys zero h = absurd (omega (arith, h))
get-behind (x ∷ xs) ys (suc i) h = get-behind xs ys i (omega (arith, h)) ∙ ap (slice_get ys) (let e : i - length xs ≡ suc i - length (x ∷ xs) = omega arith in e)

-- .. and in it
pub get-before : {X : Type 0} (xs ys : List X) (i : ℕ) → i < length xs → slice_get (xs ++ ys) i ≡ slice_get xs i
get-before [] ys i h = absurd (omega (arith, h))
get-before (x ∷ xs) ys zero h = refl
get-before (x ∷ xs) ys (suc i) h = get-before xs ys i (omega (arith, h))

-- THE LOGIC'S OWN HEADS

module _ (bs : List ℕ) where
  abbrev equality_on : SimpleType → Lambda
  equality_on c = constant (equality c)

  abbrev all_on : SimpleType → Lambda
  all_on c = constant (all c)

  pub equality-at : (i n : ℕ) → slice_get bs i ≡ Some n → slice_get (over_bases (map base bs)) i ≡ Some (constant (equality (base n)))
  equality-at i n at = slice_get-append (map equality_on (map base bs)) (map all_on (map base bs)) i (equality_on (base n)) (mapped_get equality_on (map base bs) i (base n) (mapped_get base bs i n at))

  pub quantifier-at : (i n : ℕ) → length bs ≤ i → slice_get bs (i - length bs) ≡ Some n → slice_get (over_bases (map base bs)) i ≡ Some (constant (all (base n)))
  quantifier-at i n h at =
      let m = length-map bs base in
      let k = length-map (map base bs) equality_on in
      get-behind (map equality_on (map base bs)) (map all_on (map base bs)) i (omega (arith, h, m, k))
      ∙ ap (slice_get (map all_on (map base bs))) (let e : i - length (map equality_on (map base bs)) ≡ i - length bs = omega (arith, m, k) in e)
      ∙ mapped_get all_on (map base bs) (i - length bs) (base n) (mapped_get base bs (i - length bs) n at)

  pub quantifier-within : (i : ℕ) → i < length (over_bases (map base bs)) → length bs ≤ i → i - length bs < length bs
  quantifier-within i l h =
      let m = length-map bs base in
      let k = length-map (map base bs) equality_on in
      let j = length-map (map base bs) all_on in
      let a = length-append (map equality_on (map base bs)) (map all_on (map base bs)) in
      omega (arith, l, h, m, k, j, a)

-- PLACES BELOW A NUMBER

pub places-append : (b k : ℕ) (xs ys : List SimpleType) → places_to b k (xs ++ ys) ≡ places_to b k xs ++ places_to b (k + length xs) ys
places-append b k [] ys = ap (λ n. places_to b n ys) (let e : k ≡ k + 0 = omega arith in e)
places-append b k (x ∷ xs) ys = go (nat_eq (target x) b) (places-append b (suc k) xs ys ∙ ap (λ n. places_to b (suc k) xs ++ places_to b n ys) (let e : suc k + length xs ≡ k + length (x ∷ xs) = omega arith in e))
  where
    go : (c : Bool) → places_to b (suc k) (xs ++ ys) ≡ places_to b (suc k) xs ++ places_to b (k + length (x ∷ xs)) ys
        → (if c then k ∷ places_to b (suc k) (xs ++ ys) else places_to b (suc k) (xs ++ ys)) ≡ (if c then k ∷ places_to b (suc k) xs else places_to b (suc k) xs) ++ places_to b (k + length (x ∷ xs)) ys
    go true e = ap (λ ks. k ∷ ks) e
    go false e = e

pub places-range : (b k : ℕ) (xs : List SimpleType) → Each (λ i. (k ≤ i) × (i < k + length xs)) (places_to b k xs)
places-range b k [] = tt
places-range b k (x ∷ xs) =
    go (nat_eq (target x) b) (each-weaker (λ i. (suc k ≤ i) × (i < suc k + length xs)) (λ i. (k ≤ i) × (i < k + length (x ∷ xs))) (λ i h. (omega (arith, h.0), omega (arith, h.1))) (places_to b (suc k) xs) (places-range b (suc k) xs))
  where
    go : (c : Bool) → Each (λ i. (k ≤ i) × (i < k + length (x ∷ xs))) (places_to b (suc k) xs) → Each (λ i. (k ≤ i) × (i < k + length (x ∷ xs))) (if c then k ∷ places_to b (suc k) xs else places_to b (suc k) xs)
    go true rest = ((omega arith, omega arith), rest)
    go false rest = rest

each_get : (n : ℕ) (xs : List ℕ) (i : ℕ) → Each (λ x. n ≤ x) xs → i < length xs → n ≤ get_or xs i 0
each_get n [] i h k = absurd (omega (arith, k))
each_get n (x ∷ xs) zero h k = h.0
each_get n (x ∷ xs) (suc i) h k = each_get n xs i h.1 (omega (arith, k))

pub split-count : (n : ℕ) (ws os : List ℕ) (k : ℕ) → Each (λ i. i < n) ws → Each (λ i. n ≤ i) os → SplitsAt n (ws ++ os) k → k ≡ length ws
split-count n [] os zero a b s = refl
split-count n [] os (suc k) a b s = absurd (omega (arith, s.before k refl, each_get n os k b (omega (arith, s.within))))
split-count n (w ∷ ws) os zero a b s = absurd (omega (arith, a.0, s.behind.0))
split-count n (w ∷ ws) os (suc k) a b s =
    ap suc (split-count n ws os k a.1 b (record { within = omega (arith, s.within); behind = s.behind; before = λ i e. s.before (suc i) (ap suc e) }))

-- HEADS AT PLACES

module _ (b n : ℕ) (types : List SimpleType) (few : n ≤ length types) (logic : List Lambda) (all : List ℕ) (are : all ≡ places_to b 0 types) (k : ℕ) (splits : SplitsAt n all k) where
  abbrev first : List ℕ
  first = places_to b 0 (take n types)

  abbrev others : List ℕ
  others = places_to b (0 + length (take n types)) (drop n types)

  abbrev as_witness : ℕ → Lambda
  as_witness i = constant (witness i)

  split : all ≡ first ++ others
  split = are ∙ ap (places_to b 0) (sym (take-append-drop n types)) ∙ places-append b 0 (take n types) (drop n types)

  count : k ≡ length first
  count =
      let taken = length-take-le n types few in
      split-count n first others k
      (each-weaker (λ i. (0 ≤ i) × (i < 0 + length (take n types))) (λ i. i < n) (λ i h. omega (arith, h.1, taken)) first (places-range b 0 (take n types)))
      (each-weaker (λ i. (0 + length (take n types) ≤ i) × (i < 0 + length (take n types) + length (drop n types))) (λ i. n ≤ i) (λ i h. omega (arith, h.0, taken)) others (places-range b (0 + length (take n types)) (drop n types)))
      (let S : List ℕ → Type 0 = λ xs. SplitsAt n xs k in subst S split splits)

  pub witness-at : (i w : ℕ) → i < k → slice_get all i ≡ Some w → slice_get (map as_witness first ++ logic) i ≡ Some (as_witness w)
  witness-at i w h at =
      let c = count in
      slice_get-append (map as_witness first) logic i (as_witness w)
      (mapped_get as_witness first i w (sym (get-before first others i (omega (arith, h, c))) ∙ ap (λ xs. slice_get xs i) (sym split) ∙ at))

  pub logical-within : (i : ℕ) → k ≤ i → i < length (map as_witness first ++ logic) → i - k < length logic
  logical-within i h l =
      let c = count in
      let m = length-map first as_witness in
      let a = length-append (map as_witness first) logic in
      omega (arith, h, l, c, m, a)

  pub logical-at : (i : ℕ) (t : Lambda) → k ≤ i → slice_get logic (i - k) ≡ Some t → slice_get (map as_witness first ++ logic) i ≡ Some t
  logical-at i t h at =
      let c = count in
      let m = length-map first as_witness in
      get-behind (map as_witness first) logic i (omega (arith, h, c, m))
      ∙ ap (slice_get logic) (let e : i - length (map as_witness first) ≡ i - k = omega (arith, c, m) in e)
      ∙ at

logical_is : (offers : HeadOffers) (scope : Scope) (n : ℕ) → logical_heads offers scope n true ≡ logical_for (offered_among offers scope.bases) n
logical_is offers scope zero = refl
logical_is offers scope (suc n) = refl

-- the heads for a hole, one kind after the other
pub heads-list : (offers : HeadOffers) (scope : Scope) (o : Option Hole) (i : ℕ) → i < length (heads_for offers scope o)
    → heads_for offers scope o ≡ map bound (variables_for o) ++ (map (λ k. constant (name k)) (names_for offers scope (base_of o)) ++ later_heads offers scope (base_of o) (chooses_for offers scope o))
heads-list offers scope None i h = absurd (omega (arith, h))
heads-list offers scope (Some h) i l =
    let vs = map bound (places_to h.base 0 h.context) in
    let ns : List Lambda = map (λ k. constant (name k)) (names_for offers scope h.base) in
    let ws : List Lambda = map (λ k. constant (witness k)) (places_to h.base 0 scope.witnesses) in
    let logic = logical_heads offers scope h.base (chooses_for offers scope (Some h)) in
    append_assoc (vs ++ ns) ws logic ∙ append_assoc vs ns (ws ++ logic)

-- With the choice there may be one head more, at the end.
pub later-longer : (offers : HeadOffers) (scope : Scope) (n : ℕ) (chooses : Bool) → length (later_heads offers scope n chooses) ≤ length (later_heads offers scope n true)
later-longer offers scope zero chooses = omega arith
later-longer offers scope (suc n) true = omega arith
later-longer offers scope (suc n) false =
    let ws : List Lambda = map (λ k. constant (witness k)) (places_to (suc n) 0 scope.witnesses) in
    let a = length-append ws [] in
    let b = length-append ws (logical_heads offers scope (suc n) true) in
    omega (arith, a, b)

pub later-same : (offers : HeadOffers) (scope : Scope) (n : ℕ) (chooses : Bool) (i : ℕ) → i < length (later_heads offers scope n chooses) → slice_get (later_heads offers scope n chooses) i ≡ slice_get (later_heads offers scope n true) i
later-same offers scope zero chooses i h = refl
later-same offers scope (suc n) true i h = refl
later-same offers scope (suc n) false i h =
    let ws : List Lambda = map (λ k. constant (witness k)) (places_to (suc n) 0 scope.witnesses) in
    let within : i < length ws = (let a = length-append ws [] in omega (arith, h, a)) in
    get-before ws [] i within ∙ sym (get-before ws (logical_heads offers scope (suc n) true) i within)

module _ (vs ns : List ℕ) (later all : List Lambda) (are : all ≡ map bound vs ++ (map (λ k. constant (name k)) ns ++ later)) where
  abbrev as_name : ℕ → Lambda
  as_name i = constant (name i)

  pub variable-at : (i v : ℕ) → slice_get vs i ≡ Some v → slice_get all i ≡ Some (bound v)
  variable-at i v at = ap (λ xs. slice_get xs i) are ∙ slice_get-append (map bound vs) (map as_name ns ++ later) i (bound v) (mapped_get bound vs i v at)

  behind_variables : (i : ℕ) → length vs ≤ i → slice_get all i ≡ slice_get (map as_name ns ++ later) (i - length vs)
  behind_variables i h =
      let m = length-map vs bound in
      ap (λ xs. slice_get xs i) are
      ∙ get-behind (map bound vs) (map as_name ns ++ later) i (omega (arith, h, m))
      ∙ ap (slice_get (map as_name ns ++ later)) (let e : i - length (map bound vs) ≡ i - length vs = omega (arith, m) in e)

  pub name-at : (i v : ℕ) → length vs ≤ i → slice_get ns (i - length vs) ≡ Some v → slice_get all i ≡ Some (as_name v)
  name-at i v h at = behind_variables i h ∙ slice_get-append (map as_name ns) later (i - length vs) (as_name v) (mapped_get as_name ns (i - length vs) v at)

  pub later-within : (i : ℕ) → i < length all → length vs ≤ i → length ns ≤ i - length vs → i - length vs - length ns < length later
  later-within i l h k =
      let a = ap length are in
      let b = length-append (map bound vs) (map as_name ns ++ later) in
      let c = length-append (map as_name ns) later in
      let m = length-map vs bound in
      let n = length-map ns as_name in
      omega (arith, l, h, k, a, b, c, m, n)

  pub later-at : (i : ℕ) (t : Lambda) → length vs ≤ i → length ns ≤ i - length vs → slice_get later (i - length vs - length ns) ≡ Some t → slice_get all i ≡ Some t
  later-at i t h k at =
      let n = length-map ns as_name in
      behind_variables i h
      ∙ get-behind (map as_name ns) later (i - length vs) (omega (arith, k, n))
      ∙ ap (slice_get later) (let e : i - length vs - length (map as_name ns) ≡ i - length vs - length ns = omega (arith, n) in e)
      ∙ at

-- WITNESSES AND LOGICAL HEADS BY TABLES

pub mapped_take : {X Y : Type 0} (f : X → Y) (n : ℕ) (xs : List X) → map f (take n xs) ≡ take n (map f xs)
mapped_take f zero xs = refl
mapped_take f (suc n) [] = refl
mapped_take f (suc n) (x ∷ xs) = ap (λ ys. f x ∷ ys) (mapped_take f n xs)

module _ (t : Tables) (q : Queue Planned Delays) (r : IsRightState t q) (b n : ℕ) (few : n ≤ length (rows_in t.basis)) (k : ℕ) (splits : SplitsAt n (ids_of (base b) t.takers) k) where
  abbrev types : List SimpleType
  types = map (λ (x : Row). x.type) (rows_in t.basis)

  abbrev offers : HeadOffers
  offers = the_offers t.offers

  abbrev scope : Scope
  scope = with_rows (without_witnesses t.basis.bank) (take n (rows_in t.basis))

  abbrev logic_of : List Lambda
  logic_of = logical_for (map base t.bases.items) b

  few_types : n ≤ length types
  few_types = let m = length-map (rows_in t.basis) (λ (x : Row). x.type) in omega (arith, few, m)

  later_are : later_heads offers scope b true ≡ map (λ k. constant (witness k)) (places_to b 0 (take n types)) ++ logic_of
  later_are =
      ap (λ (ts : List SimpleType). map (λ k. constant (witness k)) (places_to b 0 ts) ++ logical_heads offers scope b true) (mapped_take (λ (x : Row). x.type) n (rows_in t.basis))
      ∙ ap (λ (ls : List Lambda). map (λ k. constant (witness k)) (places_to b 0 (take n types)) ++ ls) (logical_is offers scope b ∙ ap (λ (bs : List SimpleType). logical_for bs b) (sym r.offered.bases))

  pub witness-there : (i w : ℕ) → i < k → slice_get (ids_of (base b) t.takers) i ≡ Some w → slice_get (later_heads offers scope b true) i ≡ Some (constant (witness w))
  witness-there i w h at = ap (λ xs. slice_get xs i) later_are ∙ witness-at b n types few_types logic_of (ids_of (base b) t.takers) (r.takers b) k splits i w h at

  pub logical-below : (i : ℕ) → k ≤ i → i < length (later_heads offers scope b true) → i - k < length logic_of
  logical-below i h l = let e = ap length later_are in logical-within b n types few_types logic_of (ids_of (base b) t.takers) (r.takers b) k splits i h (omega (arith, l, e))

  pub logical-there : (i : ℕ) (u : Lambda) → k ≤ i → slice_get logic_of (i - k) ≡ Some u → slice_get (later_heads offers scope b true) i ≡ Some u
  logical-there i u h at = ap (λ xs. slice_get xs i) later_are ∙ logical-at b n types few_types logic_of (ids_of (base b) t.takers) (r.takers b) k splits i u h at
