-- Before which place the commands of a loop wait as much longer than others of their kind as the first one does.
use Rattle.std.specs.Prelude.{◌≡◌, ◌==◌, ◌≤◌, ◌<◌, ◌+◌, ◌-◌, ◌++◌, ℕ, zero, suc, Bool, true, false, ◌||◌, List, [], ◌∷◌, map, filter, take, length, nat_lt, Option, Some, None, refl, if◌then◌else◌}
use Rattle.std.proofs.Common.{sym, ap, subst, ◌∙◌, arith, eqb-true, ltb-true, length-append}
use Rattle.std.proofs.lemmas.List.{length-map}
use Rattle.stt_core.specs.Lambda.{Lambda, bound, constant, name, witness, all, equality}
use Rattle.stt_core.specs.SimpleType.{SimpleType}
use Rattle.stt_core.specs.Typing.{Scope}
use Rattle.tableau_calculus.specs.Literals.{Literal}
use Rattle.tableau_calculus.specs.Witnesses.{with_rows}
use Rattle.mode_file.specs.declared.Mode.{Mode}
use Rattle.search_spec.specs.Defaults.{is_value_choice, default_delay}
use Rattle.tableau_calculus.specs.Each.{Each}
use Rattle.search_spec.specs.Heads.{HeadOffers, places_to, is_offered, offered_bases, given_heads, is_none_given, logical_heads, heads_for}
use Rattle.search_spec.specs.Partial.{Hole, first_hole}
use Rattle.search_spec.specs.Partners.{positive_first}
use Rattle.search_spec.specs.State.{State, Command as Meant, process, mate, confront, inst, grow, choose, describe}
use Rattle.search_spec.proofs.NamingLaws.{each-joined}
use Rattle.prover_state.specs.declared.command.Over.{Over}
use Rattle.prover_state.specs.declared.command.Over.TheVariants.{Terms, Universals, Negatives, Positives, Heads, Parked}
use Rattle.prover_state.specs.Internal.Pending.{over_universals, over_negatives, over_positives, over_heads, over_parked, loop_over, between}
use Rattle.prover_state.specs.Internal.Pieces.{extra_delay, even_with_defaults, even_until}
use Rattle.prover_state.proofs.EachLaws.{each-map}
use Rattle.prover_state.proofs.FittingLaws.{mapped_take}
use Rattle.prover_state.proofs.PushLaws.{each_of_all, each-take}

-- HEADS THAT CHOOSE NO VALUE

abbrev IsPlain : Lambda → Type 0
IsPlain h = is_value_choice h ≡ false

plain_logical : (offers : HeadOffers) (scope : Scope) (chooses : Bool) → Each IsPlain (logical_heads offers scope zero chooses)
plain_logical offers scope chooses =
    let f : SimpleType → Lambda = λ c. constant (equality c) in
    let k : SimpleType → Lambda = λ c. constant (all c) in
    let bs = offered_bases offers scope in
    (refl, (refl, (refl, (refl, each-joined IsPlain (map f bs) (map k bs) (each_of_all IsPlain f (λ x. refl) bs) (each_of_all IsPlain k (λ x. refl) bs)))))

-- the heads before the logic's own
plain_front : (vs ns ws : List ℕ) → Each IsPlain (map bound vs ++ map (λ k. constant (name k)) ns ++ map (λ k. constant (witness k)) ws)
plain_front vs ns ws =
    let f : ℕ → Lambda = λ k. constant (name k) in
    let g : ℕ → Lambda = λ k. constant (witness k) in
    each-joined IsPlain (map bound vs ++ map f ns) (map g ws) (each-joined IsPlain (map bound vs) (map f ns) (each_of_all IsPlain bound (λ x. refl) vs) (each_of_all IsPlain f (λ x. refl) ns)) (each_of_all IsPlain g (λ x. refl) ws)

take_front : {X : Type 0} (P : X → Type 0) (n : ℕ) (xs ys : List X) → n ≤ length xs → Each P xs → Each P (take n (xs ++ ys))
take_front P zero xs ys h k = tt
take_front P (suc n) [] ys h k = absurd (omega (arith, h))
take_front P (suc n) (x ∷ xs) ys h k = (k.0, take_front P n xs ys (omega (arith, h)) k.1)

one_at_most : (offers : HeadOffers) (scope : Scope) (b : ℕ) (chooses : Bool) → length (logical_heads offers scope (suc b) chooses) ≤ 1
one_at_most offers scope b true = omega arith
one_at_most offers scope b false = omega arith

plain_by : (offers : HeadOffers) (scope : Scope) (front : List Lambda) (b : ℕ) (chooses : Bool) → Each IsPlain front → (n : ℕ) → suc n ≤ length (front ++ logical_heads offers scope b chooses)
    → Each IsPlain (take n (front ++ logical_heads offers scope b chooses))
plain_by offers scope front zero chooses e n h =
    each-take IsPlain n (front ++ logical_heads offers scope zero chooses) (each-joined IsPlain front (logical_heads offers scope zero chooses) e (plain_logical offers scope chooses))
plain_by offers scope front (suc b) chooses e n h =
    let logic = logical_heads offers scope (suc b) chooses in
    let l = length-append front logic in
    let o = one_at_most offers scope b chooses in
    take_front IsPlain n front logic (omega (arith, h, l, o)) e

-- all heads but the last one
plain_heads : (offers : HeadOffers) (scope : Scope) (o : Option Hole) (n : ℕ) → suc n ≤ length (heads_for offers scope o) → Each IsPlain (take n (heads_for offers scope o))
plain_heads offers scope None n h = absurd (omega (arith, h))
plain_heads offers scope (Some x) n h =
    plain_by offers scope (given_heads offers scope x) x.base (offers.choices || is_none_given (given_heads offers scope x))
    (plain_front (places_to x.base 0 x.context) (filter (is_offered offers.names) (places_to x.base 0 scope.names)) (places_to x.base 0 scope.witnesses)) n h

-- LOOPS

between_from : {X : Type 0} (end : ℕ) (xs : List X) → between 0 end xs ≡ take end xs
between_from end xs = ap (λ n. take n xs) (let k : end - 0 ≡ end = omega arith in k)

each_every : {X : Type 0} (P : X → Type 0) → ((x : X) → P x) → (xs : List X) → Each P xs
each_every P h [] = tt
each_every P h (x ∷ xs) = (h x, each_every P h xs)

module _ (mode : Mode) where
  abbrev IsLike : Meant → Meant → Type 0
  IsLike c d = extra_delay mode d ≡ extra_delay mode c

  none_by : mode.defaults ≡ 0 → (b : Bool) → default_delay mode b ≡ 0
  none_by e true = e
  none_by e false = refl

  pub no-extra : mode.defaults ≡ 0 → (c : Meant) → extra_delay mode c ≡ 0
  no-extra e c = none_by e _

  mated_extra : (l m : Literal) (b : Bool) → extra_delay mode (if b then mate l m else mate m l) ≡ 0
  mated_extra l m true = refl
  mated_extra l m false = refl

  confronted_extra : (l m : Literal) (b : Bool) → extra_delay mode (if b then confront l m else confront m l) ≡ 0
  confronted_extra l m true = refl
  confronted_extra l m false = refl

  universals_like : (s : State) (c : Meant) → Each (IsLike c) (over_universals s c)
  universals_like s (inst l u) = each_of_all (IsLike (inst l u)) (λ k. inst k u) (λ x. refl) _
  universals_like s (process l) = tt
  universals_like s (mate l m) = tt
  universals_like s (confront l m) = tt
  universals_like s (grow p h) = tt
  universals_like s (choose a f) = tt
  universals_like s (describe a f) = tt

  negatives_like : (s : State) (c : Meant) → Each (IsLike c) (over_negatives s c)
  negatives_like s (mate l m) = each_of_all (IsLike (mate l m)) (positive_first mate l) (λ x. mated_extra l x l.positive) _
  negatives_like s (confront l m) = each_of_all (IsLike (confront l m)) (positive_first confront l) (λ x. confronted_extra l x l.positive) _
  negatives_like s (process l) = tt
  negatives_like s (inst l u) = tt
  negatives_like s (grow p h) = tt
  negatives_like s (choose a f) = tt
  negatives_like s (describe a f) = tt

  positives_like : (s : State) (c : Meant) → Each (IsLike c) (over_positives s c)
  positives_like s (mate l m) = each_of_all (IsLike (mate l m)) (positive_first mate m) (λ x. mated_extra m x m.positive) _
  positives_like s (confront l m) = each_of_all (IsLike (confront l m)) (positive_first confront m) (λ x. confronted_extra m x m.positive) _
  positives_like s (process l) = tt
  positives_like s (inst l u) = tt
  positives_like s (grow p h) = tt
  positives_like s (choose a f) = tt
  positives_like s (describe a f) = tt

  parked_like : (s : State) (c : Meant) → Each (IsLike c) (over_parked s c)
  parked_like s (grow p h) = each_of_all (IsLike (grow p h)) (λ q. grow q h) (λ x. refl) _
  parked_like s (process l) = tt
  parked_like s (mate l m) = tt
  parked_like s (confront l m) = tt
  parked_like s (inst l u) = tt
  parked_like s (choose a f) = tt
  parked_like s (describe a f) = tt

  -- the first one of a loop alone is like itself
  one_like : (c : Meant) (cs more : List Meant) → cs ≡ c ∷ more → Each (IsLike c) (take 1 cs)
  one_like c cs more is = subst (λ (xs : List Meant). Each (IsLike c) (take 1 xs)) (sym is) (refl, tt)

  -- commands none of which waits longer are like the first one of them
  all_like : (c : Meant) (cs more : List Meant) → cs ≡ c ∷ more → (n : ℕ) → Each (λ d. extra_delay mode d ≡ 0) (take (suc n) cs) → Each (IsLike c) (take (suc n) cs)
  all_like c cs more is n h =
      let k = subst (λ (xs : List Meant). Each (λ d. extra_delay mode d ≡ 0) (take (suc n) xs)) is h in
      subst (λ (xs : List Meant). Each (IsLike c) (take (suc n) xs)) (sym is) (each_like k.0 (take (suc n) (c ∷ more)) k)
    where
      each_like : extra_delay mode c ≡ 0 → (xs : List Meant) → Each (λ d. extra_delay mode d ≡ 0) xs → Each (IsLike c) xs
      each_like e [] k = tt
      each_like e (x ∷ xs) k = (k.0 ∙ sym e, each_like e xs k.1)

  -- all commands but the last one of a loop over heads
  heads_plain : (scope : Scope) (s : State) (w n : ℕ) (c : Meant) → suc n ≤ length (over_heads scope s w c) → Each (λ d. extra_delay mode d ≡ 0) (take n (over_heads scope s w c))
  heads_plain scope s w n (grow p h) l =
      let hs = heads_for s.offers (with_rows scope (take w s.rows)) (first_hole [] p.partial) in
      subst (Each (λ d. extra_delay mode d ≡ 0)) (mapped_take (grow p) n hs)
      (each-map (λ d. extra_delay mode d ≡ 0) (grow p) (take n hs)
      (each_zero (take n hs) (plain_heads s.offers (with_rows scope (take w s.rows)) (first_hole [] p.partial) n (let m = length-map hs (grow p) in omega (arith, l, m)))))
    where
      each_zero : (xs : List Lambda) → Each IsPlain xs → Each (λ u. extra_delay mode (grow p u) ≡ 0) xs
      each_zero [] k = tt
      each_zero (x ∷ xs) k = (ap (default_delay mode) k.0, each_zero xs k.1)
  heads_plain scope s w n (process l) g = absurd (omega (arith, g))
  heads_plain scope s w n (mate l m) g = absurd (omega (arith, g))
  heads_plain scope s w n (confront l m) g = absurd (omega (arith, g))
  heads_plain scope s w n (inst l u) g = absurd (omega (arith, g))
  heads_plain scope s w n (choose a f) g = absurd (omega (arith, g))
  heads_plain scope s w n (describe a f) g = absurd (omega (arith, g))

  heads_like : (scope : Scope) (s : State) (w count : ℕ) (c : Meant) (more : List Meant) → over_heads scope s w c ≡ c ∷ more → count ≡ length (over_heads scope s w c)
      → (b : Bool) → nat_lt 2 count ≡ b → Each (IsLike c) (take (if b then count - 1 else 1) (over_heads scope s w c))
  heads_like scope s w count c more is n false e = one_like c (over_heads scope s w c) more is
  heads_like scope s w count c more is n true e =
      let k = ltb-true 2 count e in
      let two : suc (count - 2) ≡ count - 1 = omega (arith, k) in
      subst (λ m. Each (IsLike c) (take m (over_heads scope s w c))) two
      (all_like c (over_heads scope s w c) more is (count - 2)
      (heads_plain scope s w (suc (count - 2)) c (omega (arith, k, n))))

  with_defaults_like : (scope : Scope) (s : State) (over : Over) (c : Meant) (more : List Meant) → loop_over scope s over c ≡ c ∷ more → (count : ℕ) → count ≡ length (loop_over scope s over c)
      → Each (IsLike c) (take (even_with_defaults over count) (loop_over scope s over c))
  with_defaults_like scope s Terms c more is count n = one_like c (loop_over scope s Terms c) more is
  with_defaults_like scope s Universals c more is count n = each-take (IsLike c) count (over_universals s c) (universals_like s c)
  with_defaults_like scope s Negatives c more is count n = each-take (IsLike c) count (over_negatives s c) (negatives_like s c)
  with_defaults_like scope s Positives c more is count n = each-take (IsLike c) count (over_positives s c) (positives_like s c)
  with_defaults_like scope s (Heads w) c more is count n = heads_like scope s w count c more is n (nat_lt 2 count) refl
  with_defaults_like scope s Parked c more is count n = each-take (IsLike c) count (over_parked s c) (parked_like s c)

  module _ (scope : Scope) (s : State) (over : Over) (c : Meant) (more : List Meant) (is : loop_over scope s over c ≡ c ∷ more) (count : ℕ) (n : count ≡ length (loop_over scope s over c)) where
    like_by : (b : Bool) → (mode.defaults == 0) ≡ b → Each (IsLike c) (take (if b then count else even_with_defaults over count) (loop_over scope s over c))
    like_by true e =
        let none : mode.defaults ≡ 0 = eqb-true mode.defaults 0 e in
        each_every (IsLike c) (λ d. no-extra none d ∙ sym (no-extra none c)) (take count (loop_over scope s over c))
    like_by false e = with_defaults_like scope s over c more is count n

    -- the commands before the place wait as the first one does
    pub even-first : Each (IsLike c) (between 0 (even_until mode.defaults over count) (loop_over scope s over c))
    even-first = subst (Each (IsLike c)) (sym (between_from (even_until mode.defaults over count) (loop_over scope s over c))) (like_by (mode.defaults == 0) refl)

    one_or_more : 0 < count
    one_or_more = let l = ap length is in omega (arith, n, l)

    some_by : (o : Over) → (0 < even_with_defaults o count) × (even_with_defaults o count ≤ count)
    some_by Terms = let h = one_or_more in (omega arith, omega (arith, h))
    some_by Universals = let h = one_or_more in (omega (arith, h), omega arith)
    some_by Negatives = let h = one_or_more in (omega (arith, h), omega arith)
    some_by Positives = let h = one_or_more in (omega (arith, h), omega arith)
    some_by (Heads w) = by_test (nat_lt 2 count) refl
      where
        by_test : (b : Bool) → nat_lt 2 count ≡ b → (0 < (if b then count - 1 else 1)) × ((if b then count - 1 else 1) ≤ count)
        by_test true e = let k = ltb-true 2 count e in (omega (arith, k), omega (arith, k))
        by_test false e = let h = one_or_more in (omega arith, omega (arith, h))
    some_by Parked = let h = one_or_more in (omega (arith, h), omega arith)

    -- there is such a place, and it isn't behind the end
    pub some-even : (0 < even_until mode.defaults over count) × (even_until mode.defaults over count ≤ count)
    some-even = by_test (mode.defaults == 0)
      where
        by_test : (b : Bool) → (0 < (if b then count else even_with_defaults over count)) × ((if b then count else even_with_defaults over count) ≤ count)
        by_test true = let h = one_or_more in (omega (arith, h), omega arith)
        by_test false = some_by over
