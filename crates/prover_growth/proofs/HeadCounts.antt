-- How many heads fit a hole, and the loop over them.
use Rattle.std.specs.Prelude.{◌≡◌, ◌==◌, ◌<◌, ◌≤◌, ◌+◌, ◌||◌, ℕ, zero, suc, Bool, true, false, List, [], ◌∷◌, ◌++◌, map, take, drop, length, slice_get, Option, Some, None, option_map, refl}
use Rattle.std.proofs.Common.{sym, ap, ap₂, ◌∙◌, arith, length-append}
use Rattle.std.proofs.Math.Seq.{take-length}
use Rattle.std.proofs.lemmas.Bool.{ne_eqb}
use Rattle.std.proofs.lemmas.List.{length-map}
use Rattle.std.proofs.lemmas.Option.{same_Some}
use Rattle.stt_core.specs.SimpleType.{SimpleType, base}
use Rattle.stt_core.specs.Lambda.{Lambda, bound, constant, name, witness, all, equality}
use Rattle.stt_core.specs.Typing.{Scope}
use Rattle.stt_core.proofs.ListLaws.{drop_got}
use Rattle.tableau_calculus.specs.Witnesses.{Row, with_rows}
use Rattle.command_queue.specs.Queue.{Queue}
use Rattle.instantiate.specs.Listing.{ids_of}
use Rattle.search_spec.specs.Heads.{HeadOffers, places_to, offered_bases, given_heads, is_none_given, logical_heads, heads_for}
use Rattle.head_offers.specs.Offering.{the_offers}
use Rattle.search_spec.specs.Partial.{Hole, first_hole}
use Rattle.search_spec.specs.State.{Sketch, Command as Meant, grow}
use Rattle.prover_state.specs.declared.command.Command.TheVariants.{Grow}
use Rattle.prover_state.specs.declared.command.Planned.{Planned}
use Rattle.prover_state.specs.declared.command.Delays.{Delays}
use Rattle.prover_state.specs.declared.tables.Tables.{Tables}
use Rattle.prover_state.specs.Internal.Fitting.{variables_for, names_for}
use Rattle.prover_state.specs.Internal.HeadNumbers.{head_numbered}
use Rattle.prover_state.specs.Internal.Holes.{holes_in, leftmost}
use Rattle.prover_state.specs.Internal.Names.{sketch_at, command_at}
use Rattle.prover_state.specs.Internal.Pending.{over_heads, BeginsWith}
use Rattle.prover_state.specs.Internal.Standing.{without_witnesses, rows_in, scope_by, sketches_in, naming_in, sources, IsRightState}
use Rattle.prover_state.proofs.HoleLaws.{leftmost-first, holes-at}
use Rattle.prover_state.proofs.LoopLists.{begins-mapped}

-- HOW MANY

is_none-length : (ts : List Lambda) (n : ℕ) → n ≡ length ts → (n == 0) ≡ is_none_given ts
is_none-length [] n e = ap (λ k. k == 0) e
is_none-length (t ∷ ts) n e = ne_eqb n 0 (λ z. absurd (omega (arith, e, z)))

length_own : (offers : HeadOffers) (scope : Scope) (n : ℕ) → n ≡ length (offered_bases offers scope) → (chooses : Bool) → n + n + 4 ≡ length (logical_heads offers scope 0 chooses)
length_own offers scope n e chooses =
    let f : SimpleType → Lambda = λ c. constant (equality c) in
    let k : SimpleType → Lambda = λ c. constant (all c) in
    let bs = offered_bases offers scope in
    omega (arith, e, length-map bs f, length-map bs k, length-append (map f bs) (map k bs))

length_given : (offers : HeadOffers) (scope : Scope) (h : Hole) → length (given_heads offers scope h) ≡ length (places_to h.base 0 h.context) + (length (names_for offers scope h.base) + length (places_to h.base 0 scope.witnesses))
length_given offers scope h =
    let f : ℕ → Lambda = λ k. constant (name k) in
    let g : ℕ → Lambda = λ k. constant (witness k) in
    let vs = places_to h.base 0 h.context in
    let ns = names_for offers scope h.base in
    let ws = places_to h.base 0 scope.witnesses in
    omega (arith, length-map vs bound, length-map ns f, length-map ws g, length-append (map bound vs) (map f ns), length-append (map bound vs ++ map f ns) (map g ws))

-- the heads for a hole of a base type
pub count-heads : (offers : HeadOffers) (scope : Scope) (o : Option Hole) (b v c given own : ℕ) → Some b ≡ option_map (λ (h : Hole). h.base) o → v ≡ length (variables_for o)
    → c ≡ length (names_for offers scope b) + length (places_to b 0 scope.witnesses) → given ≡ v + c → own ≡ length (logical_heads offers scope b (offers.choices || (given == 0)))
    → given + own ≡ length (heads_for offers scope o)
count-heads offers scope None b v c given own e f g k l = cc
count-heads offers scope (Some h) b v c given own e f g k l =
    let same : b ≡ h.base = same_Some b h.base e in
    let constants : c ≡ length (names_for offers scope h.base) + length (places_to h.base 0 scope.witnesses) = g ∙ ap (λ m. length (names_for offers scope m) + length (places_to m 0 scope.witnesses)) same in
    let those = given_heads offers scope h in
    let many : given ≡ length those = (let all = length_given offers scope h in omega (arith, all, f, constants, k)) in
    let logic = logical_heads offers scope h.base (offers.choices || is_none_given those) in
    let rest : own ≡ length logic =
    l ∙ ap₂ (λ m (b : Bool). length (logical_heads offers scope m (offers.choices || b))) same (is_none-length those given many) in
    omega (arith, many, rest, length-append those logic)

pub count-none : (offers : HeadOffers) (scope : Scope) (o : Option Hole) → None ≡ option_map (λ (h : Hole). h.base) o → 0 ≡ length (heads_for offers scope o)
count-none offers scope None e = refl
count-none offers scope (Some h) e = cc

module _ (t : Tables) (q : Queue Planned Delays) (r : IsRightState t q) (b : ℕ) where
  pub own-formulas : (n : ℕ) → n ≡ length t.bases.items → b ≤ 0 → (chooses : Bool) → n + n + 4 ≡ length (logical_heads (the_offers t.offers) (scope_by t.basis) b chooses)
  own-formulas n e z chooses =
      let many : n ≡ length (offered_bases (the_offers t.offers) (scope_by t.basis)) = (let l = ap length r.offered.bases in let m = length-map t.bases.items base in omega (arith, e, l, m)) in
      let none : 0 ≡ b = omega (arith, z) in
      length_own (the_offers t.offers) (scope_by t.basis) n many chooses ∙ ap (λ k. length (logical_heads (the_offers t.offers) (scope_by t.basis) k chooses)) none

  pub constant-count : (ks ws : List ℕ) (n : ℕ) → ks ≡ ids_of (base b) t.names → ws ≡ ids_of (base b) t.takers → n ≡ length ks + length ws
      → n ≡ length (names_for (the_offers t.offers) (scope_by t.basis) b) + length (places_to b 0 (scope_by t.basis).witnesses)
  constant-count ks ws n names takers sum = sum ∙ ap₂ (λ k m. k + m) (ap length (names ∙ r.offered.names b)) (ap length (takers ∙ r.takers b))

-- the choice is a head or isn't
pub own-choice : (offers : HeadOffers) (scope : Scope) (n : ℕ) → 0 < n → 1 ≡ length (logical_heads offers scope n true)
own-choice offers scope zero h = absurd (omega (arith, h))
own-choice offers scope (suc n) h = refl

pub own-none : (offers : HeadOffers) (scope : Scope) (n : ℕ) → 0 < n → 0 ≡ length (logical_heads offers scope n false)
own-none offers scope zero h = absurd (omega (arith, h))
own-none offers scope (suc n) h = refl

-- THE LOOP OVER THEM

module _ (t : Tables) (q : Queue Planned Delays) (r : IsRightState t q) (p : ℕ) where
  abbrev sketch : Sketch
  sketch = sketch_at (sketches_in t) p

  pub first-base-at : p < length (sketches_in t) → (b : Option ℕ) → ((holes : List Hole) → slice_get t.open_holes p ≡ Some holes → b ≡ option_map (λ (h : Hole). h.base) (leftmost holes)) → b ≡ option_map (λ (h : Hole). h.base) (first_hole [] sketch.partial)
  first-base-at h b told = told (holes_in [] sketch.partial) (holes-at t q r p h) ∙ ap (option_map (λ (h : Hole). h.base)) (leftmost-first [] sketch.partial)

  pub count-at : p < length (sketches_in t) → (n : ℕ) → ((holes : List Hole) → slice_get t.open_holes p ≡ Some holes → n ≡ length (variables_for (leftmost holes))) → n ≡ length (variables_for (first_hole [] sketch.partial))
  count-at h n told = told (holes_in [] sketch.partial) (holes-at t q r p h) ∙ ap (λ (o : Option Hole). length (variables_for o)) (leftmost-first [] sketch.partial)

  -- the heads that fit, with so many witnesses
  abbrev heads_with : ℕ → List Lambda
  heads_with w = heads_for (the_offers t.offers) (with_rows (without_witnesses t.basis.bank) (take w (rows_in t.basis))) (first_hole [] sketch.partial)

  abbrev loop_with : ℕ → ℕ → List Meant
  loop_with w h = over_heads (without_witnesses t.basis.bank) (sources t) w (command_at (naming_in t) (Grow p h))

  pub heads-all : (w : ℕ) → w ≡ length (rows_in t.basis) → heads_with w ≡ heads_for (the_offers t.offers) (scope_by t.basis) (first_hole [] sketch.partial)
  heads-all w e = ap (λ (rows : List Row). heads_for (the_offers t.offers) (with_rows (without_witnesses t.basis.bank) rows) (first_hole [] sketch.partial)) (ap (λ k. take k (rows_in t.basis)) e ∙ take-length (rows_in t.basis))

  pub heads-loop : (w h : ℕ) → w ≡ length (rows_in t.basis) → loop_with w h ≡ map (grow sketch) (heads_for (the_offers t.offers) (scope_by t.basis) (first_hole [] sketch.partial))
  heads-loop w h e = ap (map (grow sketch)) (heads-all w e)

  pub heads-begin : (w h : ℕ) (u : Lambda) → head_numbered h ≡ u → slice_get (heads_with w) 0 ≡ Some u → BeginsWith (command_at (naming_in t) (Grow p h)) (loop_with w h)
  heads-begin w h u e at = begins-mapped (loop_with w h) (grow sketch) (heads_with w) refl (head_numbered h) (drop 1 (heads_with w)) (drop_got (heads_with w) 0 (head_numbered h) (at ∙ ap Some (sym e)))

  pub heads-count : (w h n : ℕ) → w ≡ length (rows_in t.basis) → n ≡ length (heads_for (the_offers t.offers) (scope_by t.basis) (first_hole [] sketch.partial)) → n ≡ length (loop_with w h)
  heads-count w h n e m = m ∙ sym (length-map (heads_for (the_offers t.offers) (scope_by t.basis) (first_hole [] sketch.partial)) (grow sketch)) ∙ ap length (sym (heads-loop w h e))

pub no-heads : (hs : List Lambda) → length hs ≤ 0 → hs ≡ []
no-heads [] h = refl
no-heads (x ∷ hs) h = absurd (omega (arith, h))
