-- Lists of holes that share their ends.
use Rattle.std.specs.Prelude.{◌≡◌, ◌<◌, ◌≤◌, ◌-◌, ℕ, zero, suc, nat_eq, true, false, List, [], ◌∷◌, ◌++◌, map, reverse, length, get_or, slice_get, Some, refl, if◌then◌else◌, ◌⊎◌, ◌≢◌, eqb}
use Rattle.std.proofs.Common.{sym, ap, ap₂, subst, ◌∙◌, arith, inl, inr}
use Rattle.std.proofs.lemmas.Bool.{eq-eqb}
use Rattle.std.proofs.lemmas.Bool.Decides.{eqb_tells}
use Rattle.std.proofs.lemmas.List.{length-map, length-reverse, get_or-reverse}
use Rattle.std.proofs.lemmas.Option.{same_Some, slice_get_read}
use Rattle.stt_core.proofs.ListLaws.{mapped_get, map-append}
use Rattle.tableau_calculus.specs.Each.{Each}
use Rattle.search_spec.specs.Partial.{Hole}
use Rattle.prover_state.proofs.EachLaws.{each-weaker, map-same}
use Rattle.prover_state.specs.Internal.Chains.{Cell, chain, AreChained, ExtendsCells}

-- the newest list
pub chain-newest : (c : Cell) (older : List Cell) → chain (c ∷ older) (suc (length older)) ≡ c.0 ∷ chain older c.1
chain-newest c older = ap (λ b. if b then c.0 ∷ chain older c.1 else chain older (suc (length older))) (eq-eqb (suc (length older)) (suc (length older)) refl)

-- whether two numbers are the same, with the answer of the test
abbrev Told : ℕ → ℕ → Type 0
Told a b = ((eqb a b ≡ true) × (a ≡ b)) ⊎ ((eqb a b ≡ false) × (a ≢ b))

not_equal : (a b : ℕ) → a ≢ b → nat_eq a b ≡ false
not_equal a b h = go (eqb_tells a b)
  where
    go : Told a b → nat_eq a b ≡ false
    go (inl s) = absurd (h s.1)
    go (inr s) = s.0

-- the lists that were there
pub chain-kept : (c : Cell) (older : List Cell) (k : ℕ) → k ≤ length older → chain (c ∷ older) k ≡ chain older k
chain-kept c older k h = ap (λ b. if b then c.0 ∷ chain older c.1 else chain older k) (not_equal k (suc (length older)) (λ e. absurd (omega (arith, h, e))))

-- no holes
pub chain-none : (cells : List Cell) → chain cells 0 ≡ []
chain-none [] = refl
chain-none (c ∷ older) = chain-kept c older 0 (omega arith) ∙ chain-none older

pub extends-same : (cells : List Cell) → ExtendsCells cells cells
extends-same cells = record { longer = omega arith; kept = λ k h. refl }

module _ (d : Cell) (older : List Cell) (n : ℕ) (c : Cell) (linked : AreChained (d ∷ older)) (e : c ≡ get_or (d ∷ older) (suc (length older) - suc n) c) where
  at_newest : n ≡ length older → (chain (d ∷ older) (suc n) ≡ c.0 ∷ chain (d ∷ older) c.1) × (c.1 ≤ n)
  at_newest s =
      let is : d ≡ c = sym (e ∙ ap (λ i. get_or (d ∷ older) i c) (let z : suc (length older) - suc n ≡ 0 = omega (arith, s) in z)) in
      let newest : (chain (d ∷ older) (suc n) ≡ d.0 ∷ chain (d ∷ older) d.1) × (d.1 ≤ n) = (
        ap (λ k. chain (d ∷ older) (suc k)) s ∙ chain-newest d older ∙ ap (λ hs. d.0 ∷ hs) (sym (chain-kept d older d.1 linked.0)),
        omega (arith, linked.0, s),
      ) in
      subst (λ (x : Cell). (chain (d ∷ older) (suc n) ≡ x.0 ∷ chain (d ∷ older) x.1) × (x.1 ≤ n)) is newest

  at_older : n < length older → (chain older (suc n) ≡ c.0 ∷ chain older c.1) × (c.1 ≤ n) → (chain (d ∷ older) (suc n) ≡ c.0 ∷ chain (d ∷ older) c.1) × (c.1 ≤ n)
  at_older h k = (
    chain-kept d older (suc n) (omega (arith, h)) ∙ k.0 ∙ ap (λ hs. c.0 ∷ hs) (sym (chain-kept d older c.1 (omega (arith, h, k.1)))),
    k.1,
  )

-- what stands at a place, counted from the oldest one, begins its list
pub chain-at : (cells : List Cell) (n : ℕ) (c : Cell) → AreChained cells → n < length cells → c ≡ get_or cells (length cells - suc n) c → (chain cells (suc n) ≡ c.0 ∷ chain cells c.1) × (c.1 ≤ n)
chain-at [] n c linked h e = absurd (omega (arith, h))
chain-at (d ∷ older) n c linked h e = go (eqb_tells n (length older)) (chain-at older n c linked.1)
  where
    go : Told n (length older) → (n < length older → c ≡ get_or older (length older - suc n) c → (chain older (suc n) ≡ c.0 ∷ chain older c.1) × (c.1 ≤ n)) → (chain (d ∷ older) (suc n) ≡ c.0 ∷ chain (d ∷ older) c.1) × (c.1 ≤ n)
    go (inl s) there = at_newest d older n c linked e s.1
    go (inr s) there =
        let before : n < length older = omega (arith, h, s.1) in
        let step : suc (length older) - suc n ≡ suc (length older - suc n) = omega (arith, before) in
        at_older d older n c linked e before (there before (e ∙ ap (λ i. get_or (d ∷ older) i c) step))

-- the same by a list with the oldest one first
pub chain-placed : (items : List Cell) (n : ℕ) (c : Cell) → AreChained (reverse items) → n < length items → c ≡ get_or items n c → (chain (reverse items) (suc n) ≡ c.0 ∷ chain (reverse items) c.1) × (c.1 ≤ n)
chain-placed items n c linked h e =
    let size = length-reverse items in
    let back : length items - 1 - (length (reverse items) - suc n) ≡ n = omega (arith, h, size) in
    chain-at (reverse items) n c linked (omega (arith, h, size))
    (e ∙ sym (get_or-reverse items (length (reverse items) - suc n) c (omega (arith, h, size)) ∙ ap (λ i. get_or items i c) back))

some_there : (cells : List Cell) (k : ℕ) → 0 < k → k ≤ length cells → 0 < length (chain cells k)
some_there [] k h i = absurd (omega (arith, h, i))
some_there (c ∷ older) k h i = go (eqb_tells k (suc (length older))) (some_there older k h)
  where
    go : Told k (suc (length older)) → (k ≤ length older → 0 < length (chain older k)) → 0 < length (chain (c ∷ older) k)
    go (inl s) there = subst (λ hs. 0 < length hs) (sym (ap (chain (c ∷ older)) s.1 ∙ chain-newest c older)) (omega arith)
    go (inr s) there =
        let before : k ≤ length older = omega (arith, i, s.1) in
        subst (λ hs. 0 < length hs) (sym (chain-kept c older k before)) (there before)

-- whether a list with a first hole has no other one
pub chain-single : (cells : List Cell) (k r : ℕ) (h : Hole) → chain cells k ≡ h ∷ chain cells r → r ≤ length cells → nat_eq r 0 ≡ nat_eq (length (chain cells k)) 1
chain-single cells k zero h e i = sym (ap (λ hs. nat_eq (length hs) 1) (e ∙ ap (λ hs. h ∷ hs) (chain-none cells)))
chain-single cells k (suc r) h e i =
    let others = some_there cells (suc r) (omega arith) i in
    not_equal (suc r) 0 (λ z. absurd (omega (arith, z)))
    ∙ sym (ap (λ hs. nat_eq (length hs) 1) e ∙ not_equal (suc (length (chain cells (suc r)))) 1 (λ z. absurd (omega (arith, z, others))))

-- the lists of some numbers stay
pub lists-stay : (old new : List Cell) (ks : List ℕ) → ExtendsCells old new → Each (λ k. k ≤ length old) ks → map (chain new) ks ≡ map (chain old) ks
lists-stay old new ks e h = map-same (chain new) (chain old) (λ k. k ≤ length old) e.kept ks h

pub numbers-stay : (old new : List Cell) (ks : List ℕ) → ExtendsCells old new → Each (λ k. k ≤ length old) ks → Each (λ k. k ≤ length new) ks
numbers-stay old new ks e h = each-weaker (λ k. k ≤ length old) (λ k. k ≤ length new) (λ k i. omega (arith, i, e.longer)) ks h

-- the list that stands at a place
pub list-placed : (cells : List Cell) (ks : List ℕ) (p k : ℕ) (lists : List (List Hole)) (hs : List Hole) → map (chain cells) ks ≡ lists → slice_get lists p ≡ Some hs → p < length lists → k ≡ get_or ks p k → chain cells k ≡ hs
list-placed cells ks p k lists hs e at h got =
    let size : length ks ≡ length lists = sym (length-map ks (chain cells)) ∙ ap length e in
    let here = slice_get_read ks (length ks) p k refl (omega (arith, h, size)) got in
    same_Some (chain cells k) hs (sym (mapped_get (chain cells) ks p k here) ∙ ap (λ ls. slice_get ls p) e ∙ at)

-- the lists of some numbers and of one more, over further cells
pub lists-last : (old new : List Cell) (ks all : List ℕ) (k : ℕ) (lists : List (List Hole)) (hs : List Hole) → ExtendsCells old new → Each (λ i. i ≤ length old) ks → map (chain old) ks ≡ lists → all ≡ ks ++ k ∷ [] → chain new k ≡ hs → map (chain new) all ≡ lists ++ hs ∷ []
lists-last old new ks all k lists hs e h is more last =
    ap (map (chain new)) more ∙ map-append (chain new) ks (k ∷ []) ∙ ap₂ (λ (xs : List (List Hole)) (x : List Hole). xs ++ x ∷ []) (lists-stay old new ks e h ∙ is) last
