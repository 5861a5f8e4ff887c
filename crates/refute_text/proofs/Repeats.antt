-- How the readers of repeated items go on.
use Rattle.std.proofs.Common.{◌≡◌, ℕ, zero, suc, ◌+◌, ◌<◌, ◌≤◌, List, [], ◌∷◌, ◌++◌, Option, Some, None, length, refl, sym, ap, ◌∙◌, append_assoc, append-nil, arith, length-append}
use Rattle.refute_text.specs.Internal.Reader.{◌>>=◌, behind_text, by_front, with_item, with_items, repeated_at}
use Rattle.refute_text.specs.Internal.Refusals.{IsReaderRefusal}
use Rattle.refute_text.specs.declared.refusal.Refusal.{Refusal}
use Rattle.refute_text.specs.declared.refusal.Refusal.TheVariants.{Form, Memory}
use Rattle.refute_text.proofs.Inversions.{found, behind_some}

-- the items so far and those of the rest are the whole
abbrev pub ItemsLeft : {X : Type 0} → List ℕ → (List ℕ → Option (X × List ℕ)) → List X → List ℕ → Option (List X × List ℕ) → Type 0
ItemsLeft mark item xs rest whole = (n : ℕ) × (length rest ≤ n) × (with_items xs (repeated_at mark item n rest) ≡ whole)

with_items-none : {X : Type 0} (o : Option (List X × List ℕ)) → with_items [] o ≡ o
with_items-none None = refl
with_items-none (Some r) = refl

pub items_start : {X : Type 0} (mark : List ℕ) (item : List ℕ → Option (X × List ℕ)) (bs : List ℕ) → ItemsLeft mark item [] bs (repeated_at mark item (length bs) bs)
items_start mark item bs = (length bs, omega arith, with_items-none (repeated_at mark item (length bs) bs))

with_items-item : {X : Type 0} (xs : List X) (x : X) (o : Option (List X × List ℕ)) → with_items xs (with_item x o) ≡ with_items (xs ++ x ∷ []) o
with_items-item xs x None = refl
with_items-item xs x (Some r) = ap (λ ys. found ys r.1) (sym (append_assoc xs (x ∷ []) r.0))

items_turn : {X : Type 0} (mark : List ℕ) (item : List ℕ → Option (X × List ℕ)) (n : ℕ) (bs more : List ℕ) → behind_text mark bs ≡ Some more → repeated_at mark item (suc n) bs ≡ (item more >>= (λ x. with_item x.0 (repeated_at mark item n x.1)))
unfolding repeated_at
items_turn mark item n bs more at =
    ap (λ o. by_front o (λ rest. item rest >>= (λ x. with_item x.0 (repeated_at mark item n x.1))) (found [] bs)) at

pub items_more : {X : Type 0} (mark : List ℕ) (item : List ℕ → Option (X × List ℕ)) (xs : List X) (bs more : List ℕ) (x : X) (r : List ℕ) (whole : Option (List X × List ℕ)) → 0 < length mark → ItemsLeft mark item xs bs whole → behind_text mark bs ≡ Some more → item more ≡ Some (x, r) → length r ≤ length more → ItemsLeft mark item (xs ++ x ∷ []) r whole
items_more {X = X} mark item xs bs more x r whole some left at read shorter =
    go left.0 left.1 left.2 (ap length (behind_some mark bs more at) ∙ length-append mark more)
  where
    go : (n : ℕ) → length bs ≤ n → with_items xs (repeated_at mark item n bs) ≡ whole → length bs ≡ length mark + length more → ItemsLeft mark item (xs ++ x ∷ []) r whole
    go zero l e k = absurd (omega arith)
    go (suc n) l e k =
        (n, omega arith, sym (with_items-item xs x (repeated_at mark item n r)) ∙ sym (ap (with_items xs) (items_turn mark item n bs more at ∙ ap (λ o. o >>= (λ y. with_item y.0 (repeated_at mark item n y.1))) read)) ∙ e)

items_none : {X : Type 0} (mark : List ℕ) (item : List ℕ → Option (X × List ℕ)) (xs : List X) (bs more : List ℕ) (whole : Option (List X × List ℕ)) → 0 < length mark → ItemsLeft mark item xs bs whole → behind_text mark bs ≡ Some more → item more ≡ None → whole ≡ None
items_none {X = X} mark item xs bs more whole some left at none =
    go left.0 left.1 left.2 (ap length (behind_some mark bs more at) ∙ length-append mark more)
  where
    go : (n : ℕ) → length bs ≤ n → with_items xs (repeated_at mark item n bs) ≡ whole → length bs ≡ length mark + length more → whole ≡ None
    go zero l e k = absurd (omega arith)
    go (suc n) l e k =
        sym e ∙ ap (with_items xs) (items_turn mark item n bs more at ∙ ap (λ o. o >>= (λ y. with_item y.0 (repeated_at mark item n y.1))) none)

pub items_refused : {X : Type 0} (mark : List ℕ) (item : List ℕ → Option (X × List ℕ)) (xs : List X) (bs more : List ℕ) (whole : Option (List X × List ℕ)) (e : Refusal) → 0 < length mark → ItemsLeft mark item xs bs whole → behind_text mark bs ≡ Some more → IsReaderRefusal e (item more) → IsReaderRefusal e whole
items_refused mark item xs bs more whole Form some left at none = items_none mark item xs bs more whole some left at none
items_refused mark item xs bs more whole Memory some left at none = tt

pub items_end : {X : Type 0} (mark : List ℕ) (item : List ℕ → Option (X × List ℕ)) (xs : List X) (bs : List ℕ) (whole : Option (List X × List ℕ)) → ItemsLeft mark item xs bs whole → behind_text mark bs ≡ None → whole ≡ Some (xs, bs)
unfolding repeated_at
items_end {X = X} mark item xs bs whole left at = go left.0 left.2
  where
    go : (n : ℕ) → with_items xs (repeated_at mark item n bs) ≡ whole → whole ≡ found xs bs
    go zero e = sym e ∙ ap (λ ys. found ys bs) (append-nil xs)
    go (suc n) e =
        sym e
        ∙ ap (λ o. with_items xs (by_front o (λ rest. item rest >>= (λ x. with_item x.0 (repeated_at mark item n x.1))) (found [] bs))) at
        ∙ ap (λ ys. found ys bs) (append-nil xs)
