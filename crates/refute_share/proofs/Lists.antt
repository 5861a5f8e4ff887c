-- The texts of a list's members, one after another.
use Rattle.std.proofs.Common.{◌≡◌, ℕ, zero, suc, ◌+◌, ◌<◌, ◌≤◌, List, [], ◌∷◌, ◌++◌, length, take, drop, slice_get, get_or, Some, refl, sym, ap, ap₂, ◌∙◌, append_assoc, append-nil, arith, length-append, take_all, take-append-drop}
use native.Mathlib.Numerals.{unary_clauses}
use Rattle.std.specs.List.{flat_map}

-- each member's text hangs on its place, which counts from k
abbrev pub all_texts : {X : Type 0} → (ℕ → X → List ℕ) → ℕ → List X → List ℕ
all_texts f k [] = []
all_texts f k (x ∷ xs) = f k x ++ all_texts f (suc k) xs

pub all_texts-append : {X : Type 0} (f : ℕ → X → List ℕ) (k : ℕ) (xs ys : List X) → all_texts f k (xs ++ ys) ≡ all_texts f k xs ++ all_texts f (k + length xs) ys
all_texts-append f k [] ys = ap (λ n. all_texts f n ys) (omega arith)
all_texts-append f k (x ∷ xs) ys =
    ap (λ t. f k x ++ t) (all_texts-append f (suc k) xs ys ∙ ap (λ n. all_texts f (suc k) xs ++ all_texts f n ys) (omega arith))
    ∙ sym (append_assoc (f k x) (all_texts f (suc k) xs) (all_texts f (k + suc (length xs)) ys))

-- the members before a place and the member there
pub take_and : {X : Type 0} (xs : List X) (i : ℕ) (x : X) → slice_get xs i ≡ Some x → take (i + 1) xs ≡ take i xs ++ x ∷ []
take_and [] i x h = cc
take_and (y ∷ ys) zero x h = let e : y ≡ x = cc in ap (λ z. z ∷ []) e
take_and (y ∷ ys) (suc i) x h = simp unary_clauses (ap (λ zs. y ∷ zs) (simp unary_clauses at (take_and ys i x h)))

pub got_within : {X : Type 0} (xs : List X) (i : ℕ) (x : X) → slice_get xs i ≡ Some x → length (take i xs) ≡ i
got_within [] i x h = cc
got_within (y ∷ ys) zero x h = refl
got_within (y ∷ ys) (suc i) x h = ap suc (got_within ys i x h)

-- one member more
pub all_texts-more : {X : Type 0} (f : ℕ → X → List ℕ) (xs : List X) (i : ℕ) (x : X) → slice_get xs i ≡ Some x → all_texts f 0 (take (i + 1) xs) ≡ all_texts f 0 (take i xs) ++ f i x
all_texts-more f xs i x h =
    ap (all_texts f 0) (take_and xs i x h)
    ∙ all_texts-append f 0 (take i xs) (x ∷ [])
    ∙ ap (λ n. all_texts f 0 (take i xs) ++ all_texts f n (x ∷ [])) (let e = got_within xs i x h in omega (arith, e))
    ∙ ap (λ t. all_texts f 0 (take i xs) ++ t) (append-nil (f i x))

-- the members before a place, the member there, and the rest
pub all_texts-around : {X : Type 0} (f : ℕ → X → List ℕ) (xs : List X) (i : ℕ) (x : X) → slice_get xs i ≡ Some x → all_texts f 0 xs ≡ all_texts f 0 (take i xs) ++ (f i x ++ all_texts f (i + 1) (drop (i + 1) xs))
all_texts-around f xs i x h =
    let front = take (i + 1) xs in
    let n : 0 + length front ≡ i + 1 = ap (λ m. 0 + m) (ap length (take_and xs i x h) ∙ length-append (take i xs) (x ∷ []) ∙ ap (λ m. m + 1) (got_within xs i x h)) ∙ omega arith in
    ap (all_texts f 0) (sym (take-append-drop (i + 1) xs))
    ∙ all_texts-append f 0 front (drop (i + 1) xs)
    ∙ ap₂ (λ t m. t ++ all_texts f m (drop (i + 1) xs)) (all_texts-more f xs i x h) n
    ∙ append_assoc (all_texts f 0 (take i xs)) (f i x) (all_texts f (i + 1) (drop (i + 1) xs))

pub all_texts-whole : {X : Type 0} (f : ℕ → X → List ℕ) (xs : List X) (n : ℕ) → length xs ≤ n → all_texts f 0 (take n xs) ≡ all_texts f 0 xs
all_texts-whole f xs n h = ap (all_texts f 0) (take_all n xs h)

pub flat_map-all_texts : {X : Type 0} (f : X → List ℕ) (k : ℕ) (xs : List X) → all_texts (λ i x. f x) k xs ≡ flat_map f xs
flat_map-all_texts f k [] = refl
flat_map-all_texts f k (x ∷ xs) = ap (λ t. f x ++ t) (flat_map-all_texts f (suc k) xs)

pub got : (xs : List ℕ) (i : ℕ) → i < length xs → slice_get xs i ≡ Some (get_or xs i 0)
got [] i h = absurd (omega arith)
got (x ∷ xs) zero h = refl
got (x ∷ xs) (suc i) h = got xs i (omega arith)
