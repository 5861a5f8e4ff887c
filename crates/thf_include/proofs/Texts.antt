-- Texts at the front of others.
use Rattle.std.proofs.Common.{◌≡◌, ℕ, zero, suc, ◌+◌, ◌<◌, ◌≤◌, List, [], ◌∷◌, ◌++◌, length, take, Some, slice_get, refl, sym, ap, ◌∙◌, zero-add, arith}
use Rattle.std.specs.Prelude.{sum_by}
use Rattle.std.proofs.lemmas.List.{take-take, length-take, take-append-le}
use Rattle.std.proofs.lemmas.List.Sums.{sum_by-append}
use Rattle.thf_include.specs.Gathering.{bytes_of}

slice_get-take : {A : Type 0} (n k : ℕ) (xs : List A) → k < n → slice_get (take n xs) k ≡ slice_get xs k
slice_get-take zero k xs h = absurd (omega arith)
slice_get-take (suc n) k [] h = refl
slice_get-take (suc n) zero (x ∷ xs) h = refl
slice_get-take (suc n) (suc k) (x ∷ xs) h = slice_get-take n k xs (omega arith)

-- lists with the same n first elements
module _ {A : Type 0} (n : ℕ) (xs ys : List A) (same : take n xs ≡ take n ys) where
  pub same-take : (m : ℕ) → m ≤ n → take m xs ≡ take m ys
  same-take m h = sym (take-take m n xs h) ∙ ap (take m) same ∙ take-take m n ys h

  pub same-get : (k : ℕ) → k < n → slice_get ys k ≡ slice_get xs k
  same-get k h = sym (slice_get-take n k ys h) ∙ ap (λ zs. slice_get zs k) (sym same) ∙ slice_get-take n k xs h

  pub same-short : (k : ℕ) → k < n → length xs ≤ k → length ys ≤ k
  same-short k h short = omega (arith, length-take n xs, length-take n ys, ap length same)

  pub same-long : (k : ℕ) → k < n → k < length xs → k < length ys
  same-long k h long = omega (arith, length-take n xs, length-take n ys, ap length same)

pub same-bytes : (n : ℕ) (texts others : List (List ℕ)) → take n texts ≡ take n others → (m : ℕ) → m ≤ n → bytes_of others m ≡ bytes_of texts m
same-bytes n texts others same m h = ap (sum_by length) (sym (same-take n texts others same m h))

pub take-append : {A : Type 0} (n : ℕ) (xs ys : List A) → n ≤ length xs → take n xs ≡ take n (xs ++ ys)
take-append n xs ys h = sym (take-append-le n xs ys h)

take-more : {A : Type 0} (k : ℕ) (x : A) (xs : List A) → slice_get xs k ≡ Some x → take (suc k) xs ≡ take k xs ++ x ∷ []
take-more k x [] h = cc
take-more zero x (y ∷ ys) h = let e : y ≡ x = cc in ap (λ z. z ∷ []) e
take-more (suc k) x (y ∷ ys) h = ap (λ zs. y ∷ zs) (take-more k x ys h)

-- one more text has its bytes
pub bytes_of-more : (texts : List (List ℕ)) (file : ℕ) (text : List ℕ) → slice_get texts file ≡ Some text → bytes_of texts (file + 1) ≡ bytes_of texts file + length text
bytes_of-more texts file text h =
    let e : file + 1 ≡ suc file = omega arith in
    ap (bytes_of texts) e ∙ ap (sum_by length) (take-more file text texts h) ∙ sum_by-append length (take file texts) (text ∷ []) ∙ ap (λ n. bytes_of texts file + n) (zero-add (length text))
