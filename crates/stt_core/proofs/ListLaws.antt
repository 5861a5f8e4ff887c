-- Lists that are gone through by an index.
use Rattle.std.proofs.Common.{◌≡◌, ℕ, zero, suc, ◌+◌, List, [], ◌∷◌, ◌++◌, Option, Some, None, Bool, not, cond, map, nat_lt, length, position, take, drop, slice_get, refl, sym, ap, ap₂, ◌∙◌, append_assoc, add-one}
use Rattle.std.specs.List.{prefix_len}
use Rattle.std.proofs.lemmas.List.{length-map}

prefix_len-map : {A B : Type 0} (f : A → B) (p : B → Bool) (xs : List A) → prefix_len p (map f xs) ≡ prefix_len (λ x. p (f x)) xs
prefix_len-map f p [] = refl
prefix_len-map f p (x ∷ xs) = ap (λ n. cond (p (f x)) (1 + n) 0) (prefix_len-map f p xs)

position-map : {A B : Type 0} (f : A → B) (p : B → Bool) (xs : List A) → position p (map f xs) ≡ position (λ x. p (f x)) xs
position-map f p xs =
    ap₂ (λ n k. cond (nat_lt n k) (Some n) None) (prefix_len-map f (λ x. not (p x)) xs) (length-map xs f)

-- the place of what passes, in a list that is seen through f
pub position_seen : {A B : Type 0} (f : A → B) (p : B → Bool) (xs ys : List A) (zs : List B) (r : Option ℕ) → r ≡ position (λ x. p (f x)) xs → xs ≡ ys → map f ys ≡ zs → r ≡ position p zs
position_seen f p xs ys zs r h e g =
    h ∙ ap (position (λ x. p (f x))) e ∙ sym (position-map f p ys) ∙ ap (position p) g

pub drop_got : {A : Type 0} (xs : List A) (i : ℕ) (x : A) → slice_get xs i ≡ Some x → drop i xs ≡ x ∷ drop (i + 1) xs
drop_got [] i x h = cc
drop_got (y ∷ xs) zero x h = let e : y ≡ x = cc in ap (λ z. z ∷ xs) e
drop_got (y ∷ xs) (suc i) x h = drop_got xs i x h ∙ ap (λ k. x ∷ drop k xs) (add-one i) ∙ ap (λ k. x ∷ drop k (y ∷ xs)) (sym (add-one (suc i)))

-- one element more is gone through
pub one_more : {A : Type 0} (front back xs : List A) (i : ℕ) (x : A) → slice_get xs i ≡ Some x → back ≡ front ++ x ∷ [] → back ++ drop (i + 1) xs ≡ front ++ drop i xs
one_more front back xs i x h e =
    ap (λ l. l ++ drop (i + 1) xs) e ∙ append_assoc front (x ∷ []) (drop (i + 1) xs) ∙ ap (λ l. front ++ l) (sym (drop_got xs i x h))

pub take_got : {A : Type 0} (xs : List A) (i : ℕ) (x : A) → slice_get xs i ≡ Some x → take (i + 1) xs ≡ take i xs ++ x ∷ []
take_got [] i x h = cc
take_got (y ∷ xs) zero x h = let e : y ≡ x = cc in ap (λ z. z ∷ []) e
take_got (y ∷ xs) (suc i) x h =
    ap (λ k. take k (y ∷ xs)) (add-one (suc i)) ∙ ap (λ k. y ∷ take k xs) (sym (add-one i)) ∙ ap (λ l. y ∷ l) (take_got xs i x h)

-- one element more is copied
pub copy_more : {A : Type 0} (xs : List A) (i : ℕ) (x : A) (done all : List A) (y : A) → slice_get xs i ≡ Some x → done ≡ take i xs → y ≡ x → all ≡ done ++ y ∷ [] → all ≡ take (i + 1) xs
copy_more xs i x done all y h e k g = g ∙ ap₂ (λ l z. l ++ z ∷ []) e k ∙ sym (take_got xs i x h)

pub slice_get-append : {A : Type 0} (xs ys : List A) (i : ℕ) (x : A) → slice_get xs i ≡ Some x → slice_get (xs ++ ys) i ≡ Some x
slice_get-append [] ys i x h = cc
slice_get-append (y ∷ xs) ys zero x h = h
slice_get-append (y ∷ xs) ys (suc i) x h = slice_get-append xs ys i x h

pub slice_get-end : {A : Type 0} (xs : List A) (x : A) → slice_get (xs ++ x ∷ []) (length xs) ≡ Some x
slice_get-end [] x = refl
slice_get-end (y ∷ xs) x = slice_get-end xs x

-- what stands at a place of a list that is seen through f
pub mapped_get : {A B : Type 0} (f : A → B) (xs : List A) (i : ℕ) (x : A) → slice_get xs i ≡ Some x → slice_get (map f xs) i ≡ Some (f x)
mapped_get f [] i x h = cc
mapped_get f (y ∷ xs) zero x h = cc
mapped_get f (y ∷ xs) (suc i) x h = mapped_get f xs i x h

pub map-append : {A B : Type 0} (f : A → B) (xs ys : List A) → map f (xs ++ ys) ≡ map f xs ++ map f ys
map-append f [] ys = refl
map-append f (x ∷ xs) ys = ap (λ l. f x ∷ l) (map-append f xs ys)

-- one element more is mapped
pub map_more : {A B : Type 0} (f : A → B) (xs : List A) (i : ℕ) (x : A) (done all : List B) (y : B) → slice_get xs i ≡ Some x → done ≡ map f (take i xs) → y ≡ f x → all ≡ done ++ y ∷ [] → all ≡ map f (take (i + 1) xs)
map_more f xs i x done all y h e k g =
    g
    ∙ ap (λ l. l ++ y ∷ []) e
    ∙ ap (λ z. map f (take i xs) ++ z ∷ []) k
    ∙ sym (ap (map f) (take_got xs i x h) ∙ map-append f (take i xs) (x ∷ []))

-- one element more is the same in both
pub take_both : {A : Type 0} (xs ys : List A) (i : ℕ) (x y : A) → take i xs ≡ take i ys → slice_get xs i ≡ Some x → slice_get ys i ≡ Some y → x ≡ y → take (i + 1) xs ≡ take (i + 1) ys
take_both xs ys i x y e h k p = take_got xs i x h ∙ ap₂ (λ l z. l ++ z ∷ []) e p ∙ sym (take_got ys i y k)

-- lists that differ at a place differ
pub differ_at : {A : Type 0} (xs ys : List A) (i : ℕ) (x y : A) → slice_get xs i ≡ Some x → slice_get ys i ≡ Some y → (x ≡ y → ⊥) → xs ≡ ys → ⊥
differ_at xs ys i x y h k n e =
    let p : Some x ≡ Some y = sym h ∙ ap (λ l. slice_get l i) e ∙ k in
    let q : x ≡ y = cc in
    n q
