-- Lists as sets: what one list holds, and what is within another.
use Rattle.std.proofs.Common.{◌≡◌, ℕ, zero, suc, ◌+◌, ◌≤◌, List, [], ◌∷◌, ◌++◌, Some, length, slice_get, take, take_all, Contains, Bool, false, IsTrue, refl, subst, ⊎_elim, arith}
use Rattle.std.proofs.lemmas.List.Elements.{Contains-append_left, Contains-append_right, Contains-push_cases}
use Rattle.stt_core.proofs.ListLaws.{take_got}
use Rattle.tableau_calculus.specs.Literals.{Literal, opposite}
use Rattle.tableau_calculus.specs.Accepted.{Within, IsClosedBranch}

pub contains-first : {A : Type 0} (x : A) (xs : List A) → Contains (x ∷ xs) x
contains-first x xs = (0, omega arith, refl)

pub contains-later : {A : Type 0} (x y : A) (xs : List A) → Contains xs x → Contains (y ∷ xs) x
contains-later x y xs h = (suc h.0, omega (arith, h.1), h.2)

-- an element of a list that begins with another one is that or one of the rest
pub contains_cases : {A : Type 0} (P : Type 0) (x y : A) (xs : List A) → Contains (y ∷ xs) x → (y ≡ x → P) → (Contains xs x → P) → P
contains_cases P x y xs (zero, below, is) first later = first is
contains_cases P x y xs (suc k, below, is) first later = later (k, omega (arith, below), is)

pub contains-get : {A : Type 0} (xs : List A) (i : ℕ) (x : A) → slice_get xs i ≡ Some x → Contains xs x
contains-get [] i x h = cc
contains-get (y ∷ xs) zero x h = (0, omega arith, cc)
contains-get (y ∷ xs) (suc i) x h = contains-later x y xs (contains-get xs i x h)

pub contains-within : (l : Literal) (ls branch : List Literal) → Contains ls l → Within ls branch → Contains branch l
contains-within l [] branch h w = absurd (omega (arith, h.1))
contains-within l (k ∷ ls) branch h w =
    contains_cases (Contains branch l) l k ls h (λ e. subst (Contains branch) e w.0) (λ j. contains-within l ls branch j w.1)

pub within-each : (ls branch : List Literal) → ((l : Literal) → Contains ls l → Contains branch l) → Within ls branch
within-each [] branch h = tt
within-each (l ∷ ls) branch h = (h l (contains-first l ls), within-each ls branch (λ k j. h k (contains-later k l ls j)))

pub within-itself : (branch : List Literal) → Within branch branch
within-itself branch = within-each branch branch (λ l h. h)

pub within-trans : (a b c : List Literal) → Within a b → Within b c → Within a c
within-trans a b c h k = within-each a c (λ l j. contains-within l b c (contains-within l a b j h) k)

pub within-behind : (front ls branch : List Literal) → Within ls branch → Within ls (front ++ branch)
within-behind front ls branch h = within-each ls (front ++ branch) (λ l j. Contains-append_right front branch l (contains-within l ls branch j h))

pub within-before : (front branch : List Literal) → Within front (front ++ branch)
within-before front branch = within-each front (front ++ branch) (λ l j. Contains-append_left front branch l j)

pub within-both : (a b branch : List Literal) → Within a branch → Within b branch → Within (a ++ b) branch
within-both [] b branch h k = k
within-both (l ∷ a) b branch h k = (h.0, within-both a b branch h.1 k)

-- the same literals before two branches, of which one is within the other
pub within-appends : (front ls branch : List Literal) → Within ls branch → Within (front ++ ls) (front ++ branch)
within-appends front ls branch h =
    within-both front ls (front ++ branch) (within-before front branch) (within-behind front ls branch h)

pub closed-within : (ls branch : List Literal) → IsClosedBranch ls → Within ls branch → IsClosedBranch branch
closed-within ls branch c w = record {
  literal = c.literal;
  holds = contains-within c.literal ls branch c.holds w;
  holds_opposite = contains-within (opposite c.literal) ls branch c.holds_opposite w;
}

-- each element has the property
abbrev pub Each : {A : Type 0} → (A → Type 0) → List A → Type 0
Each {A} P xs = (x : A) → Contains xs x → P x

-- one element more has it
pub each-more : {A : Type 0} (P : A → Type 0) (xs : List A) (i : ℕ) (x : A) → slice_get xs i ≡ Some x → Each P (take i xs) → P x → Each P (take (i + 1) xs)
each-more P xs i x e before here y h =
    ⊎_elim (before y) (λ same. subst P same here) (Contains-push_cases (take i xs) x y (subst (λ l. Contains l y) (take_got xs i x e) h))

pub each-all : {A : Type 0} (P : A → Type 0) (xs : List A) (i : ℕ) → length xs ≤ i → Each P (take i xs) → Each P xs
each-all P xs i l h = subst (Each P) (take_all i xs l) h

-- an answer isn't true and false
pub untrue : {b : Bool} → IsTrue b → b ≡ false → ⊥
untrue h e = cc
