-- What lists contain.
use Rattle.std.specs.Prelude.{◌≡◌, List, [], ◌∷◌, map, Contains}
use Rattle.std.specs.List.{Any}
use Rattle.std.proofs.Common.{subst, arith}
use Rattle.tableau_calculus.proofs.ListLaws.{contains-first, contains-later, contains_cases}
use Rattle.tableau_calculus.specs.Each.{Each}

pub contains-mapped : {A B : Type 0} (f : A → B) (xs : List A) (x : A) → Contains xs x → Contains (map f xs) (f x)
contains-mapped f [] x h = absurd (omega (arith, h.1))
contains-mapped f (y ∷ xs) x h =
    contains_cases (Contains (map f (y ∷ xs)) (f x)) x y xs h (λ same. subst (λ z. Contains (map f (y ∷ xs)) (f z)) same (contains-first (f y) (map f xs))) (λ later. contains-later (f x) (f y) (map f xs) (contains-mapped f xs x later))

-- what an element of a mapped list comes from
pub contains-unmapped : {A B : Type 0} (f : A → B) (xs : List A) (y : B) → Contains (map f xs) y → (x : A) × Contains xs x × (f x ≡ y)
contains-unmapped f [] y h = absurd (omega (arith, h.1))
contains-unmapped {A} f (x ∷ xs) y h =
    let Found : Type 0 = (z : A) × Contains (x ∷ xs) z × (f z ≡ y) in
    contains_cases Found y (f x) (map f xs) h (λ same. (x, contains-first x xs, same)) (λ later. let found = contains-unmapped f xs y later in (found.0, contains-later found.0 x xs found.1, found.2))

pub each-contains : {A : Type 0} (P : A → Type 0) (xs : List A) (x : A) → Each P xs → Contains xs x → P x
each-contains P [] x h there = absurd (omega (arith, there.1))
each-contains P (y ∷ xs) x h there = contains_cases (P x) x y xs there (λ same. subst P same h.0) (λ later. each-contains P xs x h.1 later)

pub each-from_contains : {A : Type 0} (P : A → Type 0) (xs : List A) → ((x : A) → Contains xs x → P x) → Each P xs
each-from_contains P [] h = tt
each-from_contains P (x ∷ xs) h = (h x (contains-first x xs), each-from_contains P xs (λ y there. h y (contains-later y x xs there)))

pub some-in : {A : Type 0} (P : A → Type 0) (xs : List A) → Any P xs → (x : A) × Contains xs x × P x
some-in P xs h = (h.1, (h.0, h.2, h.3), h.4)
