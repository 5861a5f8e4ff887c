-- Numbers by base types.
use Rattle.std.specs.Prelude.{◌≡◌, ◌<◌, ◌+◌, ℕ, zero, suc, Bool, true, false, nat_eq, List, [], ◌∷◌, ◌++◌, map, filter, length, get_or, set, refl, if◌then◌else◌}
use Rattle.std.proofs.Common.{◌≤◌, sym, ap, ap₂, ◌∙◌, eqb-true, arith}
use Rattle.std.proofs.lemmas.Bool.Decides.{nat_tests}
use Rattle.std.proofs.lemmas.List.Elements.{filter-append}
use Rattle.std.proofs.lemmas.List.{append-nil, length-map, get_or-map, map-set, get_or-set_other}
use Rattle.std.proofs.Math.ListN.{get_or-eq_default}
use Rattle.std.proofs.lemmas.Grind.{get_or-set_at}
use Rattle.stt_core.proofs.ListLaws.{map-append}
use Rattle.stt_core.specs.SimpleType.{base, same_type}
use Rattle.instantiate.specs.Listing.{Listing, ids_of}
use Rattle.prover_state.specs.Internal.ByBase.{listings}

same_number : (m n : ℕ) → m ≡ n → nat_eq m n ≡ true
same_number m n e = grind (arith, nat_tests, e)

other_number : (m n : ℕ) → (m ≡ n → ⊥) → nat_eq m n ≡ false
other_number m n h = grind (arith, nat_tests, h)

numbers_differ : (m n : ℕ) → nat_eq m n ≡ false → m ≡ n → ⊥
numbers_differ m n h e = grind (arith, nat_tests, h, e)

ids-append : (m : ℕ) (us vs : List Listing) → ids_of (base m) (us ++ vs) ≡ ids_of (base m) us ++ ids_of (base m) vs
ids-append m us vs =
    ap (map (λ (l : Listing). l.1)) (filter-append (λ (l : Listing). same_type (base m) l.0) us vs)
    ∙ map-append (λ (l : Listing). l.1) (filter (λ (l : Listing). same_type (base m) l.0) us) (filter (λ (l : Listing). same_type (base m) l.0) vs)

-- the numbers of one list
ids-alone : (m n : ℕ) (is : List ℕ) → ids_of (base m) (map (λ i. (base n, i)) is) ≡ (if nat_eq m n then is else [])
ids-alone m n [] = go (nat_eq m n)
  where
    go : (b : Bool) → (let none : List ℕ = [] in none) ≡ (if b then [] else [])
    go true = refl
    go false = refl
ids-alone m n (i ∷ is) = go (nat_eq m n) (filter (λ (l : Listing). same_type (base m) l.0) (map (λ i. (base n, i)) is)) (ids-alone m n is)
  where
    go : (b : Bool) (all : List Listing) → map (λ (l : Listing). l.1) all ≡ (if b then is else []) → map (λ (l : Listing). l.1) (if b then (base n, i) ∷ all else all) ≡ (if b then i ∷ is else [])
    go true all h = ap (λ xs. i ∷ xs) h
    go false all h = h

ids-listings_below : (m n : ℕ) (lists : List (List ℕ)) → m < n → ids_of (base m) (listings n lists) ≡ []
ids-listings_below m n [] h = refl
ids-listings_below m n (is ∷ lists) h =
    ids-append m (map (λ i. (base n, i)) is) (listings (suc n) lists)
    ∙ ap₂ (λ (us vs : List ℕ). us ++ vs)
    (ids-alone m n is ∙ ap (λ b. if b then is else []) (other_number m n (λ e. omega (arith, h, e))))
    (ids-listings_below m (suc n) lists (omega (arith, h)))

ids-listings_from : (n k m : ℕ) (lists : List (List ℕ)) → m ≡ n + k → ids_of (base m) (listings n lists) ≡ get_or lists k []
ids-listings_from n k m [] e = refl
ids-listings_from n zero m (is ∷ lists) e =
    ids-append m (map (λ i. (base n, i)) is) (listings (suc n) lists)
    ∙ ap₂ (λ (us vs : List ℕ). us ++ vs)
    (ids-alone m n is ∙ ap (λ b. if b then is else []) (same_number m n (omega (arith, e))))
    (ids-listings_below m (suc n) lists (omega (arith, e)))
    ∙ append-nil is
ids-listings_from n (suc k) m (is ∷ lists) e =
    ids-append m (map (λ i. (base n, i)) is) (listings (suc n) lists)
    ∙ ap₂ (λ (us vs : List ℕ). us ++ vs)
    (ids-alone m n is ∙ ap (λ b. if b then is else []) (other_number m n (λ d. omega (arith, e, d))))
    (ids-listings_from (suc n) k m lists (omega (arith, e)))

-- the numbers under a base type are those of its list
pub ids-listings : (m : ℕ) (lists : List (List ℕ)) → ids_of (base m) (listings 0 lists) ≡ get_or lists m []
ids-listings m lists = ids-listings_from 0 m m lists (omega arith)

-- an empty list more
pub listings-nil : (n : ℕ) (lists : List (List ℕ)) → listings n (lists ++ [] ∷ []) ≡ listings n lists
listings-nil n [] = refl
listings-nil n (is ∷ lists) = ap (λ (ls : List Listing). map (λ i. (base n, i)) is ++ ls) (listings-nil (suc n) lists)

module _ {V : Type 0} (f : V → List ℕ) where
  pub listed-there : (vs : List V) (n : ℕ) (v : V) → n < length vs → v ≡ get_or vs n v → f v ≡ get_or (map f vs) n []
  listed-there vs n v h e = ap f e ∙ sym (get_or-map f vs n v [] h)

  pub listed-nowhere : (vs : List V) (n : ℕ) → length vs ≤ n → [] ≡ get_or (map f vs) n []
  listed-nowhere vs n h = sym (get_or-eq_default (map f vs) [] (omega (arith, h, length-map vs f)))

  -- one list is replaced
  listed-set : (vs : List V) (n m : ℕ) (v : V) → n < length vs → get_or (map f (set vs n v)) m [] ≡ (if nat_eq n m then f v else get_or (map f vs) m [])
  listed-set vs n m v h = ap (λ ls. get_or ls m []) (map-set f vs n v) ∙ go (nat_eq n m) refl
    where
      go : (b : Bool) → nat_eq n m ≡ b → get_or (set (map f vs) n (f v)) m [] ≡ (if b then f v else get_or (map f vs) m [])
      go true e = get_or-set_at (map f vs) n m (f v) [] (sym (eqb-true n m e)) (omega (arith, h, length-map vs f))
      go false e = get_or-set_other (map f vs) n m (f v) [] (λ d. numbers_differ n m e (sym d))

  -- one list gets a number more
  pub listed-push : (vs : List V) (n m k : ℕ) (u v : V) (all : List ℕ) → n < length vs → u ≡ get_or vs n u → f v ≡ f u ++ k ∷ [] → get_or (map f vs) m [] ≡ all → get_or (map f (set vs n v)) m [] ≡ (if nat_eq n m then all ++ k ∷ [] else all)
  listed-push vs n m k u v all h at is there = listed-set vs n m v h ∙ go (nat_eq n m) refl
    where
      go : (b : Bool) → nat_eq n m ≡ b → (if b then f v else get_or (map f vs) m []) ≡ (if b then all ++ k ∷ [] else all)
      go true e = is ∙ ap (λ is. is ++ k ∷ []) (listed-there vs n u h at ∙ ap (λ i. get_or (map f vs) i []) (eqb-true n m e) ∙ there)
      go false e = there

  pub listings-more : (n : ℕ) (vs : List V) (v : V) → f v ≡ [] → listings n (map f (vs ++ v ∷ [])) ≡ listings n (map f vs)
  listings-more n vs v e =
      ap (listings n) (map-append f vs (v ∷ []) ∙ ap (λ (is : List ℕ). map f vs ++ is ∷ []) e)
      ∙ listings-nil n (map f vs)
