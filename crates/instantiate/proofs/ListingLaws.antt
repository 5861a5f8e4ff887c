-- The first group of each type.
use Rattle.std.specs.Prelude.{◌≡◌, ℕ, suc, Bool, true, false, List, [], ◌∷◌, ◌++◌, length, Option, Some, None, slice_get, if◌then◌else◌, refl}
use Rattle.std.proofs.Common.{set, sym, ap, ap₂, ◌∙◌, true≢false, arith}
use Rattle.std.proofs.lemmas.Option.{same_Some}
use Rattle.stt_core.specs.SimpleType.{SimpleType, same_type}
use Rattle.stt_core.proofs.TypeLaws.{same_type-true}
use Rattle.instantiate.specs.Listing.{Listing, ids_of}
use Rattle.instantiate.specs.Internal.Groups.{Group, first_group, group_place, AreRightGroups, HasOneMore}

-- what stands at the place of a type
pub at_place : (a : SimpleType) (gs : List Group) (g : Group) → slice_get gs (group_place a gs) ≡ Some g → (same_type a g.0 ≡ true) × (first_group a gs ≡ g.1)
at_place a [] g h = cc
at_place a (k ∷ gs) g h = go (same_type a k.0) refl (at_place a gs g) h
  where
    go : (b : Bool) → same_type a k.0 ≡ b → (slice_get gs (group_place a gs) ≡ Some g → (same_type a g.0 ≡ true) × (first_group a gs ≡ g.1)) → slice_get (k ∷ gs) (if b then 0 else suc (group_place a gs)) ≡ Some g → (same_type a g.0 ≡ true) × ((if b then k.1 else first_group a gs) ≡ g.1)
    go true e rest h = let same : k ≡ g = same_Some k g h in (ap (λ (x : Group). same_type a x.0) (sym same) ∙ e, ap (λ (x : Group). x.1) same)
    go false e rest h = rest h

pub no_place : (a : SimpleType) (gs : List Group) → slice_get gs (group_place a gs) ≡ None → first_group a gs ≡ []
no_place a [] h = refl
no_place a (k ∷ gs) h = go (same_type a k.0) (no_place a gs) h
  where
    go : (b : Bool) → (slice_get gs (group_place a gs) ≡ None → first_group a gs ≡ []) → slice_get (k ∷ gs) (if b then 0 else suc (group_place a gs)) ≡ None → (if b then k.1 else first_group a gs) ≡ []
    go true rest h = cc
    go false rest h = rest h

-- The type of an earlier group isn't that of a later first one.
not_both : (a c b : SimpleType) → same_type a b ≡ false → same_type c b ≡ true → same_type c a ≡ false
not_both a c b none same = go (same_type c a) refl
  where
    go : (s : Bool) → same_type c a ≡ s → s ≡ false
    go true e = absurd (true≢false (sym same ∙ ap (λ x. same_type x b) (same_type-true c a e) ∙ none))
    go false e = refl

step : {X : Type 0} (a c b : SimpleType) (x y z w : X) → same_type a b ≡ false → w ≡ (if same_type c a then x else z) → (if same_type c b then y else w) ≡ (if same_type c a then x else (if same_type c b then y else z))
step a c b x y z w none rest = go (same_type c b) refl
  where
    go : (t : Bool) → same_type c b ≡ t → (if t then y else w) ≡ (if same_type c a then x else (if t then y else z))
    go true e = sym (ap (λ (s : Bool). if s then x else y) (not_both a c b none e))
    go false e = rest

twice : {X : Type 0} (s : Bool) (x y z : X) → (if s then x else z) ≡ (if s then x else (if s then y else z))
twice true x y z = refl
twice false x y z = refl

pub set-first : (a : SimpleType) (gs : List Group) (g : Group) (is : List ℕ) → slice_get gs (group_place a gs) ≡ Some g → (c : SimpleType) → first_group c (set gs (group_place a gs) (g.0, is)) ≡ (if same_type c a then is else first_group c gs)
set-first a [] g is h c = cc
set-first a (k ∷ gs) g is h c = go (same_type a k.0) refl (λ e. set-first a gs g is e c) h
  where
    go : (b : Bool) → same_type a k.0 ≡ b → (slice_get gs (group_place a gs) ≡ Some g → first_group c (set gs (group_place a gs) (g.0, is)) ≡ (if same_type c a then is else first_group c gs)) → slice_get (k ∷ gs) (if b then 0 else suc (group_place a gs)) ≡ Some g → first_group c (set (k ∷ gs) (if b then 0 else suc (group_place a gs)) (g.0, is)) ≡ (if same_type c a then is else (if same_type c k.0 then k.1 else first_group c gs))
    go true e rest h =
        let same : k ≡ g = same_Some k g h in
        let ty : a ≡ k.0 = same_type-true a k.0 e in
        ap (λ (x : Group). if same_type c x.0 then is else first_group c gs) (sym same)
        ∙ ap (λ (x : SimpleType). if same_type c x then is else first_group c gs) (sym ty)
        ∙ twice (same_type c a) is k.1 (first_group c gs)
        ∙ ap (λ (x : SimpleType). if same_type c a then is else (if same_type c x then k.1 else first_group c gs)) ty
    go false e rest h = step a c k.0 is k.1 (first_group c gs) (first_group c (set gs (group_place a gs) (g.0, is))) e (rest h)

pub end-first : (a : SimpleType) (gs : List Group) (is : List ℕ) → group_place a gs ≡ length gs → (c : SimpleType) → first_group c (gs ++ (a, is) ∷ []) ≡ (if same_type c a then is else first_group c gs)
end-first a [] is h c = refl
end-first a (k ∷ gs) is h c = go (same_type a k.0) refl (λ e. end-first a gs is e c) h
  where
    go : (b : Bool) → same_type a k.0 ≡ b → (group_place a gs ≡ length gs → first_group c (gs ++ (a, is) ∷ []) ≡ (if same_type c a then is else first_group c gs)) → (if b then 0 else suc (group_place a gs)) ≡ suc (length gs) → first_group c (k ∷ (gs ++ (a, is) ∷ [])) ≡ (if same_type c a then is else (if same_type c k.0 then k.1 else first_group c gs))
    go true e rest h = absurd (omega (arith, h))
    go false e rest h = step a c k.0 is k.1 (first_group c gs) (first_group c (gs ++ (a, is) ∷ [])) e (rest (omega (arith, h)))

pub at_end : (a : SimpleType) (gs : List Group) → group_place a gs ≡ length gs → first_group a gs ≡ []
at_end a [] h = refl
at_end a (k ∷ gs) h = go (same_type a k.0) (at_end a gs) h
  where
    go : (b : Bool) → (group_place a gs ≡ length gs → first_group a gs ≡ []) → (if b then 0 else suc (group_place a gs)) ≡ suc (length gs) → (if b then k.1 else first_group a gs) ≡ []
    go true rest h = absurd (omega (arith, h))
    go false rest h = rest (omega (arith, h))

-- The lists stay right where both the list and the order take the term.
by_type : (a c : SimpleType) (xs ys is os : List ℕ) → (same_type c a ≡ true → xs ≡ is) → ys ≡ os → (if same_type c a then xs else ys) ≡ (if same_type c a then is else os)
by_type a c xs ys is os here else' = go (same_type c a) refl
  where
    go : (s : Bool) → same_type c a ≡ s → (if s then xs else ys) ≡ (if s then is else os)
    go true e = here e
    go false e = else'

-- a term in the list of its type, or in a new one
pub more_old : (gs after : List Group) (a : SimpleType) (g : Group) (id : ℕ) → slice_get gs (group_place a gs) ≡ Some g → after ≡ set gs (group_place a gs) (g.0, g.1 ++ id ∷ []) → HasOneMore a id gs after
more_old gs after a g id here is c =
    ap (first_group c) is ∙ set-first a gs g (g.1 ++ id ∷ []) here c
    ∙ by_type a c (g.1 ++ id ∷ []) (first_group c gs) (first_group c gs ++ id ∷ []) (first_group c gs)
    (λ e. ap (λ is. is ++ id ∷ []) (sym (at_place a gs g here).1 ∙ ap (λ x. first_group x gs) (sym (same_type-true c a e)))) refl

pub more_new : (gs after : List Group) (a : SimpleType) (id : ℕ) → group_place a gs ≡ length gs → after ≡ gs ++ (a, id ∷ []) ∷ [] → HasOneMore a id gs after
more_new gs after a id at is c =
    ap (first_group c) is ∙ end-first a gs (id ∷ []) at c
    ∙ by_type a c (id ∷ []) (first_group c gs) (first_group c gs ++ id ∷ []) (first_group c gs)
    (λ e. ap (λ is. is ++ id ∷ []) (sym (at_end a gs at) ∙ ap (λ x. first_group x gs) (sym (same_type-true c a e)))) refl

here_place : (gs ss ds : List Group) (a : SimpleType) (n : ℕ) (o : Option Group) → ss ≡ gs → n ≡ group_place a ss → ds ≡ gs → slice_get ds n ≡ o → slice_get gs (group_place a gs) ≡ o
here_place gs ss ds a n o same at deref h = ap₂ slice_get (sym deref) (ap (group_place a) (sym same) ∙ sym at) ∙ h

-- what is read at the place of a type are its terms
pub shown : (gs ss ds : List Group) (all : List Listing) (a : SimpleType) (n : ℕ) (g : Group) → AreRightGroups gs all → ss ≡ gs → n ≡ group_place a ss → ds ≡ gs → slice_get ds n ≡ Some g → g.1 ≡ ids_of a all
shown gs ss ds all a n g right same at deref h = sym (at_place a gs g (here_place gs ss ds a n (Some g) same at deref h)).1 ∙ right a

pub none_shown : (gs ss ds : List Group) (all : List Listing) (a : SimpleType) (n : ℕ) → AreRightGroups gs all → ss ≡ gs → n ≡ group_place a ss → ds ≡ gs → slice_get ds n ≡ None → [] ≡ ids_of a all
none_shown gs ss ds all a n right same at deref h = sym (no_place a gs (here_place gs ss ds a n None same at deref h)) ∙ right a
