-- The holes of partial terms.
use Rattle.std.specs.Prelude.{◌≡◌, ◌<◌, ◌+◌, ℕ, zero, suc, List, [], ◌∷◌, Option, Some, None, option_map, slice_get, drop, refl}
use Rattle.std.proofs.Common.{ap, ap₂, sym, ◌∙◌, arith}
use Rattle.std.proofs.lemmas.Option.{same_Some}
use Rattle.stt_core.specs.SimpleType.{SimpleType}
use Rattle.stt_core.specs.Lambda.{Lambda}
use Rattle.search_spec.specs.Partial.{Partial, hole, head, function, application, Hole, first_hole, or_else}
use Rattle.instantiate.specs.Internal.PartialSizes.{partial_node_count, partial_node_counts}
use Rattle.instantiate.specs.PartialView.{applications}
use Rattle.instantiate.specs.Internal.Holes.{base_in, base_among, first_among}

option_map-or_else : {A B : Type 0} (f : A → B) (x y : Option A) → option_map f (or_else x y) ≡ or_else (option_map f x) (option_map f y)
option_map-or_else f (Some x) y = refl
option_map-or_else f None y = refl

or_else_assoc : {A : Type 0} (x y z : Option A) → or_else (or_else x y) z ≡ or_else x (or_else y z)
or_else_assoc (Some x) y z = refl
or_else_assoc None y z = refl

or_else_none : {A : Type 0} (x : Option A) → x ≡ or_else x None
or_else_none (Some n) = refl
or_else_none None = refl

abbrev base_of : Hole → ℕ
base_of h = h.base

-- the base type of the first hole doesn't depend on what is in scope around the partial term
base_anywhere : (ctx : List SimpleType) (p : Partial) → option_map (λ (h : Hole). h.base) (first_hole ctx p) ≡ base_in p
base_anywhere ctx (hole n) = refl
base_anywhere ctx (head h) = refl
base_anywhere ctx (function a p) = base_anywhere (a ∷ ctx) p ∙ sym (base_anywhere (a ∷ []) p)
base_anywhere ctx (application p q) =
    option_map-or_else base_of (first_hole ctx p) (first_hole ctx q) ∙ ap₂ or_else (base_anywhere ctx p) (base_anywhere ctx q)
    ∙ sym (option_map-or_else base_of (first_hole [] p) (first_hole [] q))

pub base_in-function : (a : SimpleType) (p : Partial) → base_in (function a p) ≡ base_in p
base_in-function a p = base_anywhere (a ∷ []) p

pub base_in-application : (p q : Partial) → base_in (application p q) ≡ or_else (base_in p) (base_in q)
base_in-application p q = option_map-or_else base_of (first_hole [] p) (first_hole [] q)

base_in-applications : (p : Partial) (qs : List Partial) → base_in (applications p qs) ≡ or_else (base_in p) (base_among qs)
base_in-applications p [] = or_else_none (base_in p)
base_in-applications p (q ∷ qs) =
    base_in-applications (application p q) qs
    ∙ ap (λ x. or_else x (base_among qs)) (base_in-application p q)
    ∙ or_else_assoc (base_in p) (base_in q) (base_among qs)

pub base_in-spine : (h : Lambda) (qs : List Partial) → base_in (applications (head h) qs) ≡ base_among qs
base_in-spine h qs = base_in-applications (head h) qs

pub drop-at : {X : Type 0} (xs : List X) (i : ℕ) (x : X) → slice_get xs i ≡ Some x → drop i xs ≡ x ∷ drop (i + 1) xs
drop-at [] i x h = cc
drop-at (y ∷ xs) zero x h = ap (λ z. z ∷ xs) (same_Some y x h)
drop-at (y ∷ xs) (suc i) x h =
    let next : i + 1 ≡ suc i = omega arith in
    let later : suc i + 1 ≡ suc (suc i) = omega arith in
    drop-at xs i x h ∙ ap (λ k. x ∷ drop k xs) next ∙ ap (λ k. x ∷ drop k (y ∷ xs)) (sym later)

-- the first hole among the partial terms from a place on
pub base_among-found : (ps : List Partial) (i n : ℕ) (p : Partial) → slice_get ps i ≡ Some p → Some n ≡ base_in p → Some n ≡ base_among (drop i ps)
base_among-found ps i n p at e = ap (λ x. or_else x (base_among (drop (i + 1) ps))) e ∙ ap base_among (sym (drop-at ps i p at))

pub base_among-later : (ps : List Partial) (i : ℕ) (p : Partial) → slice_get ps i ≡ Some p → None ≡ base_in p → base_among (drop (i + 1) ps) ≡ base_among (drop i ps)
base_among-later ps i p at e = ap (λ x. or_else x (base_among (drop (i + 1) ps))) e ∙ ap base_among (sym (drop-at ps i p at))

pub node_count-at : (ps : List Partial) (i : ℕ) (p : Partial) → slice_get ps i ≡ Some p → partial_node_count p < partial_node_counts ps
node_count-at [] i p h = cc
node_count-at (q ∷ ps) zero p h = omega (arith, ap partial_node_count (same_Some q p h))
node_count-at (q ∷ ps) (suc i) p h = omega (arith, node_count-at ps i p h)

-- A HOLE WITH A HEAD THERE

first_hole-applications : (ctx : List SimpleType) (p : Partial) (qs : List Partial) → first_hole ctx (applications p qs) ≡ or_else (first_hole ctx p) (first_among ctx qs)
first_hole-applications ctx p [] = or_else_none (first_hole ctx p)
first_hole-applications ctx p (q ∷ qs) = first_hole-applications ctx (application p q) qs ∙ or_else_assoc (first_hole ctx p) (first_hole ctx q) (first_among ctx qs)

pub slots-spine : {B : Type 0} (f : Hole → B) (ctx : List SimpleType) (h : Lambda) (qs : List Partial) (p : Partial) (x : Option B) → applications (head h) qs ≡ p → x ≡ option_map f (first_among ctx qs) → x ≡ option_map f (first_hole ctx p)
slots-spine f ctx h qs p x whole e = e ∙ ap (option_map f) (sym (first_hole-applications ctx (head h) qs) ∙ ap (first_hole ctx) whole)

module _ {B : Type 0} (f : Hole → B) (ctx : List SimpleType) (ps : List Partial) (i : ℕ) (p : Partial) (at : slice_get ps i ≡ Some p) where
  pub first_among-found : (x : B) → Some x ≡ option_map f (first_hole ctx p) → Some x ≡ option_map f (first_among ctx (drop i ps))
  first_among-found x e =
      ap (λ y. or_else y (option_map f (first_among ctx (drop (i + 1) ps)))) e
      ∙ sym (option_map-or_else f (first_hole ctx p) (first_among ctx (drop (i + 1) ps))) ∙ ap (λ qs. option_map f (first_among ctx qs)) (sym (drop-at ps i p at))

  pub first_among-later : None ≡ option_map f (first_hole ctx p) → option_map f (first_among ctx (drop (i + 1) ps)) ≡ option_map f (first_among ctx (drop i ps))
  first_among-later e =
      ap (λ y. or_else y (option_map f (first_among ctx (drop (i + 1) ps)))) e
      ∙ sym (option_map-or_else f (first_hole ctx p) (first_among ctx (drop (i + 1) ps))) ∙ ap (λ qs. option_map f (first_among ctx qs)) (sym (drop-at ps i p at))
