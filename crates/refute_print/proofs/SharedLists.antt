-- Lists that share an element, by what their elements stand for.
use Rattle.std.specs.Prelude.{◌≡◌, ◌<◌, ◌++◌, ℕ, List, [], ◌∷◌, map, length, get_or, slice_get, option_map, Some}
use Rattle.std.proofs.Common.{sym, ap, ◌∙◌, arith}
use Rattle.std.proofs.lemmas.List.{map-append, length-map}
use Rattle.std.proofs.lemmas.Option.{same_Some, slice_get-map, slice_get-get_or}

module _ {X Y : Type 0} (V : X → Y) (xs ys : List X) (a : X) (i : ℕ) (got : a ≡ get_or ys i a) (within : i < length (map V ys)) where
  -- what stands at a place stands for what is at that place
  stands_for : (y : Y) → slice_get (map V ys) i ≡ Some y → V a ≡ y
  stands_for y at =
      let here = slice_get-get_or ys i a (omega (arith, within, length-map ys V)) in
      same_Some (V a) y (sym (slice_get-map V ys i ∙ ap (option_map V) (here ∙ ap Some (sym got))) ∙ at)

  -- what is appended to a list has the value that stands at the place of the other one
  pub shared-last : (s : X) (y : Y) → V s ≡ V a → slice_get (map V ys) i ≡ Some y → map V (xs ++ s ∷ []) ≡ map V xs ++ y ∷ []
  shared-last s y v at = map-append V xs (s ∷ []) ∙ ap (λ x. map V xs ++ x ∷ []) (v ∙ stands_for y at)
