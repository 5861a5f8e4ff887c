-- Lists that share an element, by what their elements stand for.
use Rattle.std.specs.Prelude.{◌≡◌, ◌<◌, ◌++◌, ℕ, List, [], ◌∷◌, map, length, get_or, slice_get, option_map, Some}
use Rattle.std.proofs.Common.{sym, ap, ◌∙◌, arith}
use Rattle.std.proofs.lemmas.List.{map-append, length-map}
use Rattle.std.proofs.lemmas.Option.{same_Some, slice_get-map, slice_get-get_or}

-- what is appended to a list has the value that stands at the place of the other one
module _ {X Y : Type 0} (V : X → Y) (xs ys new : List X) (a s : X) (i : ℕ) (ours theirs : List Y) (our_view : map V xs ≡ ours) (their_view : map V ys ≡ theirs) where
  pub shared-last : (y : Y) → new ≡ xs ++ s ∷ [] → V s ≡ V a → a ≡ get_or ys i a → i < length theirs → slice_get theirs i ≡ Some y → map V new ≡ ours ++ y ∷ []
  shared-last y e v got within at =
      let here = slice_get-get_or ys i a (omega (arith, within, ap length their_view, length-map ys V)) in
      let is = same_Some (V a) y (sym (slice_get-map V ys i ∙ ap (option_map V) (here ∙ ap Some (sym got))) ∙ ap (λ zs. slice_get zs i) their_view ∙ at) in
      ap (map V) e ∙ map-append V xs (s ∷ []) ∙ ap (λ x. map V xs ++ x ∷ []) (v ∙ is) ∙ ap (λ zs. zs ++ y ∷ []) our_view
