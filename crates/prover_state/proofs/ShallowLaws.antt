-- Tests of lists, element by element.
use Rattle.std.specs.Prelude.{◌≡◌, ◌+◌, ◌&&◌, ℕ, Bool, true, false, List, ◌++◌, map, drop, slice_get, Some}
use Rattle.std.specs.List.{list_all, flat_map}
use Rattle.std.proofs.Common.{sym, ap, ◌∙◌, append_assoc}
use Rattle.stt_core.proofs.ListLaws.{drop_got}

module _ {X Y : Type 0} (test : Y → Bool) (f : X → Y) (xs : List X) (i : ℕ) (x : X) (at : slice_get xs i ≡ Some x) where
  one_more : list_all test (map f (drop i xs)) ≡ (test (f x) && list_all test (map f (drop (i + 1) xs)))
  one_more = ap (λ ys. list_all test (map f ys)) (drop_got xs i x at)

  pub passes : (b : Bool) → list_all test (map f (drop i xs)) ≡ b → test (f x) ≡ true → list_all test (map f (drop (i + 1) xs)) ≡ b
  passes b e h = sym (ap (λ t. t && list_all test (map f (drop (i + 1) xs))) h) ∙ sym one_more ∙ e

  pub fails : (b : Bool) → list_all test (map f (drop i xs)) ≡ b → test (f x) ≡ false → false ≡ b
  fails b e h = sym (ap (λ t. t && list_all test (map f (drop (i + 1) xs))) h) ∙ sym one_more ∙ e

-- one list more
pub joined_more : {X : Type 0} (all new : List X) (lists : List (List X)) (i : ℕ) (list : List X) → slice_get lists i ≡ Some list → new ≡ all ++ list → all ++ flat_map (λ (a : List X). a) (drop i lists) ≡ new ++ flat_map (λ (a : List X). a) (drop (i + 1) lists)
joined_more {X} all new lists i list at e =
    ap (λ ls. all ++ flat_map (λ (a : List X). a) ls) (drop_got lists i list at)
    ∙ sym (append_assoc all list (flat_map (λ (a : List X). a) (drop (i + 1) lists)))
    ∙ ap (λ xs. xs ++ flat_map (λ (a : List X). a) (drop (i + 1) lists)) (sym e)
