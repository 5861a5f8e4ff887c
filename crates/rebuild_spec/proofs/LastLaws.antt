-- The walk from a line ends with it.
use Rattle.std.proofs.Common.{◌≡◌, ◌<◌, ◌≤◌, ◌+◌, if◌then◌else◌, ℕ, suc, Bool, true, false, List, [], ◌∷◌, ◌++◌, Some, slice_get, refl, sym, subst, arith}
use Rattle.std.specs.List.{list_any}
use Rattle.rebuild_spec.specs.Trees.{Tree, leaf, cut, same_line}
use Rattle.rebuild_spec.specs.Lines.{with_line, walked, line_number_in}
use Rattle.rebuild_spec.proofs.WalkLaws.{get-push, found_there, IsEach, IsOrdered, walk_lists}

abbrev size : Tree → ℕ
size (leaf p ls rule children) = 1
size (cut p v t u) = suc (size t + size u)

abbrev AreSmall : ℕ → List Tree → Type 0
AreSmall n lines = (i : ℕ) (t : Tree) → slice_get lines i ≡ Some t → size t ≤ n

with_line_small : (n : ℕ) (done : List Tree) (t : Tree) → AreSmall n done → size t ≤ n → AreSmall n (with_line done t)
with_line_small n done t small l = go (list_any (same_line t) done)
  where
    go : (b : Bool) → AreSmall n (if b then done else done ++ t ∷ [])
    go true = small
    go false = λ i u h. get-push (size u ≤ n) done t u i h (λ old. small i u old) (λ e same. subst (λ x. size x ≤ n) same l)

walked_small : (n : ℕ) (t : Tree) (done : List Tree) → AreSmall n done → size t ≤ n → AreSmall n (walked done t)
walked_small n (leaf p ls rule children) done small l = with_line_small n done (leaf p ls rule children) small l
walked_small n (cut p v t u) done small l =
    with_line_small n (walked (walked done t) u) (cut p v t u)
    (walked_small n u (walked done t) (walked_small n t done small (first t u l)) (second t u l)) l
  where
    first : (t u : Tree) → suc (size t + size u) ≤ n → size t ≤ n
    first t u l = omega (arith, l)

    second : (t u : Tree) → suc (size t + size u) ≤ n → size u ≤ n
    second t u l = omega (arith, l)

-- a list that ends with this line
pub record EndsWith (lines : List Tree) (t : Tree) : Type 0 where
  pub front : List Tree
  pub are : lines ≡ front ++ t ∷ []

module _ (Is : Tree → Type 0) (one : (t u : Tree) → Is t → Is u → same_line t u ≡ true → t ≡ u) where
  nothing_ordered : IsOrdered Is []
  nothing_ordered = record { each = λ i t h. cc; earlier = λ i t h. cc; numbered = λ i t h. cc }

  pub walk_ordered : (t : Tree) → IsEach Is t → IsOrdered Is (walked [] t)
  walk_ordered t is = (walk_lists Is one t [] is nothing_ordered).ordered

  ends_pushed : (n : ℕ) (lines : List Tree) (t : Tree) → Is t → IsOrdered Is lines → AreSmall n lines → n < size t → EndsWith (with_line lines t) t
  ends_pushed n lines t is ordered small l = go (list_any (same_line t) lines) refl
    where
      go : (b : Bool) → list_any (same_line t) lines ≡ b → EndsWith (if b then lines else lines ++ t ∷ []) t
      go true e =
          let found = found_there lines t e in
          let same : t ≡ found.0 = one t found.0 is (ordered.each (line_number_in lines t) found.0 found.1) found.2 in
          let less : size t ≤ n = subst (λ u. size u ≤ n) (sym same) (small (line_number_in lines t) found.0 found.1) in
          absurd (omega (arith, less, l))
      go false e = record { front = lines; are = refl }

  pub walk_ends : (t : Tree) → IsEach Is t → EndsWith (walked [] t) t
  walk_ends (leaf p ls rule children) is = record { front = []; are = refl }
  walk_ends (cut p v t u) is =
      let first = walk_lists Is one t [] is.1 nothing_ordered in
      let second = walk_lists Is one u (walked [] t) is.2 first.ordered in
      let n = size t + size u in
      let small = walked_small n u (walked [] t) (walked_small n t [] (λ i x h. cc) (omega arith)) (omega arith) in
      ends_pushed n (walked (walked [] t) u) (cut p v t u) is.0 second.ordered small (omega arith)
