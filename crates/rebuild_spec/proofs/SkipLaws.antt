-- A walk from a line that is there already adds nothing, and a walk as a list of tasks.
use Rattle.std.proofs.Common.{◌≡◌, ◌<◌, if◌then◌else◌, ℕ, zero, suc, Bool, true, false, List, [], ◌∷◌, ◌++◌, length, Some, slice_get, refl, sym, ap, ◌∙◌, subst, append_assoc, append-nil, arith}
use Rattle.std.specs.List.{list_any}
use Rattle.std.proofs.lemmas.Bool.{or_left, or_right}
use Rattle.std.proofs.lemmas.Option.{slice_get_within}
use Rattle.rebuild_spec.specs.Trees.{Tree, leaf, cut, made_at, same_line}
use Rattle.rebuild_spec.specs.Lines.{with_line, walked, line_number_in}
use Rattle.rebuild_spec.proofs.WalkLaws.{same_place-refl, found_there, number-append, get-append, get-front, IsListed, HasEarlierChildren, IsEach, IsOrdered}

any_at : (lines : List Tree) (i : ℕ) (t : Tree) → slice_get lines i ≡ Some t → list_any (same_line t) lines ≡ true
any_at [] i t h = cc
any_at (x ∷ lines) zero t h = let same : x ≡ t = cc in or_left (same_line t x) _ (subst (λ y. same_line t y ≡ true) (sym same) (same_place-refl (made_at t)))
any_at (x ∷ lines) (suc i) t h = or_right (same_line t x) _ (any_at lines i t h)

with_line_there : (done : List Tree) (t : Tree) → list_any (same_line t) done ≡ true → with_line done t ≡ done
with_line_there done t e = ap (λ (b : Bool). if b then done else done ++ t ∷ []) e

module _ (Is : Tree → Type 0) (one : (t u : Tree) → Is t → Is u → same_line t u ≡ true → t ≡ u) where
  pub walked_there : (t : Tree) (done : List Tree) → IsEach Is t → IsOrdered Is done → list_any (same_line t) done ≡ true → walked done t ≡ done
  walked_there (leaf p ls rule children) done is ordered e = with_line_there done (leaf p ls rule children) e
  walked_there (cut p v t u) done is ordered e =
      let whole = cut p v t u in
      let found = found_there done whole e in
      let same : whole ≡ found.0 = one whole found.0 is.0 (ordered.each (line_number_in done whole) found.0 found.1) found.2 in
      let listed : IsListed done whole = found.1 ∙ ap Some (sym same) in
      let children = ordered.earlier (line_number_in done whole) whole listed in
      let first = walked_there t done is.1 ordered (any_at done (line_number_in done t) t children.0.0) in
      let second = walked_there u done is.2 ordered (any_at done (line_number_in done u) u children.1.0) in
      ap (λ k. with_line (walked k u) whole) first ∙ ap (λ k. with_line k whole) second ∙ with_line_there done whole e

-- what is left to do in a walk: to walk from a line, or to list it
pub data Task : Type 0 where
  visit : Tree → Task
  list : Tree → Task

-- the lines after the tasks, from those before
abbrev pub run : List Tree → List Task → List Tree
run done [] = done
run done (visit t ∷ tasks) = run (walked done t) tasks
run done (list t ∷ tasks) = run (with_line done t) tasks

with_line_grows : (done : List Tree) (t : Tree) → (more : List Tree) × (with_line done t ≡ done ++ more)
with_line_grows done t = go (list_any (same_line t) done)
  where
    go : (b : Bool) → (more : List Tree) × ((if b then done else done ++ t ∷ []) ≡ done ++ more)
    go true = ([], sym (append-nil done))
    go false = (t ∷ [], refl)

walked_grows : (t : Tree) (done : List Tree) → (more : List Tree) × (walked done t ≡ done ++ more)
walked_grows (leaf p ls rule children) done = with_line_grows done (leaf p ls rule children)
walked_grows (cut p v t u) done =
    let first = walked_grows t done in
    let second = walked_grows u (walked done t) in
    let last = with_line_grows (walked (walked done t) u) (cut p v t u) in (
      first.0 ++ (second.0 ++ last.0),
      last.1 ∙ ap (λ k. k ++ last.0) (second.1 ∙ ap (λ k. k ++ second.0) first.1) ∙ append_assoc (done ++ first.0) second.0 last.0 ∙ append_assoc done first.0 (second.0 ++ last.0),
    )

-- tasks add lines and change none
run_grows : (tasks : List Task) (done : List Tree) → (more : List Tree) × (run done tasks ≡ done ++ more)
run_grows [] done = ([], sym (append-nil done))
run_grows (visit t ∷ tasks) done =
    let first = walked_grows t done in
    let rest = run_grows tasks (walked done t) in
    (first.0 ++ rest.0, rest.1 ∙ ap (λ k. k ++ rest.0) first.1 ∙ append_assoc done first.0 rest.0)
run_grows (list t ∷ tasks) done =
    let first = with_line_grows done t in
    let rest = run_grows tasks (with_line done t) in
    (first.0 ++ rest.0, rest.1 ∙ ap (λ k. k ++ rest.0) first.1 ∙ append_assoc done first.0 rest.0)

-- a line that stands in the front has its number there
front_number : (front back : List Tree) (i : ℕ) (t : Tree) → slice_get front i ≡ Some t → line_number_in (front ++ back) t ≡ line_number_in front t
front_number front back i t h =
    let found = found_there front t (any_at front i t h) in
    number-append front back t found.0 found.1

module _ (Is : Tree → Type 0) where
  ordered_front : (front back : List Tree) → IsOrdered Is (front ++ back) → IsOrdered Is front
  ordered_front front back ordered = record {
    each = λ i t h. ordered.each i t (get-append front back i t h);
    earlier = λ i t h. children i t (slice_get_within front i t h) (ordered.earlier i t (get-append front back i t h));
    numbered = λ i t h. sym (front_number front back i t h) ∙ ordered.numbered i t (get-append front back i t h);
  }
    where
      child : (i : ℕ) (t : Tree) → i < length front → IsListed (front ++ back) t × (line_number_in (front ++ back) t < i) → IsListed front t × (line_number_in front t < i)
      child i t l h =
          let k = line_number_in (front ++ back) t in
          let below : k < length front = omega (arith, l, h.1) in
          let at : slice_get front k ≡ Some t = get-front front back k t below h.0 in
          let same = front_number front back k t at in
          (ap (slice_get front) (sym same) ∙ at, subst (λ n. n < i) same h.1)

      children : (i : ℕ) (t : Tree) → i < length front → HasEarlierChildren (front ++ back) i t → HasEarlierChildren front i t
      children i (leaf p ls rule kids) l h = tt
      children i (cut p v t u) l h = (child i t l h.0, child i u l h.1)

  -- In a walk by tasks a line that is there already is passed over. The other steps are computations: for a cut its children are visited
  -- and then itself is listed.
  pub run_passes : (one : (t u : Tree) → Is t → Is u → same_line t u ≡ true → t ≡ u) (done whole : List Tree) (t : Tree) (tasks : List Task) → IsOrdered Is whole → IsEach Is t → run done (visit t ∷ tasks) ≡ whole → list_any (same_line t) done ≡ true → run done tasks ≡ whole
  run_passes one done whole t tasks ordered is e there =
      let grown = run_grows (visit t ∷ tasks) done in
      let before = ordered_front done grown.0 (subst (IsOrdered Is) (sym e ∙ grown.1) ordered) in
      ap (λ k. run k tasks) (sym (walked_there Is one t done is before there)) ∙ e
