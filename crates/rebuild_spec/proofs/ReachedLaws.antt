-- Every line of a walk is reached from the last one.
use Rattle.std.proofs.Common.{◌≡◌, ◌<◌, if◌then◌else◌, ℕ, zero, suc, Bool, true, false, List, [], ◌∷◌, ◌++◌, map, length, Some, slice_get, option_map, Contains, refl, sym, ap, ◌∙◌, subst, arith}
use Rattle.std.specs.List.{list_any}
use Rattle.std.proofs.lemmas.Option.{slice_get-map}
use Rattle.std.proofs.lemmas.List.{length-map}
use Rattle.stt_core.specs.Lambda.{Lambda}
use Rattle.tableau_calculus.specs.declared.refutation.Child.TheVariants as child
use Rattle.tableau_calculus.specs.declared.refutation.Line.{Line}
use Rattle.tableau_calculus.proofs.ListLaws.{contains-first, contains-later}
use Rattle.rebuild_spec.specs.Trees.{Tree, leaf, cut, same_line}
use Rattle.rebuild_spec.specs.Lines.{with_line, walked, line_number_in, line_of, lines_from}
use Rattle.rebuild_spec.specs.Trimmed.{IsReached, last, child_of, IsEachReached}
use Rattle.rebuild_spec.proofs.WalkLaws.{get-push, get-middle, IsListed, IsEach, IsOrdered}
use Rattle.rebuild_spec.proofs.LastLaws.{walk_ordered, walk_ends}

module _ (P : Tree → Type 0) where
  abbrev pub AreAll : List Tree → Type 0
  AreAll lines = (i : ℕ) (t : Tree) → slice_get lines i ≡ Some t → P t

  with_line_all : (done : List Tree) (t : Tree) → AreAll done → P t → AreAll (with_line done t)
  with_line_all done t all is = go (list_any (same_line t) done)
    where
      go : (b : Bool) → AreAll (if b then done else done ++ t ∷ [])
      go true = all
      go false = λ i u h. get-push (P u) done t u i h (λ old. all i u old) (λ e same. subst P same is)

  -- a walk lists nothing but the lines of its tree
  pub walked_all : (t : Tree) (done : List Tree) → AreAll done → IsEach P t → AreAll (walked done t)
  walked_all (leaf p ls rule children) done all is = with_line_all done (leaf p ls rule children) all is
  walked_all (cut p v t u) done all is = with_line_all (walked (walked done t) u) (cut p v t u) (walked_all u (walked done t) (walked_all t done all is.1) is.2) is.0

get_there : {A : Type 0} (xs : List A) (n : ℕ) → n < length xs → (x : A) × (slice_get xs n ≡ Some x)
get_there [] n l = absurd (omega (arith, l))
get_there (x ∷ xs) zero l = (x, refl)
get_there (x ∷ xs) (suc n) l = get_there xs n (omega (arith, l))

module _ (Is : Tree → Type 0) (atoms : List Lambda) (trees : List Tree) (ordered : IsOrdered Is trees) where
  abbrev lines : List Line
  lines = map (line_of atoms trees) trees

  pub record IsReachedLine (t : Tree) : Type 0 where
    pub listed : IsListed trees t
    pub reached : IsReached lines (line_number_in trees t)

  child_reached : (t u : Tree) → IsReachedLine t → IsListed trees u → Contains (line_of atoms trees t).children (child.Line (line_number_in trees u)) → IsReachedLine u
  child_reached t u h there is =
      let at = slice_get-map (line_of atoms trees) trees (line_number_in trees t) ∙ ap (option_map (line_of atoms trees)) h.listed in
      record { listed = there; reached = child_of (line_number_in trees t) (line_number_in trees u) (line_of atoms trees t) h.reached at is }

  pub each_reached : (t : Tree) → IsReachedLine t → IsEach IsReachedLine t
  each_reached (leaf p ls rule children) h = h
  each_reached (cut p v t u) h =
      let children = ordered.earlier (line_number_in trees (cut p v t u)) (cut p v t u) h.listed in
      let first = child.Line (line_number_in trees t) in
      let second = child.Line (line_number_in trees u) in (
        h,
        each_reached t (child_reached (cut p v t u) t h children.0.0 (contains-first first (second ∷ []))),
        each_reached u (child_reached (cut p v t u) u h children.1.0 (contains-later second first (second ∷ []) (contains-first second []))),
      )

module _ (Is : Tree → Type 0) (one : (t u : Tree) → Is t → Is u → same_line t u ≡ true → t ≡ u) (atoms : List Lambda) where
  last_reached : (t : Tree) (front trees : List Tree) → trees ≡ front ++ t ∷ [] → (ordered : IsOrdered Is trees) → IsReachedLine Is atoms trees ordered t
  last_reached t front trees e ordered =
      let at : slice_get trees (length front) ≡ Some t = ap (λ k. slice_get k (length front)) e ∙ get-middle front [] t in
      let number = ordered.numbered (length front) t at in
      let count : length (map (line_of atoms trees) trees) ≡ suc (length front) = ap (λ k. length (map (line_of atoms trees) k)) e ∙ pushed front in
      record {
        listed = subst (λ n. slice_get trees n ≡ Some t) (sym number) at;
        reached = last (line_number_in trees t) (subst (λ n. length (map (line_of atoms trees) trees) ≡ suc n) (sym number) count);
      }
    where
      pushed : (front : List Tree) → length (map (line_of atoms trees) (front ++ t ∷ [])) ≡ suc (length front)
      pushed [] = omega arith
      pushed (x ∷ front) = let rest = pushed front in omega (arith, rest)

  -- each line of the tree is listed and reached
  pub lines_reached : (t : Tree) (is : IsEach Is t) → IsEach (IsReachedLine Is atoms (walked [] t) (walk_ordered Is one t is)) t
  lines_reached t is =
      let ends = walk_ends Is one t is in
      let ordered = walk_ordered Is one t is in
      each_reached Is atoms (walked [] t) ordered t (last_reached t ends.front (walked [] t) ends.are ordered)

  pub all_reached : (t : Tree) → IsEach Is t → IsEachReached (lines_from atoms t)
  all_reached t is n below =
      let ordered = walk_ordered Is one t is in
      let trees = walked [] t in
      let reached = walked_all (IsReachedLine Is atoms trees ordered) t [] (λ i u h. cc) (lines_reached t is) in
      let there = get_there trees n (subst (λ k. n < k) (length-map trees (line_of atoms trees)) below) in
      let it = reached n there.0 there.1 in
      subst (IsReached (lines_from atoms t)) (ordered.numbered n there.0 there.1) it.reached
