-- A walk lists a line after its children, and each line once.
use Rattle.std.proofs.Common.{◌≡◌, ◌<◌, ◌+◌, ◌||◌, not, cond, if◌then◌else◌, ℕ, zero, suc, Bool, true, false, List, [], ◌∷◌, ◌++◌, length, Some, slice_get, refl, sym, ap, ◌∙◌, subst, append_assoc, append-nil, arith}
use Rattle.std.specs.List.{list_any}
use Rattle.std.proofs.lemmas.Bool.{false≢true, or_parts, eq-eqb, and_from}
use Rattle.std.proofs.lemmas.Option.{slice_get_within}
use Rattle.rebuild_spec.specs.Trees.{Place, at_clause, at_step, at_result, same_place, Tree, leaf, cut, made_at, same_line}
use Rattle.rebuild_spec.specs.Lines.{with_line, walked, line_number_in}

pub same_place-refl : (p : Place) → same_place p p ≡ true
same_place-refl (at_clause n) = eq-eqb n n refl
same_place-refl (at_step n k) = and_from _ _ (eq-eqb n n refl) (eq-eqb k k refl)
same_place-refl (at_result n) = eq-eqb n n refl

get_later : {A : Type 0} (x : A) (xs : List A) (n : ℕ) → slice_get (x ∷ xs) (1 + n) ≡ slice_get xs n
get_later x xs n = let e : 1 + n ≡ suc n = omega arith in ap (slice_get (x ∷ xs)) e

pub get-append : {A : Type 0} (front back : List A) (i : ℕ) (x : A) → slice_get front i ≡ Some x → slice_get (front ++ back) i ≡ Some x
get-append [] back i x h = cc
get-append (y ∷ front) back zero x h = h
get-append (y ∷ front) back (suc i) x h = get-append front back i x h

pub get-front : {A : Type 0} (front back : List A) (i : ℕ) (x : A) → i < length front → slice_get (front ++ back) i ≡ Some x → slice_get front i ≡ Some x
get-front [] back i x l h = absurd (omega (arith, l))
get-front (y ∷ front) back zero x l h = h
get-front (y ∷ front) back (suc i) x l h = get-front front back i x (omega (arith, l)) h

pub get-middle : {A : Type 0} (front back : List A) (x : A) → slice_get (front ++ x ∷ back) (length front) ≡ Some x
get-middle [] back x = refl
get-middle (y ∷ front) back x = let e : length (y ∷ front) ≡ suc (length front) = omega arith in ap (slice_get (y ∷ (front ++ x ∷ back))) e ∙ get-middle front back x

-- what stands in a list with one element more
pub get-push : {A : Type 0} (P : Type 0) (xs : List A) (x y : A) (i : ℕ) → slice_get (xs ++ x ∷ []) i ≡ Some y → (slice_get xs i ≡ Some y → P) → (i ≡ length xs → x ≡ y → P) → P
get-push P [] x y zero h old new = new (omega arith) cc
get-push P [] x y (suc i) h old new = cc
get-push P (z ∷ xs) x y zero h old new = old h
get-push P (z ∷ xs) x y (suc i) h old new = get-push P xs x y i h old (λ e same. new (omega (arith, e)) same)

-- the line is listed, at the number that is found for it
abbrev pub IsListed : List Tree → Tree → Type 0
IsListed lines t = slice_get lines (line_number_in lines t) ≡ Some t

pub number-append : (front back : List Tree) (t u : Tree) → slice_get front (line_number_in front t) ≡ Some u → line_number_in (front ++ back) t ≡ line_number_in front t
number-append [] back t u h = cc
number-append (x ∷ front) back t u h = go (same_line t x) refl (λ k. number-append front back t u k)
  where
    go : (b : Bool) → same_line t x ≡ b → (slice_get front (line_number_in front t) ≡ Some u → line_number_in (front ++ back) t ≡ line_number_in front t) → line_number_in ((x ∷ front) ++ back) t ≡ line_number_in (x ∷ front) t
    go true e rest = simp e
    go false e rest =
        let number : line_number_in (x ∷ front) t ≡ 1 + line_number_in front t = ap (λ b. cond (not b) (1 + line_number_in front t) 0) e in
        let there : slice_get front (line_number_in front t) ≡ Some u = sym (get_later x front (line_number_in front t)) ∙ ap (slice_get (x ∷ front)) (sym number) ∙ h in
        ap (λ b. cond (not b) (1 + line_number_in (front ++ back) t) 0) e ∙ ap (λ n. 1 + n) (rest there) ∙ sym number

pub listed-append : (front back : List Tree) (t : Tree) → IsListed front t → IsListed (front ++ back) t
listed-append front back t h =
    ap (slice_get (front ++ back)) (number-append front back t t h) ∙ get-append front back (line_number_in front t) t h

-- a line that is there by its place, or isn't there
pub found_there : (done : List Tree) (t : Tree) → list_any (same_line t) done ≡ true → (u : Tree) × (slice_get done (line_number_in done t) ≡ Some u) × (same_line t u ≡ true)
found_there [] t h = absurd (false≢true h)
found_there (x ∷ done) t h = go (same_line t x) refl (λ k. found_there done t k)
  where
    go : (b : Bool) → same_line t x ≡ b → (list_any (same_line t) done ≡ true → (u : Tree) × (slice_get done (line_number_in done t) ≡ Some u) × (same_line t u ≡ true)) → (u : Tree) × (slice_get (x ∷ done) (line_number_in (x ∷ done) t) ≡ Some u) × (same_line t u ≡ true)
    go true e rest = (x, ap (λ b. slice_get (x ∷ done) (cond (not b) (1 + line_number_in done t) 0)) e, e)
    go false e rest =
        let found = rest (ap (λ b. b || list_any (same_line t) done) (sym e) ∙ h) in
        (found.0, ap (λ b. slice_get (x ∷ done) (cond (not b) (1 + line_number_in done t) 0)) e ∙ get_later x done (line_number_in done t) ∙ found.1, found.2)

pushed_listed : (done : List Tree) (t : Tree) → list_any (same_line t) done ≡ false → IsListed (done ++ t ∷ []) t
pushed_listed [] t h = ap (λ b. slice_get (t ∷ []) (cond (not b) (1 + 0) 0)) (same_place-refl (made_at t))
pushed_listed (x ∷ done) t h =
    let parts = or_parts (same_line t x) (list_any (same_line t) done) h in
    ap (λ b. slice_get (x ∷ (done ++ t ∷ [])) (cond (not b) (1 + line_number_in (done ++ t ∷ []) t) 0)) parts.0
    ∙ get_later x (done ++ t ∷ []) (line_number_in (done ++ t ∷ []) t) ∙ pushed_listed done t parts.1

pushed_number : (done : List Tree) (t : Tree) → list_any (same_line t) done ≡ false → line_number_in (done ++ t ∷ []) t ≡ length done
pushed_number [] t h = ap (λ b. cond (not b) (1 + 0) 0) (same_place-refl (made_at t))
pushed_number (x ∷ done) t h =
    let parts = or_parts (same_line t x) (list_any (same_line t) done) h in
    let rest = pushed_number done t parts.1 in
    ap (λ b. cond (not b) (1 + line_number_in (done ++ t ∷ []) t) 0) parts.0 ∙ more (line_number_in (done ++ t ∷ []) t) (length done) rest
  where
    more : (m n : ℕ) → m ≡ n → 1 + m ≡ suc n
    more m n e = omega (arith, e)

-- the children of the line at this number have lower numbers
abbrev pub HasEarlierChildren : List Tree → ℕ → Tree → Type 0
HasEarlierChildren lines i (leaf p ls rule children) = Unit {0}
HasEarlierChildren lines i (cut p v t u) = (IsListed lines t × (line_number_in lines t < i)) × (IsListed lines u × (line_number_in lines u < i))

earlier-append : (lines back : List Tree) (i : ℕ) (t : Tree) → HasEarlierChildren lines i t → HasEarlierChildren (lines ++ back) i t
earlier-append lines back i (leaf p ls rule children) h = tt
earlier-append lines back i (cut p v t u) h = (one t h.0, one u h.1)
  where
    one : (t : Tree) → IsListed lines t × (line_number_in lines t < i) → IsListed (lines ++ back) t × (line_number_in (lines ++ back) t < i)
    one t h = (listed-append lines back t h.0, subst (λ n. n < i) (sym (number-append lines back t t h.0)) h.1)

module _ (Is : Tree → Type 0) where
  -- it is so of each line of the tree
  abbrev pub IsEach : Tree → Type 0
  IsEach (leaf p ls rule children) = Is (leaf p ls rule children)
  IsEach (cut p v t u) = Is (cut p v t u) × IsEach t × IsEach u

  pub record IsOrdered (lines : List Tree) : Type 0 where
    pub each : (i : ℕ) (t : Tree) → slice_get lines i ≡ Some t → Is t
    pub earlier : (i : ℕ) (t : Tree) → slice_get lines i ≡ Some t → HasEarlierChildren lines i t
    pub numbered : (i : ℕ) (t : Tree) → slice_get lines i ≡ Some t → line_number_in lines t ≡ i

  -- the new list is the old one and more, is in order, and lists the line
  pub record Lists (old new : List Tree) (t : Tree) : Type 0 where
    pub more : List Tree
    pub grown : new ≡ old ++ more
    pub ordered : IsOrdered new
    pub listed : IsListed new t

module _ (Is : Tree → Type 0) (one : (t u : Tree) → Is t → Is u → same_line t u ≡ true → t ≡ u) where
  with_line_lists : (done : List Tree) (t : Tree) → Is t → IsOrdered Is done → HasEarlierChildren done (length done) t → Lists Is done (with_line done t) t
  with_line_lists done t is ordered children = go (list_any (same_line t) done) refl
    where
      number : (i : ℕ) (u : Tree) → slice_get done i ≡ Some u → line_number_in (done ++ t ∷ []) u ≡ i
      number i u h =
          let n = ordered.numbered i u h in
          number-append done (t ∷ []) u u (subst (λ j. slice_get done j ≡ Some u) (sym n) h) ∙ n

      push : list_any (same_line t) done ≡ false → IsOrdered Is (done ++ t ∷ [])
      push new = record {
        each = λ i u h. get-push (Is u) done t u i h (λ old. ordered.each i u old) (λ e same. subst Is same is);
        earlier = λ i u h. get-push (HasEarlierChildren (done ++ t ∷ []) i u) done t u i h (λ old. earlier-append done (t ∷ []) i u (ordered.earlier i u old))
            (λ e same. subst (HasEarlierChildren (done ++ t ∷ []) i) same (subst (λ n. HasEarlierChildren (done ++ t ∷ []) n t) (sym e) (earlier-append done (t ∷ []) (length done) t children)));
        numbered = λ i u h. get-push (line_number_in (done ++ t ∷ []) u ≡ i) done t u i h (λ old. number i u old)
            (λ e same. subst (λ x. line_number_in (done ++ t ∷ []) x ≡ i) same (pushed_number done t new ∙ sym e));
      }

      go : (b : Bool) → list_any (same_line t) done ≡ b → Lists Is done (if b then done else done ++ t ∷ []) t
      go true e =
          let found = found_there done t e in
          let same = one t found.0 is (ordered.each (line_number_in done t) found.0 found.1) found.2 in
          record { more = []; grown = sym (append-nil done); ordered = ordered; listed = found.1 ∙ ap Some (sym same) }
      go false e = record { more = t ∷ []; grown = refl; ordered = push e; listed = pushed_listed done t e }

  pub walk_lists : (t : Tree) (done : List Tree) → IsEach Is t → IsOrdered Is done → Lists Is done (walked done t) t
  walk_lists (leaf p ls rule children) done is ordered = with_line_lists done (leaf p ls rule children) is ordered tt
  walk_lists (cut p v t u) done is ordered =
      let first = walk_lists t done is.1 ordered in
      let second = walk_lists u (walked done t) is.2 first.ordered in
      let lines = walked (walked done t) u in
      let there : IsListed lines t = subst (λ k. IsListed k t) (sym second.grown) (listed-append (walked done t) second.more t first.listed) in
      let last = with_line_lists lines (cut p v t u) is.0 second.ordered ((there, slice_get_within lines (line_number_in lines t) t there), (second.listed, slice_get_within lines (line_number_in lines u) u second.listed)) in
      record {
        more = first.more ++ (second.more ++ last.more);
        grown =
            last.grown
            ∙ ap (λ k. k ++ last.more) (second.grown ∙ ap (λ k. k ++ second.more) first.grown)
            ∙ append_assoc (done ++ first.more) second.more last.more
            ∙ append_assoc done first.more (second.more ++ last.more);
        ordered = last.ordered;
        listed = last.listed;
      }
