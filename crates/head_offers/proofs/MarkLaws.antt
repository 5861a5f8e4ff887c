-- What marks reach.
use Rattle.std.specs.Prelude.{◌≡◌, ◌<◌, ◌≤◌, ◌+◌, ◌&&◌, ◌||◌, ◌⊎◌, ℕ, zero, suc, Bool, true, false, List, [], ◌∷◌, ◌++◌, map, take, get_or, replicate, length, slice_index_or, refl}
use Rattle.std.specs.List.{All, list_any}
use Rattle.std.proofs.Common.{inl, inr, sym, ap, ap₂, ◌∙◌, arith, length-set, get_or-set_same, get_or-set_other}
use Rattle.std.proofs.lemmas.Bool.{cases_eq}
use Rattle.std.proofs.lemmas.List.{length-replicate, take_more}
use Rattle.stt_core.specs.Lambda.{Constant, Lambda}
use Rattle.term_bank.specs.Terms.{term_at}
use Rattle.tableau_calculus.specs.Each.{Each}
use Rattle.search_spec.specs.Offers.{has_constant}
use Rattle.head_offers.specs.Offering.{occurs_among}
use Rattle.head_offers.specs.Internal.Marks.{is_flagged, with_mark, with_marks, any_below, reaches}
use Rattle.head_offers.specs.Internal.Passing.{head_passes, any_passes}

or_false : (b : Bool) → (b || false) ≡ b
or_false true = refl
or_false false = refl

or_assoc : (a b c : Bool) → (a || (b || c)) ≡ ((a || b) || c)
or_assoc true b c = refl
or_assoc false b c = refl

pub each-of-All : {X : Type 0} (P : X → Type 0) (x : X) (xs : List X) → All P xs → Each P xs
each-of-All P d [] h = tt
each-of-All P d (x ∷ xs) h = (h 0 d (omega arith), each-of-All P d xs (λ k e l. h (suc k) e (omega (arith, l))))

pub All-last : (P : ℕ → Type 0) (xs : List ℕ) (x : ℕ) → All P xs → P x → All P (xs ++ x ∷ [])
All-last P [] x h p = λ k d l. first k d l
  where
    first : (k d : ℕ) → k < 1 → P (slice_index_or (x ∷ []) k d)
    first zero d l = p
    first (suc k) d l = absurd (omega (arith, l))
All-last P (y ∷ ys) x h p = λ k d l. next k d l (All-last P ys x (λ k d l. h (suc k) d (omega (arith, l))) p)
  where
    next : (k d : ℕ) → k < length (y ∷ (ys ++ x ∷ [])) → All P (ys ++ x ∷ []) → P (slice_index_or (y ∷ (ys ++ x ∷ [])) k d)
    next zero d l rest = h 0 d (omega arith)
    next (suc k) d l rest = rest k d (omega (arith, l))

pub other-default : (xs : List Bool) (i : ℕ) (d e : Bool) → i < length xs → slice_index_or xs i e ≡ slice_index_or xs i d
other-default [] i d e h = absurd (omega (arith, h))
other-default (x ∷ xs) zero d e h = refl
other-default (x ∷ xs) (suc i) d e h = other-default xs i d e (omega (arith, h))

pub length-marks : (is : List ℕ) (marks : List Bool) → length (with_marks is marks) ≡ length marks
length-marks [] marks = refl
length-marks (i ∷ is) marks = length-marks is (with_mark i marks) ∙ length-set marks i true

marks_append : (is js : List ℕ) (marks : List Bool) → with_marks (is ++ js) marks ≡ with_marks js (with_marks is marks)
marks_append [] js marks = refl
marks_append (i ∷ is) js marks = marks_append is js (with_mark i marks)

-- a number more is marked
pub mark-next : (ids : List ℕ) (i d : ℕ) (old marks new : List Bool) → i < length ids → marks ≡ with_marks (take i ids) old → new ≡ with_mark (get_or ids i d) marks → new ≡ with_marks (take (i + 1) ids) old
mark-next ids i d old marks new l inv is =
    is ∙ ap (with_mark (get_or ids i d)) inv
    ∙ sym (ap (λ (xs : List ℕ). with_marks xs old) (take_more ids i d l) ∙ marks_append (take i ids) (get_or ids i d ∷ []) old)

unmarked : (n i : ℕ) → is_flagged (replicate n false) i ≡ false
unmarked zero i = refl
unmarked (suc n) zero = refl
unmarked (suc n) (suc i) = unmarked n i

module _ (terms : List Lambda) (test : Constant → Bool) where
  abbrev has : ℕ → Bool
  has id = has_constant test (term_at terms id)

  -- what is marked elsewhere stays
  kept : (marks : List Bool) (i k : ℕ) → (k ≡ i → ⊥) → reaches terms test (with_mark i marks) k ≡ reaches terms test marks k
  kept marks i k n = ap (λ (b : Bool). b && has k) (get_or-set_other marks i k true false n)

  below_kept : (marks : List Bool) (i n : ℕ) → n ≤ i → any_below (reaches terms test (with_mark i marks)) n ≡ any_below (reaches terms test marks) n
  below_kept marks i zero h = refl
  below_kept marks i (suc n) h = ap₂ (λ (x y : Bool). x || y) (kept marks i n (λ e. absurd (omega (arith, h, e)))) (below_kept marks i n (omega (arith, h)))

  turned : (m x y z : Bool) → x ≡ y → (y || z) ≡ (((m && x) || z) || y)
  turned true true y z f = ap (λ (b : Bool). b || z) (sym f)
  turned true false y z f = ap (λ (b : Bool). b || z) (sym f) ∙ sym (ap (λ (b : Bool). z || b) (sym f) ∙ or_false z)
  turned false x true true f = refl
  turned false x true false f = refl
  turned false x false true f = refl
  turned false x false false f = refl

  at_place : (marks : List Bool) (i n : ℕ) → i < suc n → suc n ≤ length marks → n ≡ i → any_below (reaches terms test (with_mark i marks)) (suc n) ≡ (any_below (reaches terms test marks) (suc n) || has i)
  at_place marks i n h l e =
      let marked : is_flagged (with_mark i marks) n ≡ true = ap (is_flagged (with_mark i marks)) e ∙ get_or-set_same marks i true false (omega (arith, h, l, e)) in
      ap₂ (λ (x y : Bool). x || y) (ap (λ (b : Bool). b && has n) marked ∙ ap has e) (below_kept marks i n (omega (arith, e)))
      ∙ turned (is_flagged marks n) (has n) (has i) (any_below (reaches terms test marks) n) (ap has e)

  -- a mark more reaches what its term has
  reach_one : (marks : List Bool) (i n : ℕ) → i < n → n ≤ length marks → any_below (reaches terms test (with_mark i marks)) n ≡ (any_below (reaches terms test marks) n || has i)
  reach_one marks i zero h l = absurd (omega (arith, h))
  reach_one marks i (suc n) h l = by_place (cases_eq n i) (λ e. reach_one marks i n (omega (arith, h, e)) (omega (arith, l)))
    where
      by_place : (n ≡ i) ⊎ (n ≡ i → ⊥) → ((n ≡ i → ⊥) → any_below (reaches terms test (with_mark i marks)) n ≡ (any_below (reaches terms test marks) n || has i))
          → any_below (reaches terms test (with_mark i marks)) (suc n) ≡ (any_below (reaches terms test marks) (suc n) || has i)
      by_place (inl e) rest = at_place marks i n h l e
      by_place (inr e) rest =
          ap₂ (λ (x y : Bool). x || y) (kept marks i n e) (rest e)
          ∙ or_assoc (reaches terms test marks n) (any_below (reaches terms test marks) n) (has i)

  -- and so do several
  reach_more : (is : List ℕ) (marks : List Bool) (n : ℕ) → Each (λ i. i < n) is → n ≤ length marks
      → any_below (reaches terms test (with_marks is marks)) n ≡ (any_below (reaches terms test marks) n || list_any (λ i. has_constant test (term_at terms i)) is)
  reach_more [] marks n h l = sym (or_false (any_below (reaches terms test marks) n))
  reach_more (i ∷ is) marks n h l =
      reach_more is (with_mark i marks) n h.1 (omega (arith, l, length-set marks i true))
      ∙ ap (λ (b : Bool). b || list_any has is) (reach_one marks i n h.0 l)
      ∙ sym (or_assoc (any_below (reaches terms test marks) n) (has i) (list_any has is))

  reach_none : (marks : List Bool) (n : ℕ) → ((i : ℕ) → is_flagged marks i ≡ false) → any_below (reaches terms test marks) n ≡ false
  reach_none marks zero h = refl
  reach_none marks (suc n) h = ap₂ (λ (x y : Bool). x || y) (ap (λ (b : Bool). b && has n) (h n)) (reach_none marks n h)

  any_mapped : (is : List ℕ) → list_any has is ≡ occurs_among (map (term_at terms) is) test
  any_mapped [] = refl
  any_mapped (i ∷ is) = ap (λ (b : Bool). has i || b) (any_mapped is)

  -- at first the start is marked
  pub reach-start : (start : List ℕ) (count : ℕ) (marks : List Bool) → marks ≡ with_marks start (replicate count false) → Each (λ i. i < count) start → any_below (reaches terms test marks) count ≡ occurs_among (map (term_at terms) start) test
  reach-start start count marks is h =
      ap (λ (ms : List Bool). any_below (reaches terms test ms) count) is
      ∙ reach_more start (replicate count false) count h (let l = length-replicate count false in omega (arith, l))
      ∙ ap (λ (b : Bool). b || list_any has start) (reach_none (replicate count false) count (unmarked count))
      ∙ any_mapped start

  shuffled : (f h l b : Bool) → (f || ((h || l) || b)) ≡ ((f || h) || (b || l))
  shuffled true h l b = refl
  shuffled false true l b = refl
  shuffled false false true true = refl
  shuffled false false true false = refl
  shuffled false false false true = refl
  shuffled false false false false = refl

  any_last : (ys : List ℕ) (x : ℕ) → any_passes terms test (ys ++ x ∷ []) ≡ (any_passes terms test ys || head_passes test (term_at terms x))
  any_last [] x = or_false (head_passes test (term_at terms x))
  any_last (y ∷ ys) x = ap (λ (b : Bool). head_passes test (term_at terms y) || b) (any_last ys x) ∙ or_assoc (head_passes test (term_at terms y)) (any_passes terms test ys) (head_passes test (term_at terms x))

  -- a marked term is found, and its parts are marked
  pub reach-found : (marks : List Bool) (found parts : List ℕ) (j : ℕ) → is_flagged marks j ≡ true → has_constant test (term_at terms j) ≡ (head_passes test (term_at terms j) || list_any (λ i. has_constant test (term_at terms i)) parts) → Each (λ i. i < j) parts → j ≤ length marks
      → (any_passes terms test (found ++ j ∷ []) || any_below (reaches terms test (with_marks parts marks)) j) ≡ (any_passes terms test found || any_below (reaches terms test marks) (suc j))
  reach-found marks found parts j marked are h l =
      let below = any_below (reaches terms test marks) j in
      ap₂ (λ (x y : Bool). x || y) (any_last found j) (reach_more parts marks j h l)
      ∙ sym (shuffled (any_passes terms test found) (head_passes test (term_at terms j)) (list_any has parts) below)
      ∙ ap (λ (b : Bool). any_passes terms test found || (b || below)) (sym (ap (λ (b : Bool). b && has j) marked ∙ are))

  pub reach-left : (marks : List Bool) (found : List ℕ) (j : ℕ) → is_flagged marks j ≡ false → (any_passes terms test found || any_below (reaches terms test marks) j) ≡ (any_passes terms test found || any_below (reaches terms test marks) (suc j))
  reach-left marks found j left = ap (λ (b : Bool). any_passes terms test found || (b || any_below (reaches terms test marks) j)) (sym (ap (λ (b : Bool). b && has j) left))
