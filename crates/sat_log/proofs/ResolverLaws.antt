-- The clause of a chain while it is built.
use Rattle.std.proofs.Common.{◌≡◌, ◌<◌, ◌≤◌, ◌+◌, ◌-◌, ℕ, suc, take, drop, get_or, append-nil, cond, not, ◌&&◌, ◌||◌, Bool, true, false, List, [], ◌∷◌, ◌++◌, Option, Some, None, is_some, length, reverse, refl, sym, ap, ap₂, ◌∙◌, subst, arith, append_assoc, length-append}
use Rattle.std.specs.List.{All, list_any}
use Rattle.std.proofs.lemmas.Bool.{ne_eqb, eq-eqb, or_parts, or_from}
use Rattle.std.proofs.lemmas.List.{take_more, reverse-append, length-reverse}
use Rattle.std.proofs.lemmas.List.Folds.{list_any-append}
use Rattle.std.proofs.Math.Seq.{drop-cons}
use Rattle.std.proofs.lemmas.List.Elements.{All-nil, All-cons, All-head, All-tail, All-push, All-weaker}
use Rattle.sat_base.specs.declared.literal.SatLit.{SatLit}
use Rattle.sat_base.specs.Literal.{same_literal, holds}
use Rattle.sat_base.proofs.LiteralLaws.{same_literal-comm, same_literal-refl, holds-append}
use Rattle.sat_log.specs.declared.resolver.Placed.{Placed}
use Rattle.sat_log.specs.declared.stamps.Stamps.{Stamps}
use Rattle.sat_log.specs.Internal.Stamps.{stamp_of, Updates}
use Rattle.sat_log.specs.Resolution.{without_literal}
use Rattle.sat_log.specs.Internal.Resolver.{is_stamp, is_live, live, placed_in_order, IsStamped}
use Rattle.sat_log.proofs.ResolutionLaws.{holds-without, without-cons_same, without-cons_other}

pub live-append : (table : List Stamps) (xs ys : List Placed) → live table (xs ++ ys) ≡ live table xs ++ live table ys
live-append table [] ys = refl
live-append table (placed ∷ xs) ys = go (is_live table placed) refl (live-append table xs ys)
  where
    go : (b : Bool) → is_live table placed ≡ b → live table (xs ++ ys) ≡ live table xs ++ live table ys → live table ((placed ∷ xs) ++ ys) ≡ live table (placed ∷ xs) ++ live table ys
    go true e rest = simp e (ap (λ (r : List SatLit). placed.literal ∷ r) rest)
    go false e rest = simp e rest

-- a literal whose number in the table is none of those placed no longer counts
pub live-updated : (old new : List Stamps) (l : SatLit) (stamp : Option ℕ) → Updates old new l stamp
    → (placed : List Placed) → All (λ p. is_stamp stamp p.stamp ≡ false) placed → live new placed ≡ without_literal l (live old placed)
live-updated old new l stamp updates [] apart = refl
live-updated old new l stamp updates (p ∷ placed) apart =
    go (same_literal l p.literal) (is_live old p) refl refl (live-updated old new l stamp updates placed (All-tail (λ p. is_stamp stamp p.stamp ≡ false) p placed apart))
  where
    go : (a b : Bool) → same_literal l p.literal ≡ a → is_live old p ≡ b → live new placed ≡ without_literal l (live old placed) → live new (p ∷ placed) ≡ without_literal l (live old (p ∷ placed))
    go true true e f rest =
        let dead : is_live new p ≡ false =
        ap (λ s. is_stamp s p.stamp) (updates p.literal ∙ rw e refl) ∙ All-head (λ q. is_stamp stamp q.stamp ≡ false) p placed apart in
        simp (dead, f) (rest ∙ sym (without-cons_same l p.literal (live old placed) e))
    go true false e f rest =
        let dead : is_live new p ≡ false =
        ap (λ s. is_stamp s p.stamp) (updates p.literal ∙ rw e refl) ∙ All-head (λ q. is_stamp stamp q.stamp ≡ false) p placed apart in
        simp (dead, f) rest
    go false true e f rest =
        let alive : is_live new p ≡ true = ap (λ s. is_stamp s p.stamp) (updates p.literal ∙ rw e refl) ∙ f in
        simp (alive, f) (ap (λ (r : List SatLit). p.literal ∷ r) rest ∙ sym (without-cons_other l p.literal (live old placed) e))
    go false false e f rest =
        let still : is_live new p ≡ false = ap (λ s. is_stamp s p.stamp) (updates p.literal ∙ rw e refl) ∙ f in
        simp (still, f) rest

-- which literals the table has a number for after an update
marked-updated : (placed : List Placed) (old new : List Stamps) (l : SatLit) (stamp : Option ℕ) → IsStamped placed old → Updates old new l stamp
    → (m : SatLit) → is_some (stamp_of new m) ≡ cond (same_literal l m) (is_some stamp) (holds (live old placed) m)
marked-updated placed old new l stamp marks updates m =
    ap is_some (updates m) ∙ by_case (same_literal l m) ∙ ap (λ (b : Bool). cond (same_literal l m) (is_some stamp) b) (marks.marked m)
  where
    by_case : (b : Bool) → is_some (cond b stamp (stamp_of old m)) ≡ cond b (is_some stamp) (is_some (stamp_of old m))
    by_case true = refl
    by_case false = refl

without_test : (x s : Bool) → (x && not s) ≡ cond s false x
without_test true true = refl
without_test true false = refl
without_test false true = refl
without_test false false = refl

in_front_test : (x s : Bool) → (s || (x && not s)) ≡ cond s true x
in_front_test true true = refl
in_front_test true false = refl
in_front_test false true = refl
in_front_test false false = refl

at_back_test : (x s : Bool) → ((x && not s) || (s || false)) ≡ cond s true x
at_back_test true true = refl
at_back_test true false = refl
at_back_test false true = refl
at_back_test false false = refl

-- a literal whose number is taken from the table is taken out of the clause
pub removed : (placed : List Placed) (old new : List Stamps) (l : SatLit) → IsStamped placed old → Updates old new l None
    → IsStamped placed new × (live new placed ≡ without_literal l (live old placed))
removed placed old new l marks updates =
    let rest : live new placed ≡ without_literal l (live old placed) = live-updated old new l None updates placed (λ _ _ _. refl) in (
      record {
        stamps = marks.stamps;
        marked = λ m.
            marked-updated placed old new l None marks updates m
            ∙ sym (without_test (holds (live old placed) m) (same_literal l m))
            ∙ sym (ap (λ (r : List SatLit). holds r m) rest ∙ holds-without l (live old placed) m);
      },
      rest,
    )

-- a number that none has is none of those placed
fresh : (placed : List Placed) (table : List Stamps) (n : ℕ) → n ≡ length placed → IsStamped placed table → All (λ p. is_stamp (Some n) p.stamp ≡ false) placed
fresh placed table n e marks =
    All-weaker (λ p. p.stamp < length placed) (λ p. is_stamp (Some n) p.stamp ≡ false) (λ p h. ne_eqb n p.stamp (λ same. omega arith)) placed marks.stamps

-- a literal that is placed with a new number counts
counts : (old new : List Stamps) (l : SatLit) (n : ℕ) → Updates old new l (Some n) → is_stamp (stamp_of new l) n ≡ true
counts old new l n updates =
    let is : stamp_of new l ≡ Some n = updates l ∙ rw same_literal-refl refl in
    ap (λ s. is_stamp s n) is ∙ eq-eqb n n refl

-- a literal that is placed in front, with a new number, moves there
pub moved_to_front : (placed : List Placed) (old new : List Stamps) (l : SatLit) (n : ℕ) → n ≡ length placed → IsStamped placed old → Updates old new l (Some n)
    → IsStamped (record { literal = l; stamp = n } ∷ placed) new × (live new (record { literal = l; stamp = n } ∷ placed) ≡ l ∷ without_literal l (live old placed))
moved_to_front placed old new l n e marks updates =
    let p : Placed = record { literal = l; stamp = n } in
    let rest = live-updated old new l (Some n) updates placed (fresh placed old n e marks) in
    let here : is_live new p ≡ true = counts old new l n updates in
    let whole : live new (p ∷ placed) ≡ l ∷ without_literal l (live old placed) = simp here (ap (λ (r : List SatLit). l ∷ r) rest) in (
      record {
        stamps = All-cons (λ q. q.stamp < length (p ∷ placed)) p placed (omega arith)
            (All-weaker (λ q. q.stamp < length placed) (λ q. q.stamp < length (p ∷ placed)) (λ q h. omega arith) placed marks.stamps);
        marked = λ m.
            marked-updated placed old new l (Some n) marks updates m
            ∙ sym (in_front_test (holds (live old placed) m) (same_literal l m))
            ∙ sym (ap (λ (r : List SatLit). holds r m) whole ∙ ap₂ ◌||◌ (same_literal-comm m l) (holds-without l (live old placed) m));
      },
      whole,
    )

-- a literal that is placed at the back, with a new number, moves there
pub moved_to_back : (placed : List Placed) (old new : List Stamps) (l : SatLit) (n : ℕ) → n ≡ length placed → IsStamped placed old → Updates old new l (Some n)
    → IsStamped (placed ++ record { literal = l; stamp = n } ∷ []) new × (live new (placed ++ record { literal = l; stamp = n } ∷ []) ≡ without_literal l (live old placed) ++ l ∷ [])
moved_to_back placed old new l n e marks updates =
    let p : Placed = record { literal = l; stamp = n } in
    let rest = live-updated old new l (Some n) updates placed (fresh placed old n e marks) in
    let here : is_live new p ≡ true = counts old new l n updates in
    let last : live new (p ∷ []) ≡ l ∷ [] = simp here refl in
    let whole : live new (placed ++ p ∷ []) ≡ without_literal l (live old placed) ++ l ∷ [] = live-append new placed (p ∷ []) ∙ ap₂ ◌++◌ rest last in
    let longer : length (placed ++ p ∷ []) ≡ suc (length placed) = length-append placed (p ∷ []) ∙ omega arith in (
      record {
        stamps = All-push (λ q. q.stamp < length (placed ++ p ∷ [])) placed p
            (All-weaker (λ q. q.stamp < length placed) (λ q. q.stamp < length (placed ++ p ∷ [])) (λ q h. omega arith) placed marks.stamps)
            (omega arith);
        marked = λ m.
            marked-updated placed old new l (Some n) marks updates m
            ∙ sym (at_back_test (holds (live old placed) m) (same_literal l m))
            ∙ sym (ap (λ (r : List SatLit). holds r m) whole ∙ holds-append (without_literal l (live old placed)) (l ∷ []) m
            ∙ ap₂ ◌||◌ (holds-without l (live old placed) m) (ap (λ (b : Bool). b || false) (same_literal-comm m l)));
      },
      whole,
    )

length-in_order : (front back : List Placed) → length (placed_in_order front back) ≡ length front + length back
length-in_order front back = length-append (reverse front) back ∙ ap (λ (n : ℕ). n + length back) (length-reverse front)

-- the same for the two lists in which the literals stand
pub pushed_to_front : (front back longer : List Placed) (old new : List Stamps) (l : SatLit) (n : ℕ) → longer ≡ front ++ record { literal = l; stamp = n } ∷ []
    → n ≡ length front + length back → IsStamped (placed_in_order front back) old → Updates old new l (Some n)
    → IsStamped (placed_in_order longer back) new × (live new (placed_in_order longer back) ≡ l ∷ without_literal l (live old (placed_in_order front back)))
pushed_to_front front back longer old new l n pushed e marks updates =
    let p : Placed = record { literal = l; stamp = n } in
    let Moves : List Placed → Type 0 = λ placed. IsStamped placed new × (live new placed ≡ l ∷ without_literal l (live old (placed_in_order front back))) in
    let order : p ∷ placed_in_order front back ≡ placed_in_order longer back = sym (ap (λ (f : List Placed). reverse f ++ back) pushed ∙ ap (λ (r : List Placed). r ++ back) (reverse-append front (p ∷ []))) in
    subst Moves order (moved_to_front (placed_in_order front back) old new l n (e ∙ sym (length-in_order front back)) marks updates)

pub pushed_to_back : (front back longer : List Placed) (old new : List Stamps) (l : SatLit) (n : ℕ) → longer ≡ back ++ record { literal = l; stamp = n } ∷ []
    → n ≡ length front + length back → IsStamped (placed_in_order front back) old → Updates old new l (Some n)
    → IsStamped (placed_in_order front longer) new × (live new (placed_in_order front longer) ≡ without_literal l (live old (placed_in_order front back)) ++ l ∷ [])
pushed_to_back front back longer old new l n pushed e marks updates =
    let p : Placed = record { literal = l; stamp = n } in
    let Moves : List Placed → Type 0 = λ placed. IsStamped placed new × (live new placed ≡ without_literal l (live old (placed_in_order front back)) ++ l ∷ []) in
    let order : placed_in_order front back ++ p ∷ [] ≡ placed_in_order front longer = append_assoc (reverse front) back (p ∷ []) ∙ ap (λ (b : List Placed). reverse front ++ b) (sym pushed) in
    subst Moves order (moved_to_back (placed_in_order front back) old new l n (e ∙ sym (length-in_order front back)) marks updates)

-- whether a literal was placed, however it is now
abbrev is_named : List Placed → SatLit → Bool
is_named placed l = list_any (λ p. same_literal p.literal l) placed

-- only what was placed is in the clause
live_unnamed : (table : List Stamps) (placed : List Placed) (l : SatLit) → is_named placed l ≡ false → holds (live table placed) l ≡ false
live_unnamed table [] l unnamed = refl
live_unnamed table (p ∷ placed) l unnamed =
    go (is_live table p) refl (live_unnamed table placed l (or_parts (same_literal p.literal l) _ unnamed).1)
  where
    go : (b : Bool) → is_live table p ≡ b → holds (live table placed) l ≡ false → holds (live table (p ∷ placed)) l ≡ false
    go true e rest = simp e (or_from _ _ (same_literal-comm l p.literal ∙ (or_parts (same_literal p.literal l) _ unnamed).0) rest)
    go false e rest = simp e rest

-- a literal that is pushed to a clause with some others stands behind them
pub pushed_more : (start so_far next others : List SatLit) (l : SatLit) → so_far ≡ start ++ others → next ≡ so_far ++ l ∷ [] → next ≡ start ++ (others ++ l ∷ [])
pushed_more start so_far next others l e step = step ∙ ap (λ (r : List SatLit). r ++ l ∷ []) e ∙ append_assoc start others (l ∷ [])

-- the next placed literal counts or does not
pub live_more : (table : List Stamps) (placed : List Placed) (i : ℕ) (d : Placed) → i < length placed → is_live table (get_or placed i d) ≡ true
    → live table (take (i + 1) placed) ≡ live table (take i placed) ++ (get_or placed i d).literal ∷ []
live_more table placed i d h e =
    ap (live table) (take_more placed i d h)
    ∙ live-append table (take i placed) (get_or placed i d ∷ [])
    ∙ ap (λ (r : List SatLit). live table (take i placed) ++ r) (simp e)

pub live_same : (table : List Stamps) (placed : List Placed) (i : ℕ) (d : Placed) → i < length placed → is_live table (get_or placed i d) ≡ false
    → live table (take (i + 1) placed) ≡ live table (take i placed)
live_same table placed i d h e =
    ap (live table) (take_more placed i d h)
    ∙ live-append table (take i placed) (get_or placed i d ∷ [])
    ∙ ap (λ (r : List SatLit). live table (take i placed) ++ r) (simp e)
    ∙ append-nil (live table (take i placed))

-- the same, from the last placed literal down
drop_before : (placed : List Placed) (i : ℕ) (d : Placed) → 0 < i → i ≤ length placed → drop (i - 1) placed ≡ get_or placed (i - 1) d ∷ drop i placed
drop_before placed i d low high =
    let next : suc (i - 1) ≡ i = omega arith in
    drop-cons placed (i - 1) d (omega arith) ∙ ap (λ (k : ℕ). get_or placed (i - 1) d ∷ drop k placed) next

reverse_before : (placed : List Placed) (i : ℕ) (d : Placed) → 0 < i → i ≤ length placed → reverse (drop (i - 1) placed) ≡ reverse (drop i placed) ++ get_or placed (i - 1) d ∷ []
reverse_before placed i d low high =
    ap (λ (ps : List Placed). reverse ps) (drop_before placed i d low high) ∙ reverse-append (get_or placed (i - 1) d ∷ []) (drop i placed)

pub live_reversed_more : (table : List Stamps) (placed : List Placed) (i : ℕ) (d : Placed) → 0 < i → i ≤ length placed → is_live table (get_or placed (i - 1) d) ≡ true
    → live table (reverse (drop (i - 1) placed)) ≡ live table (reverse (drop i placed)) ++ (get_or placed (i - 1) d).literal ∷ []
live_reversed_more table placed i d low high e =
    ap (live table) (reverse_before placed i d low high)
    ∙ live-append table (reverse (drop i placed)) (get_or placed (i - 1) d ∷ [])
    ∙ ap (λ (r : List SatLit). live table (reverse (drop i placed)) ++ r) (simp e)

pub live_reversed_same : (table : List Stamps) (placed : List Placed) (i : ℕ) (d : Placed) → 0 < i → i ≤ length placed → is_live table (get_or placed (i - 1) d) ≡ false
    → live table (reverse (drop (i - 1) placed)) ≡ live table (reverse (drop i placed))
live_reversed_same table placed i d low high e =
    ap (live table) (reverse_before placed i d low high)
    ∙ live-append table (reverse (drop i placed)) (get_or placed (i - 1) d ∷ [])
    ∙ ap (λ (r : List SatLit). live table (reverse (drop i placed)) ++ r) (simp e)
    ∙ append-nil (live table (reverse (drop i placed)))

is_named-reverse : (placed : List Placed) (l : SatLit) → is_named (reverse placed) l ≡ is_named placed l
is_named-reverse [] l = refl
is_named-reverse (p ∷ placed) l =
    ap (λ (ps : List Placed). is_named ps l) (reverse-append (p ∷ []) placed)
    ∙ list_any-append (λ q. same_literal q.literal l) (reverse placed) (p ∷ [])
    ∙ ap (λ (b : Bool). b || (same_literal p.literal l || false)) (is_named-reverse placed l)
    ∙ turned (is_named placed l) (same_literal p.literal l)
  where
    turned : (a b : Bool) → (a || (b || false)) ≡ (b || a)
    turned true true = refl
    turned true false = refl
    turned false true = refl
    turned false false = refl

-- a table from which all placed literals are taken fits the clause of no literal
pub IsMarked-forgotten : (front back : List Placed) (old between new : List Stamps) → IsStamped (placed_in_order front back) old
    → ((l : SatLit) → stamp_of between l ≡ cond (is_named front l) None (stamp_of old l))
    → ((l : SatLit) → stamp_of new l ≡ cond (is_named back l) None (stamp_of between l))
    → IsStamped [] new
IsMarked-forgotten front back old between new marks first second = record {
  stamps = All-nil (λ p. p.stamp < 0);
  marked = λ l. ap is_some (second l ∙ ap (λ (s : Option ℕ). cond (is_named back l) None s) (first l)) ∙ go l (is_named front l) (is_named back l) refl refl;
}
  where
    go : (l : SatLit) (a b : Bool) → is_named front l ≡ a → is_named back l ≡ b → is_some (cond b None (cond a None (stamp_of old l))) ≡ false
    go l a true e f = refl
    go l true false e f = refl
    go l false false e f =
        marks.marked l
        ∙ live_unnamed old (placed_in_order front back) l
        (list_any-append (λ p. same_literal p.literal l) (reverse front) back ∙ or_from _ _ (is_named-reverse front l ∙ e) f)

-- the clause, collected from the two lists
pub collected : (table : List Stamps) (front back f b : List Placed) (empty first whole : List SatLit) → f ≡ front → b ≡ back
    → empty ≡ [] → first ≡ empty ++ live table (reverse f) → whole ≡ first ++ live table b → whole ≡ live table (placed_in_order front back)
collected table front back f b empty first whole f_is b_is empty_is first_is whole_is =
    let joined = live-append table (reverse front) back in
    let started : first ≡ live table (reverse front) =
    first_is ∙ ap₂ (λ (r : List SatLit) (ps : List Placed). r ++ live table (reverse ps)) empty_is f_is in
    whole_is ∙ ap₂ (λ (r : List SatLit) (ps : List Placed). r ++ live table ps) started b_is ∙ sym joined
