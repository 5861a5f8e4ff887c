-- Facts about lists without some literal or without repeats, and about resolvents.
use Rattle.std.proofs.Common.{◌≡◌, ◌<◌, ◌+◌, ℕ, take, get_or, length, ◌&&◌, not, Bool, true, false, List, [], ◌∷◌, ◌++◌, refl, sym, ap, ◌∙◌, subst, inl, inr, append_assoc, append-nil}
use Rattle.std.proofs.lemmas.Bool.{false≢true, or_parts, or_cases, and_right}
use Rattle.std.proofs.lemmas.List.{take_more}
use Rattle.std.proofs.lemmas.List.Elements.{filter-append}
use Rattle.sat_base.specs.declared.literal.Var.{Var}
use Rattle.sat_base.specs.declared.literal.SatLit.{SatLit}
use Rattle.sat_base.specs.Literal.{positive, negative, same_literal, holds}
use Rattle.sat_base.proofs.LiteralLaws.{same_literal-refl, same_literal-true, same_literal-comm}
use Rattle.sat_log.specs.Resolution.{without_literal, each_once, HasNoRepeats, resolvent, resolved}

-- literals that are one with a third are one, and one that is not is another
same_both : (l m x : SatLit) → same_literal l x ≡ true → same_literal m x ≡ true → same_literal l m ≡ true
same_both l m x p q = subst (λ (k : SatLit). same_literal l k ≡ true) (sym (same_literal-true m x q)) p

apart_from_same : (l m x : SatLit) → same_literal l x ≡ false → same_literal m x ≡ true → same_literal l m ≡ false
apart_from_same l m x p q = subst (λ (k : SatLit). same_literal l k ≡ false) (sym (same_literal-true m x q)) p

pub without-cons_same : (l x : SatLit) (literals : List SatLit) → same_literal l x ≡ true → without_literal l (x ∷ literals) ≡ without_literal l literals
without-cons_same l x literals e = rw e refl

pub without-cons_other : (l x : SatLit) (literals : List SatLit) → same_literal l x ≡ false → without_literal l (x ∷ literals) ≡ x ∷ without_literal l literals
without-cons_other l x literals e = rw e refl

pub without-append : (l : SatLit) (xs ys : List SatLit) → without_literal l (xs ++ ys) ≡ without_literal l xs ++ without_literal l ys
without-append l xs ys = filter-append (λ m. not (same_literal l m)) xs ys

-- what is in a list without a literal is in the list, and is another literal
pub holds-without : (l : SatLit) (literals : List SatLit) (m : SatLit) → holds (without_literal l literals) m ≡ (holds literals m && not (same_literal l m))
holds-without l [] m = refl
holds-without l (x ∷ literals) m = go (same_literal l x) (same_literal m x) refl refl (holds-without l literals m)
  where
    go : (a b : Bool) → same_literal l x ≡ a → same_literal m x ≡ b → holds (without_literal l literals) m ≡ (holds literals m && not (same_literal l m))
        → holds (without_literal l (x ∷ literals)) m ≡ (holds (x ∷ literals) m && not (same_literal l m))
    go true true p q rest = let e = same_both l m x p q in simp (p, q, e) (rest ∙ and_right (holds literals m) _ (rw e refl))
    go true false p q rest = simp (p, q) rest
    go false true p q rest = let e = apart_from_same l m x p q in simp (p, q, e)
    go false false p q rest = simp (p, q) rest

pub without-absent : (l : SatLit) (literals : List SatLit) → holds literals l ≡ false → without_literal l literals ≡ literals
without-absent l [] absent = refl
without-absent l (x ∷ literals) absent =
    let parts = or_parts (same_literal l x) (holds literals l) absent in
    without-cons_other l x literals parts.0 ∙ ap (λ (rest : List SatLit). x ∷ rest) (without-absent l literals parts.1)

pub without-without : (l : SatLit) (literals : List SatLit) → without_literal l (without_literal l literals) ≡ without_literal l literals
without-without l literals =
    without-absent l (without_literal l literals) (holds-without l literals l ∙ and_right (holds literals l) _ (rw same_literal-refl refl))

pub without-comm : (l m : SatLit) (literals : List SatLit) → without_literal l (without_literal m literals) ≡ without_literal m (without_literal l literals)
without-comm l m [] = refl
without-comm l m (x ∷ literals) = go (same_literal l x) (same_literal m x) refl refl (without-comm l m literals)
  where
    go : (a b : Bool) → same_literal l x ≡ a → same_literal m x ≡ b → without_literal l (without_literal m literals) ≡ without_literal m (without_literal l literals)
        → without_literal l (without_literal m (x ∷ literals)) ≡ without_literal m (without_literal l (x ∷ literals))
    go true true p q rest = simp (p, q) rest
    go true false p q rest = simp (p, q) rest
    go false true p q rest = simp (p, q) rest
    go false false p q rest = simp (p, q) (ap (λ (r : List SatLit). x ∷ r) rest)

and_true : (b : Bool) → (b && true) ≡ b
and_true true = refl
and_true false = refl

-- the same literals are in the list without repeats
pub holds-without_repeats : (literals : List SatLit) (m : SatLit) → holds (each_once literals) m ≡ holds literals m
holds-without_repeats [] m = refl
holds-without_repeats (x ∷ literals) m = go (same_literal m x) refl (holds-without_repeats literals m)
  where
    go : (b : Bool) → same_literal m x ≡ b → holds (each_once literals) m ≡ holds literals m → holds (each_once (x ∷ literals)) m ≡ holds (x ∷ literals) m
    go true q rest = simp q
    go false q rest =
        let other : same_literal x m ≡ false = same_literal-comm x m ∙ q in
        simp q (holds-without x (each_once literals) m ∙ rw other (and_true (holds (each_once literals) m)) ∙ rest)

pub without-without_repeats : (l : SatLit) (literals : List SatLit) → without_literal l (each_once literals) ≡ each_once (without_literal l literals)
without-without_repeats l [] = refl
without-without_repeats l (x ∷ literals) = go (same_literal l x) refl (without-without_repeats l literals)
  where
    go : (b : Bool) → same_literal l x ≡ b → without_literal l (each_once literals) ≡ each_once (without_literal l literals)
        → without_literal l (each_once (x ∷ literals)) ≡ each_once (without_literal l (x ∷ literals))
    go true p rest =
        without-cons_same l x _ p
        ∙ ap (λ (k : SatLit). without_literal l (without_literal k (each_once literals))) (sym (same_literal-true l x p))
        ∙ without-without l (each_once literals)
        ∙ rest ∙ ap each_once (sym (without-cons_same l x literals p))
    go false p rest =
        without-cons_other l x _ p
        ∙ ap (λ (r : List SatLit). x ∷ r) (without-comm l x (each_once literals) ∙ ap (without_literal x) rest)
        ∙ ap each_once (sym (without-cons_other l x literals p))

pub without_repeats-without_repeats : (literals : List SatLit) → each_once (each_once literals) ≡ each_once literals
without_repeats-without_repeats [] = refl
without_repeats-without_repeats (x ∷ literals) =
    ap (λ (r : List SatLit). x ∷ r)
    (ap (without_literal x) (sym (without-without_repeats x (each_once literals)))
    ∙ without-without x (each_once (each_once literals))
    ∙ ap (without_literal x) (without_repeats-without_repeats literals))

-- repeats may be taken out of either part of a list first
pub without_repeats-append_right : (xs ys : List SatLit) → each_once (xs ++ each_once ys) ≡ each_once (xs ++ ys)
without_repeats-append_right [] ys = without_repeats-without_repeats ys
without_repeats-append_right (x ∷ xs) ys = ap (λ (r : List SatLit). x ∷ without_literal x r) (without_repeats-append_right xs ys)

pub without_repeats-append_left : (xs ys : List SatLit) → each_once (each_once xs ++ ys) ≡ each_once (xs ++ ys)
without_repeats-append_left [] ys = refl
without_repeats-append_left (x ∷ xs) ys =
    ap (λ (r : List SatLit). x ∷ r) (once_less (each_once xs) ∙ ap (without_literal x) (without_repeats-append_left xs ys))
  where
    once_less : (zs : List SatLit) → without_literal x (each_once (without_literal x zs ++ ys)) ≡ without_literal x (each_once (zs ++ ys))
    once_less zs =
        without-without_repeats x (without_literal x zs ++ ys)
        ∙ ap each_once
        (without-append x (without_literal x zs) ys ∙ ap (λ (r : List SatLit). r ++ without_literal x ys) (without-without x zs) ∙ sym (without-append x zs ys))
        ∙ sym (without-without_repeats x (zs ++ ys))

-- one more literal at the end is left out where it is there
pub without_repeats-push_held : (xs : List SatLit) (l : SatLit) → holds xs l ≡ true → each_once (xs ++ l ∷ []) ≡ each_once xs
without_repeats-push_held [] l h = absurd (false≢true h)
without_repeats-push_held (x ∷ xs) l h =
    elim (or_cases (same_literal l x) (holds xs l) h) [
      | inl here ↦ ap (λ (r : List SatLit). x ∷ r)
          (without-without_repeats x (xs ++ l ∷ [])
          ∙ ap each_once
          (without-append x xs (l ∷ [])
          ∙ ap (λ (r : List SatLit). without_literal x xs ++ r) (without-cons_same x l [] (same_literal-comm x l ∙ here))
          ∙ append-nil (without_literal x xs))
          ∙ sym (without-without_repeats x xs))
      | inr later ↦ ap (λ (r : List SatLit). x ∷ without_literal x r) (without_repeats-push_held xs l later)
    ]

pub without_repeats-push_new : (xs : List SatLit) (l : SatLit) → holds xs l ≡ false → each_once (xs ++ l ∷ []) ≡ each_once xs ++ l ∷ []
without_repeats-push_new [] l h = refl
without_repeats-push_new (x ∷ xs) l h =
    let parts = or_parts (same_literal l x) (holds xs l) h in
    ap (λ (r : List SatLit). x ∷ r)
    (ap (without_literal x) (without_repeats-push_new xs l parts.1)
    ∙ without-append x (each_once xs) (l ∷ [])
    ∙ ap (λ (r : List SatLit). without_literal x (each_once xs) ++ r) (without-cons_other x l [] (same_literal-comm x l ∙ parts.0)))

-- repeats in the first clause do not change a step
pub resolved-without_repeats : (v : Var) (a b : List SatLit) → resolved v (each_once a) b ≡ resolved v a b
resolved-without_repeats v a b =
    let first = holds-without_repeats a (positive v) in
    let second = holds-without_repeats a (negative v) in
    let left : resolvent v (each_once a) b ≡ resolvent v a b =
    ap (λ (r : List SatLit). each_once (r ++ without_literal (negative v) b)) (without-without_repeats (positive v) a)
    ∙ without_repeats-append_left (without_literal (positive v) a) (without_literal (negative v) b) in
    let right : resolvent v b (each_once a) ≡ resolvent v b a =
    ap (λ (r : List SatLit). each_once (without_literal (positive v) b ++ r)) (without-without_repeats (negative v) a)
    ∙ without_repeats-append_right (without_literal (positive v) b) (without_literal (negative v) a) in
    cc

-- a literal is put at the back of a list without repeats where it is not there yet
pub add_held : (xs : List SatLit) (l : SatLit) → HasNoRepeats xs → holds xs l ≡ true → xs ≡ each_once (xs ++ l ∷ [])
add_held xs l once h = sym (without_repeats-push_held xs l h ∙ once)

pub add_new : (xs : List SatLit) (l : SatLit) → HasNoRepeats xs → holds xs l ≡ false → without_literal l xs ++ l ∷ [] ≡ each_once (xs ++ l ∷ [])
add_new xs l once h =
    ap (λ (r : List SatLit). r ++ l ∷ []) (without-absent l xs h ∙ sym once) ∙ sym (without_repeats-push_new xs l h)

pub HasNoRepeats-made : (made xs : List SatLit) → made ≡ each_once xs → HasNoRepeats made
HasNoRepeats-made made xs e = subst HasNoRepeats (sym e) (without_repeats-without_repeats xs)

-- a list without repeats has none after a literal is taken out
pub HasNoRepeats-without : (l : SatLit) (xs : List SatLit) → HasNoRepeats xs → HasNoRepeats (without_literal l xs)
HasNoRepeats-without l xs once = sym (without-without_repeats l xs) ∙ ap (without_literal l) once

-- one more literal of a clause, after those of xs and some others
pub added_more : (xs ys : List SatLit) (x : SatLit) (so_far next : List SatLit) → so_far ≡ each_once (xs ++ ys) → next ≡ each_once (so_far ++ x ∷ []) → next ≡ each_once (xs ++ (ys ++ x ∷ []))
added_more xs ys x so_far next e step =
    step
    ∙ ap (λ (r : List SatLit). each_once (r ++ x ∷ [])) e
    ∙ without_repeats-append_left (xs ++ ys) (x ∷ [])
    ∙ ap each_once (append_assoc xs ys (x ∷ []))

-- the next literal of a clause is another than the one that is left out, or is that one
pub others_more_kept : (l : SatLit) (literals : List SatLit) (i : ℕ) (d : SatLit) → i < length literals → same_literal l (get_or literals i d) ≡ false
    → without_literal l (take (i + 1) literals) ≡ without_literal l (take i literals) ++ get_or literals i d ∷ []
others_more_kept l literals i d h e =
    ap (without_literal l) (take_more literals i d h)
    ∙ without-append l (take i literals) (get_or literals i d ∷ [])
    ∙ ap (λ (r : List SatLit). without_literal l (take i literals) ++ r) (without-cons_other l (get_or literals i d) [] e)

pub others_more_left : (l : SatLit) (literals : List SatLit) (i : ℕ) (d : SatLit) → i < length literals → same_literal l (get_or literals i d) ≡ true
    → without_literal l (take (i + 1) literals) ≡ without_literal l (take i literals)
others_more_left l literals i d h e =
    ap (without_literal l) (take_more literals i d h)
    ∙ without-append l (take i literals) (get_or literals i d ∷ [])
    ∙ ap (λ (r : List SatLit). without_literal l (take i literals) ++ r) (without-cons_same l (get_or literals i d) [] e)
    ∙ append-nil (without_literal l (take i literals))
