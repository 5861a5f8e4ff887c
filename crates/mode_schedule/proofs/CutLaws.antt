-- Lines of bytes that are cut at line feeds.
use Rattle.std.proofs.Common.{◌≡◌, ◌⊎◌, inl, inr, ℕ, ◌-◌, ◌<◌, ◌≤◌, ◌==◌, Bool, true, false, List, [], ◌∷◌, ◌++◌, length, take, refl, sym, ap, ◌∙◌, subst, arith, append_assoc, append-nil, length-append, if◌then◌else◌}
use Rattle.std.specs.List.{onto_first}
use Rattle.std.proofs.lemmas.List.{append_cancel_right, take_all, take_at}
use Rattle.outside.specs.Lines.{lines_of}
use Rattle.mode_file.specs.Lines.{IsCutBefore}

some_lines : (xs : List ℕ) → 0 < length (lines_of (xs ++ 10 ∷ []))
some_lines [] = omega arith
some_lines (c ∷ xs) = by_byte (c == 10) (some_lines xs)
  where
    onto : (ls : List (List ℕ)) → 0 < length (onto_first c ls)
    onto [] = omega arith
    onto (l ∷ ls) = omega arith

    by_byte : (b : Bool) → 0 < length (lines_of (xs ++ 10 ∷ [])) → 0 < length (if b then [] ∷ lines_of (xs ++ 10 ∷ []) else onto_first c (lines_of (xs ++ 10 ∷ [])))
    by_byte true h = omega arith
    by_byte false h = onto (lines_of (xs ++ 10 ∷ []))

onto_first-append : (c : ℕ) (ls ms : List (List ℕ)) → 0 < length ls → onto_first c (ls ++ ms) ≡ onto_first c ls ++ ms
onto_first-append c [] ms h = absurd (omega (arith, h))
onto_first-append c (l ∷ ls) ms h = refl

-- bytes have the lines up to a line feed, and then those behind it
lines_of-cut : (xs rest : List ℕ) → lines_of (xs ++ 10 ∷ rest) ≡ lines_of (xs ++ 10 ∷ []) ++ lines_of rest
lines_of-cut [] rest = refl
lines_of-cut (c ∷ xs) rest = by_byte (c == 10) (lines_of-cut xs rest)
  where
    by_byte : (b : Bool) → lines_of (xs ++ 10 ∷ rest) ≡ lines_of (xs ++ 10 ∷ []) ++ lines_of rest → (if b then [] ∷ lines_of (xs ++ 10 ∷ rest) else onto_first c (lines_of (xs ++ 10 ∷ rest))) ≡ (if b then [] ∷ lines_of (xs ++ 10 ∷ []) else onto_first c (lines_of (xs ++ 10 ∷ []))) ++ lines_of rest
    by_byte true h = ap (λ (ls : List (List ℕ)). [] ∷ ls) h
    by_byte false h = ap (onto_first c) h ∙ onto_first-append c (lines_of (xs ++ 10 ∷ [])) (lines_of rest) (some_lines xs)

-- the rest of bytes is all of them, or cut off
abbrev pub IsRest : List ℕ → List ℕ → Type 0
IsRest bytes rest = (rest ≡ bytes) ⊎ IsCutBefore bytes rest

no_cut : (rest front more : List ℕ) → rest ≡ [] → rest ≡ front ++ 10 ∷ more → ⊥
no_cut rest front more none e = omega (arith, ap length none, ap length e, length-append front (10 ∷ more))

pub rest-cut : (bytes rest more : List ℕ) → IsRest bytes rest → IsCutBefore rest more → IsRest bytes more
rest-cut bytes rest more (inl e) cut = inr (subst (λ (xs : List ℕ). IsCutBefore xs more) e cut)
rest-cut bytes rest more (inr a) (inl none) = inr (inl none)
rest-cut bytes rest more (inr (inl none)) (inr b) = absurd (no_cut rest b.0 more none b.1)
rest-cut bytes rest more (inr (inr a)) (inr b) =
    inr (inr (a.0 ++ 10 ∷ b.0, a.1 ∙ ap (λ (xs : List ℕ). a.0 ++ 10 ∷ xs) b.1 ∙ sym (append_assoc a.0 (10 ∷ b.0) (10 ∷ more))))

-- the lines before the rest are those of the bytes before it
pub lines_before : (bytes rest : List ℕ) (before : List (List ℕ)) → IsRest bytes rest → lines_of bytes ≡ before ++ lines_of rest → lines_of (take (length bytes - length rest) bytes) ≡ before
lines_before bytes rest before (inl e) h =
    let none : length bytes - length rest ≡ 0 = omega (arith, ap length e) in
    ap (λ n. lines_of (take n bytes)) none ∙ append_cancel_right [] before (lines_of rest) (ap lines_of e ∙ h)
lines_before bytes rest before (inr (inl none)) h =
    let all : length bytes ≤ length bytes - length rest = omega (arith, ap length none) in
    ap lines_of (take_all (length bytes - length rest) bytes all) ∙ h ∙ ap (λ (xs : List ℕ). before ++ lines_of xs) none ∙ append-nil before
lines_before bytes rest before (inr (inr cut)) h =
    let parted : bytes ≡ (cut.0 ++ 10 ∷ []) ++ rest = cut.1 ∙ sym (append_assoc cut.0 (10 ∷ []) rest) in
    let long : length (cut.0 ++ 10 ∷ []) ≡ length bytes - length rest = omega (arith, ap length parted, length-append (cut.0 ++ 10 ∷ []) rest) in
    let fronts : take (length bytes - length rest) bytes ≡ cut.0 ++ 10 ∷ [] = ap (take (length bytes - length rest)) parted ∙ take_at (cut.0 ++ 10 ∷ []) rest (length bytes - length rest) long in
    ap lines_of fronts
    ∙ append_cancel_right (lines_of (cut.0 ++ 10 ∷ [])) before (lines_of rest) (sym (lines_of-cut cut.0 rest) ∙ ap lines_of (sym cut.1) ∙ h)
