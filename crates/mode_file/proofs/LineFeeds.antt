-- The lines of bytes.
use Rattle.std.proofs.Common.{◌≡◌, inl, inr, ℕ, ◌==◌, not, Bool, true, false, List, [], ◌∷◌, ◌<◌, length, drop, refl, sym, ap, ap₂, ◌∙◌, subst, arith, if◌then◌else◌}
use Rattle.std.specs.List.{onto_first}
use Rattle.std.proofs.lemmas.Bool.Decides.{nat_tests}
use Rattle.mode_file.specs.declared.bytes.ByteClass.TheVariants.{InLine}
use Rattle.outside.specs.Lines.{lines_of}
use Rattle.outside.specs.Fronts.{front, behind_front}
use Rattle.mode_file.specs.Lines.{IsCutBefore}
use Rattle.mode_file.specs.Internal.Fronts.{is_in}

lines_of-front : (c : ℕ) (cs : List ℕ) → lines_of (c ∷ cs) ≡ front (is_in InLine) (c ∷ cs) ∷ lines_of (drop 1 (behind_front (is_in InLine) (c ∷ cs)))
lines_of-front c [] = go (c == 10)
  where
    go : (b : Bool) → (if b then [] ∷ [] else (c ∷ []) ∷ []) ≡ (if not b then c ∷ [] else []) ∷ lines_of (drop 1 (if not b then [] else c ∷ []))
    go true = refl
    go false = refl
lines_of-front c (d ∷ ds) = go (c == 10) (lines_of-front d ds)
  where
    go : (b : Bool) → lines_of (d ∷ ds) ≡ front (is_in InLine) (d ∷ ds) ∷ lines_of (drop 1 (behind_front (is_in InLine) (d ∷ ds))) → (if b then [] ∷ lines_of (d ∷ ds) else onto_first c (lines_of (d ∷ ds))) ≡ (if not b then c ∷ front (is_in InLine) (d ∷ ds) else []) ∷ lines_of (drop 1 (if not b then behind_front (is_in InLine) (d ∷ ds) else c ∷ d ∷ ds))
    go true h = refl
    go false h = ap (onto_first c) h

-- the first line, and what follows it
pub first_line : (bs line rest : List ℕ) → (length bs == 0) ≡ false → line ≡ front (is_in InLine) bs → rest ≡ behind_front (is_in InLine) bs → lines_of bs ≡ line ∷ lines_of (drop 1 rest)
first_line [] line rest h e f = cc
first_line (c ∷ cs) line rest h e f = lines_of-front c cs ∙ ap₂ (λ x y. x ∷ lines_of (drop 1 y)) (sym e) (sym f)

pub drop-none : (rest : List ℕ) → length rest < 1 → drop 1 rest ≡ rest
drop-none [] h = refl
drop-none (c ∷ cs) h = absurd (omega arith)

-- what is left behind a line begins with a line feed
feed_is : (c : ℕ) → (c == 10) ≡ true → c ≡ 10
feed_is c h = grind (arith, nat_tests, h)

pub cut_behind : (bs rest : List ℕ) → rest ≡ behind_front (is_in InLine) bs → 0 < length rest → IsCutBefore bs (drop 1 rest)
cut_behind bs rest e some = subst (λ (r : List ℕ). IsCutBefore bs (drop 1 r)) (sym e) (go bs (let n = ap length e in omega (arith, n, some)))
  where
    go : (bs : List ℕ) → 0 < length (behind_front (is_in InLine) bs) → IsCutBefore bs (drop 1 (behind_front (is_in InLine) bs))
    go [] h = absurd (omega (arith, h))
    go (c ∷ cs) h = by_byte (c == 10) refl h (go cs)
      where
        by_byte : (b : Bool) → (c == 10) ≡ b → 0 < length (if not b then behind_front (is_in InLine) cs else c ∷ cs) → (0 < length (behind_front (is_in InLine) cs) → IsCutBefore cs (drop 1 (behind_front (is_in InLine) cs))) → IsCutBefore (c ∷ cs) (drop 1 (if not b then behind_front (is_in InLine) cs else c ∷ cs))
        by_byte true t k rest = inr ([], ap (λ (x : ℕ). x ∷ cs) (feed_is c t))
        by_byte false t k rest = later (rest k)
          where
            later : IsCutBefore cs (drop 1 (behind_front (is_in InLine) cs)) → IsCutBefore (c ∷ cs) (drop 1 (behind_front (is_in InLine) cs))
            later (inl none) = inl none
            later (inr cut) = inr (c ∷ cut.0, ap (λ (xs : List ℕ). c ∷ xs) cut.1)
