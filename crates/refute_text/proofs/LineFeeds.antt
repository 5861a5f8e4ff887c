-- The lines of bytes.
use Rattle.std.proofs.Common.{◌≡◌, ℕ, ◌==◌, not, Bool, true, false, List, [], ◌∷◌, ◌++◌, ◌<◌, length, drop, refl, sym, ap, ap₂, ◌∙◌, append_assoc, arith, if◌then◌else◌}
use Rattle.std.specs.List.{list_all, onto_first}
use Rattle.std.proofs.lemmas.Bool.{and_parts, not-true}
use Rattle.refute_print.specs.Text.{as_bytes}
use Rattle.refute_text.specs.Internal.Reader.{is_no_feed}
use Rattle.outside.specs.Fronts.{front, behind_front}
use Rattle.outside.specs.Lines.{lines_of}
use Rattle.refute_text.specs.Reading.{AreLines}

pub lines_of-front : (c : ℕ) (cs : List ℕ) → lines_of (c ∷ cs) ≡ front is_no_feed (c ∷ cs) ∷ lines_of (drop 1 (behind_front is_no_feed (c ∷ cs)))
lines_of-front c [] = go (c == 10)
  where
    go : (b : Bool) → (if b then [] ∷ [] else (c ∷ []) ∷ []) ≡ (if not b then c ∷ [] else []) ∷ lines_of (drop 1 (if not b then [] else c ∷ []))
    go true = refl
    go false = refl
lines_of-front c (d ∷ ds) = go (c == 10) (lines_of-front d ds)
  where
    go : (b : Bool) → lines_of (d ∷ ds) ≡ front is_no_feed (d ∷ ds) ∷ lines_of (drop 1 (behind_front is_no_feed (d ∷ ds))) → (if b then [] ∷ lines_of (d ∷ ds) else onto_first c (lines_of (d ∷ ds))) ≡ (if not b then c ∷ front is_no_feed (d ∷ ds) else []) ∷ lines_of (drop 1 (if not b then behind_front is_no_feed (d ∷ ds) else c ∷ d ∷ ds))
    go true h = refl
    go false h = ap (onto_first c) h

line-feed : (l rest : List ℕ) → list_all is_no_feed l ≡ true → lines_of (l ++ (10 ∷ rest)) ≡ l ∷ lines_of rest
line-feed [] rest h = refl
line-feed (c ∷ l) rest h =
    let p = and_parts (is_no_feed c) (list_all is_no_feed l) h in
    ap (λ b. if b then [] ∷ lines_of (l ++ (10 ∷ rest)) else onto_first c (lines_of (l ++ (10 ∷ rest)))) (not-true (c == 10) p.0) ∙ ap (onto_first c) (line-feed l rest p.1)

pub lines_of-as_bytes : (ls : List (List ℕ)) (rest : List ℕ) → AreLines ls → lines_of (as_bytes ls ++ rest) ≡ ls ++ lines_of rest
lines_of-as_bytes [] rest h = refl
lines_of-as_bytes (l ∷ ls) rest h =
    ap lines_of (append_assoc l (10 ∷ as_bytes ls) rest) ∙ line-feed l (as_bytes ls ++ rest) h.0 ∙ ap (λ x. l ∷ x) (lines_of-as_bytes ls rest h.1)

-- the first line, and what follows it
pub first_line : (bs line rest : List ℕ) → (length bs == 0) ≡ false → line ≡ front is_no_feed bs → rest ≡ behind_front is_no_feed bs → lines_of bs ≡ line ∷ lines_of (drop 1 rest)
first_line [] line rest h e f = cc
first_line (c ∷ cs) line rest h e f = lines_of-front c cs ∙ ap₂ (λ x y. x ∷ lines_of (drop 1 y)) (sym e) (sym f)

pub drop-none : (rest : List ℕ) → length rest < 1 → drop 1 rest ≡ rest
drop-none [] h = refl
drop-none (c ∷ cs) h = absurd (omega arith)
