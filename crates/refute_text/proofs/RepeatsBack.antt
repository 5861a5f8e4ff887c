-- The texts of repeated items are read back.
use Rattle.std.proofs.Common.{◌≡◌, ℕ, zero, suc, ◌≤◌, true, List, [], ◌∷◌, ◌++◌, Option, Some, None, length, refl, ap, ◌∙◌, append_assoc, arith, length-append}
use Rattle.std.specs.List.{flat_map}
use Rattle.refute_text.specs.Internal.Reader.{◌>>=◌, behind_text, with_item, repeated_at}
use Rattle.refute_text.proofs.Inversions.{found}
use Rattle.refute_text.proofs.Answers.{bind_gives, front_gives, front_skips, behind-append}
use Rattle.refute_text.proofs.NameBack.{stops}

-- the item's text is read back, before whatever stops it
abbrev pub IsReadBack : {X : Type 0} → (List ℕ → Option (X × List ℕ)) → (X → List ℕ) → X → Type 0
IsReadBack item text x = (rest : List ℕ) → stops rest ≡ true → item (text x ++ rest) ≡ Some (x, rest)

abbrev pub AreReadBack : {X : Type 0} → (List ℕ → Option (X × List ℕ)) → (X → List ℕ) → List X → Type 0
AreReadBack item text [] = Unit {0}
AreReadBack item text (x ∷ xs) = IsReadBack item text x × AreReadBack item text xs

-- items' texts, each behind a mark
abbrev pub marked : {X : Type 0} → List ℕ → (X → List ℕ) → List X → List ℕ
marked mark text xs = flat_map (λ x. mark ++ text x) xs

pub length-marked : {X : Type 0} (m : ℕ) (mark : List ℕ) (text : X → List ℕ) (xs : List X) (rest : List ℕ) → length xs ≤ length (marked (m ∷ mark) text xs ++ rest)
length-marked m mark text [] rest = omega arith
length-marked m mark text (x ∷ xs) rest =
    let tail = length-marked m mark text xs rest in
    omega (arith, tail, length-append mark (text x), length-append (mark ++ text x) (marked (m ∷ mark) text xs), length-append ((mark ++ text x) ++ marked (m ∷ mark) text xs) rest, length-append (marked (m ∷ mark) text xs) rest)

pub more_stop : {X : Type 0} (m : ℕ) (mark : List ℕ) (text : X → List ℕ) (xs : List X) (rest : List ℕ) → stops (m ∷ []) ≡ true → stops rest ≡ true → stops (marked (m ∷ mark) text xs ++ rest) ≡ true
more_stop m mark text [] rest h k = k
more_stop m mark text (x ∷ xs) rest h k = h

pub repeated_at-texts : {X : Type 0} (m : ℕ) (mark : List ℕ) (item : List ℕ → Option (X × List ℕ)) (text : X → List ℕ) (n : ℕ) (xs : List X) (rest : List ℕ) → stops (m ∷ []) ≡ true → AreReadBack item text xs → length xs ≤ n → stops rest ≡ true → behind_text (m ∷ mark) rest ≡ None → repeated_at (m ∷ mark) item n (marked (m ∷ mark) text xs ++ rest) ≡ Some (xs, rest)
unfolding repeated_at
repeated_at-texts m mark item text zero [] rest stop back l s none = refl
repeated_at-texts m mark item text zero (x ∷ xs) rest stop back l s none = absurd (omega (arith, l))
repeated_at-texts m mark item text (suc n) [] rest stop back l s none =
    front_skips (behind_text (m ∷ mark) rest) _ (found [] rest) ([], rest) none refl
repeated_at-texts m mark item text (suc n) (x ∷ xs) rest stop back l s none =
    let more = marked (m ∷ mark) text xs ++ rest in
    ap (repeated_at (m ∷ mark) item (suc n)) (regroup (m ∷ mark) (text x) (marked (m ∷ mark) text xs) rest)
    ∙ front_gives (behind_text (m ∷ mark) ((m ∷ mark) ++ (text x ++ more))) (λ r. item r >>= (λ y. with_item y.0 (repeated_at (m ∷ mark) item n y.1))) (found [] ((m ∷ mark) ++ (text x ++ more))) (text x ++ more) (x ∷ xs, rest) (behind-append (m ∷ mark) (text x ++ more))
    (bind_gives (item (text x ++ more)) (λ y. with_item y.0 (repeated_at (m ∷ mark) item n y.1)) (x, more) (x ∷ xs, rest) (back.0 more (more_stop m mark text xs rest stop s))
    (ap (with_item x) (repeated_at-texts m mark item text n xs rest stop back.1 (omega (arith, l)) s none)))
  where
    regroup : (k t us r : List ℕ) → ((k ++ t) ++ us) ++ r ≡ k ++ (t ++ (us ++ r))
    regroup k t us r = simp append_assoc
