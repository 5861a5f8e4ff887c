-- Marks by stamps.
use Rattle.std.proofs.Common.{◌≡◌, ◌<◌, ◌≤◌, ◌+◌, ℕ, zero, suc, ◌==◌, ◌&&◌, ◌||◌, not, Bool, true, false, List, [], ◌∷◌, length, map, get_or, set, eqb, refl, sym, ap, ◌∙◌, arith}
use Rattle.std.specs.List.{All}
use Rattle.std.proofs.Math.Dec.{eqb-suc-suc}
use Rattle.std.proofs.lemmas.Bool.{ne_eqb, eq-eqb}
use Rattle.std.proofs.lemmas.List.Elements.{All-head, All-tail}

or_false : (b : Bool) → b ≡ (b || false)
or_false true = refl
or_false false = refl

and_true : (b : Bool) → b ≡ (b && true)
and_true true = refl
and_true false = refl

pub none_later : (stamps : List ℕ) (epoch later : ℕ) → later ≡ epoch + 1 → All (λ s. s ≤ epoch) stamps → (n : ℕ) → get_or (map (λ s. s == later) stamps) n false ≡ false
none_later [] epoch later e past zero = refl
none_later [] epoch later e past (suc n) = refl
none_later (s ∷ stamps) epoch later e past zero =
    let first : s ≤ epoch = All-head (λ (k : ℕ). k ≤ epoch) s stamps past in
    ne_eqb s later (omega arith)
none_later (s ∷ stamps) epoch later e past (suc n) = none_later stamps epoch later e (All-tail (λ (k : ℕ). k ≤ epoch) s stamps past) n

pub one_stamped : (stamps : List ℕ) (epoch i : ℕ) → i < length stamps → (n : ℕ)
    → get_or (map (λ s. s == epoch) (set stamps i epoch)) n false ≡ (get_or (map (λ s. s == epoch) stamps) n false || eqb n i)
one_stamped [] epoch i h n = absurd (omega arith)
one_stamped (s ∷ stamps) epoch zero h zero = eq-eqb epoch epoch refl ∙ sym (or_true (s == epoch) (eqb 0 0) (eq-eqb 0 0 refl))
  where
    or_true : (a b : Bool) → b ≡ true → (a || b) ≡ true
    or_true true b e = refl
    or_true false b e = e
one_stamped (s ∷ stamps) epoch zero h (suc n) = or_false (get_or (map (λ s. s == epoch) stamps) n false) ∙ ap (λ (b : Bool). get_or (map (λ s. s == epoch) stamps) n false || b) (sym (ne_eqb (suc n) 0 (omega arith)))
one_stamped (s ∷ stamps) epoch (suc i) h zero = or_false (s == epoch) ∙ ap (λ (b : Bool). (s == epoch) || b) (sym (ne_eqb 0 (suc i) (omega arith)))
one_stamped (s ∷ stamps) epoch (suc i) h (suc n) = one_stamped stamps epoch i (omega arith) n ∙ ap (λ (b : Bool). get_or (map (λ s. s == epoch) stamps) n false || b) (sym (eqb-suc-suc n i))

pub one_unstamped : (stamps : List ℕ) (epoch i : ℕ) → 0 < epoch → i < length stamps → (n : ℕ)
    → get_or (map (λ s. s == epoch) (set stamps i 0)) n false ≡ (get_or (map (λ s. s == epoch) stamps) n false && not (eqb n i))
one_unstamped [] epoch i begun h n = absurd (omega arith)
one_unstamped (s ∷ stamps) epoch zero begun h zero = ne_eqb 0 epoch (omega arith) ∙ sym (and_false (s == epoch) (not (eqb 0 0)) (ap not (eq-eqb 0 0 refl)))
  where
    and_false : (a b : Bool) → b ≡ false → (a && b) ≡ false
    and_false true b e = e
    and_false false b e = refl
one_unstamped (s ∷ stamps) epoch zero begun h (suc n) =
    and_true (get_or (map (λ s. s == epoch) stamps) n false) ∙ ap (λ (b : Bool). get_or (map (λ s. s == epoch) stamps) n false && not b) (sym (ne_eqb (suc n) 0 (omega arith)))
one_unstamped (s ∷ stamps) epoch (suc i) begun h zero = and_true (s == epoch) ∙ ap (λ (b : Bool). (s == epoch) && not b) (sym (ne_eqb 0 (suc i) (omega arith)))
one_unstamped (s ∷ stamps) epoch (suc i) begun h (suc n) =
    one_unstamped stamps epoch i begun (omega arith) n ∙ ap (λ (b : Bool). get_or (map (λ s. s == epoch) stamps) n false && not b) (sym (eqb-suc-suc n i))
