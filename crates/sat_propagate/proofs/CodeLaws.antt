-- Tests and negations of literals by their numbers.
use Rattle.std.proofs.Common.{◌≡◌, ℕ, ◌+◌, ◌-◌, ◌*◌, ◌/◌, ◌%◌, ◌==◌, Bool, true, false, not, if◌then◌else◌, inl, inr, refl, sym, ap, ◌∙◌, arith}
use Rattle.std.proofs.lemmas.Bool.{cases_Bool, eqb-true, eqb-false, false_from_ne_true}
use Rattle.sat_base.specs.Literal.{same_literal, negated}
use Rattle.sat_base.proofs.LiteralLaws.{same_literal-refl, same_literal-true}
use Rattle.sat_laws.specs.Internal.Packing.{packed, unpacked}
use Rattle.sat_laws.proofs.PackingLaws.{packed-unpacked, unpacked-packed}

-- two literals are one where their numbers are
pub same_code : (n m : ℕ) → (n == m) ≡ same_literal (unpacked n) (unpacked m)
same_code n m = elim (cases_Bool (n == m)) [
  | inl same ↦ same ∙ sym (ap (λ (k : ℕ). same_literal (unpacked n) (unpacked k)) (sym (eqb-true n m same)) ∙ same_literal-refl (unpacked n))
  | inr apart ↦ apart ∙ sym (false_from_ne_true (same_literal (unpacked n) (unpacked m)) (λ t.
      eqb-false n m apart (sym (packed-unpacked n) ∙ ap packed (same_literal-true (unpacked n) (unpacked m) t) ∙ packed-unpacked m)))
]

flip : (n : ℕ) (odd : Bool) → (n % 2 == 1) ≡ odd → n - n % 2 + (1 - n % 2) ≡ n / 2 * 2 + (if not odd then 1 else 0)
flip n true e = let one : n % 2 ≡ 1 = eqb-true (n % 2) 1 e in omega (arith, one)
flip n false e = let even : ¬ (n % 2 ≡ 1) = eqb-false (n % 2) 1 e in omega (arith, even)

-- the number of a literal's negation has the other last bit
pub flipped : (n : ℕ) → unpacked (n - n % 2 + (1 - n % 2)) ≡ negated (unpacked n)
flipped n = ap unpacked (flip n (n % 2 == 1) refl) ∙ unpacked-packed (negated (unpacked n))
