-- Literals as numbers.
use Rattle.std.proofs.Common.{◌≡◌, ℕ, ◌+◌, ◌*◌, ◌/◌, ◌%◌, ◌<◌, ◌==◌, Bool, true, false, refl, ap, ap₂, arith, if◌then◌else◌}
use Rattle.std.proofs.lemmas.Bool.{eqb-true, eqb-false}
use Rattle.std.proofs.lemmas.Nat.{shr_high, mod_low}
use Rattle.sat_base.specs.declared.literal.Var.{Var}
use Rattle.sat_base.specs.declared.literal.SatLit.{SatLit}
use Rattle.sat_base.specs.Literal.{literal}
use Rattle.sat_laws.specs.Internal.Packing.{packed, unpacked}

rest_bit : (n : ℕ) (b : Bool) → (n % 2 == 1) ≡ b → n / 2 * 2 + (if b then 1 else 0) ≡ n
rest_bit n true e = let odd : n % 2 ≡ 1 = eqb-true (n % 2) 1 e in omega (arith, odd)
rest_bit n false e = let even : ¬ (n % 2 ≡ 1) = eqb-false (n % 2) 1 e in omega (arith, even)

pub packed-unpacked : (n : ℕ) → packed (unpacked n) ≡ n
packed-unpacked n = rest_bit n (n % 2 == 1) refl

parts : (v r : ℕ) → r < 2 → unpacked (v * 2 + r) ≡ literal (record { 0 = v }) (r == 1)
parts v r h = ap₂ literal (ap (λ (n : ℕ). let w : Var = record { 0 = n } in w) (shr_high v 1 r h)) (ap (λ (n : ℕ). n == 1) (mod_low v 1 r h))

unpacked-parts : (v : ℕ) (sign : Bool) → unpacked (v * 2 + (if sign then 1 else 0)) ≡ literal (record { 0 = v }) sign
unpacked-parts v true = parts v 1 (omega arith)
unpacked-parts v false = parts v 0 (omega arith)

pub unpacked-packed : (l : SatLit) → unpacked (packed l) ≡ l
unpacked-packed l = unpacked-parts l.var.0 l.positive
