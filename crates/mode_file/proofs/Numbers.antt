-- Digits and the number that they are.
use Rattle.std.proofs.Common.{◌≡◌, ℕ, ◌^◌, ◌<◌, ◌==◌, not, Bool, true, false, List, [], ◌∷◌, Some, None, Result, Ok, Err, length, refl, sym, ap, ◌∙◌, arith, rules, if◌then◌else◌, nat_lt}
use Rattle.std.specs.List.{list_all}
use Rattle.std.proofs.lemmas.Bool.{and_parts}
use Rattle.std.proofs.lemmas.Bool.Decides.{nat_tests}
use Rattle.std.proofs.lemmas.Str.Parse.{IsNumeralModel, numerals_by_fold, parse_digits}
use Rattle.std.specs.Str.Parse.{ParsesUnsigned}
use Rattle.outside.specs.Decimal.{is_digit, is_decimal, number_from}

pub own : IsNumeralModel (λ ds. list_all is_digit ds ≡ true) (number_from 0)
own = numerals_by_fold _ (search rules) number_from (search rules)

-- a decimal number is of digits, at least one
pub digits_of : (ds : List ℕ) → is_decimal ds ≡ true → (list_all is_digit ds ≡ true) × (0 < length ds)
digits_of [] d = absurd (cc)
digits_of (c ∷ []) d = (simp d, omega arith)
digits_of (c ∷ e ∷ es) d = ((and_parts (not (c == 48)) (list_all is_digit (c ∷ e ∷ es)) d).1, omega arith)

pub value_some : {E : Type 0} (r : Result ℕ E) (ds t : List ℕ) (n : ℕ) → r ≡ Ok n → t ≡ ds → list_all is_digit ds ≡ true → ParsesUnsigned 64 10 t r → Some n ≡ (if nat_lt (number_from 0 ds) (2 ^ 64) then Some (number_from 0 ds) else None)
value_some {E = E} (Ok m) ds t n is e d p =
    let h = parse_digits own {E = E} 64 t (Ok m) p (ap (list_all is_digit) e ∙ d) in
    let k : m ≡ n = cc in
    go (nat_lt (number_from 0 ds) (2 ^ 64)) refl (sym k ∙ h.1 ∙ ap (number_from 0) e) h.0.1 (ap (number_from 0) e)
  where
    go : (b : Bool) → nat_lt (number_from 0 ds) (2 ^ 64) ≡ b → n ≡ number_from 0 ds → number_from 0 t < 2 ^ 64 → number_from 0 t ≡ number_from 0 ds → Some n ≡ (if b then Some (number_from 0 ds) else None)
    go true q h l j = ap Some h
    go false q h l j = absurd (grind (arith, nat_tests))
value_some (Err x) ds t n is e d p = cc

pub value_none : {E : Type 0} (r : Result ℕ E) (x : E) (ds t : List ℕ) → r ≡ Err x → t ≡ ds → list_all is_digit ds ≡ true → 0 < length ds → ParsesUnsigned 64 10 t r → None ≡ (if nat_lt (number_from 0 ds) (2 ^ 64) then Some (number_from 0 ds) else None)
value_none (Ok m) x ds t is e d some p = cc
value_none (Err y) x ds t is e d some p =
    let h = parse_digits own 64 t (Err y) p (ap (list_all is_digit) e ∙ d) in
    go (nat_lt (number_from 0 ds) (2 ^ 64)) refl h (ap length e) (ap (number_from 0) e)
  where
    go : (b : Bool) → nat_lt (number_from 0 ds) (2 ^ 64) ≡ b → ((0 < length t) × (number_from 0 t < 2 ^ 64) → ⊥) → length t ≡ length ds → number_from 0 t ≡ number_from 0 ds → None ≡ (if b then Some (number_from 0 ds) else None)
    go true q never j h = absurd (never (omega (arith, some), let l : number_from 0 ds < 2 ^ 64 = grind (arith, nat_tests) in omega arith))
    go false q never j h = refl
