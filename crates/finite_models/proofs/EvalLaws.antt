-- Digits, and what is worth one everywhere.
use Rattle.std.proofs.Common.{◌≡◌, ℕ, zero, suc, ◌+◌, ◌*◌, ◌/◌, ◌%◌, ◌^◌, ◌-◌, ◌<◌, ◌≤◌, refl, ap, sym, subst, ◌∙◌, Bool, true, false, nat_eq, if◌then◌else◌, arith, ⊎_elim, eqb-true, le_of_suc-le-suc, mul-le-mul_right}
use Rattle.std.proofs.Math.Nat.{div-div-eq-div-mul, pow-succ', pow-le-pow_right, eq-or-lt_of_le, zero-div, zero-mod}
use Rattle.std.proofs.lemmas.Nat.{pow-add}
use Rattle.stt_core.specs.Digits.{entry, table}
use Rattle.stt_core.proofs.DigitLaws.{table-lt}
use Rattle.finite_models.specs.Internal.Worth.{all_one}

-- one digit more is taken off
pub digits_off : (f b i rest : ℕ) → rest ≡ f / b ^ i → rest / b ≡ f / b ^ (i + 1)
digits_off f b i rest e =
    let q : i + 1 ≡ suc i = omega arith in
    ap (λ x. x / b) e
    ∙ div-div-eq-div-mul f (b ^ i) b
    ∙ ap (λ x. f / x) (omega (arith, pow-succ' b i) ∙ ap (λ j. b ^ j) (sym q))

-- ONE EVERYWHERE

not_one : (x : ℕ) → (x ≡ 1 → ⊥) → nat_eq x 1 ≡ false
not_one x h = go (nat_eq x 1) refl
  where
    go : (b : Bool) → nat_eq x 1 ≡ b → b ≡ false
    go true e = absurd (h (eqb-true x 1 e))
    go false e = refl

pub one_fails : (n i : ℕ) (g : ℕ → ℕ) → i < n → (g i ≡ 1 → ⊥) → all_one n g ≡ 0
one_fails zero i g l h = absurd (omega arith)
one_fails (suc n) i g l h =
    ⊎_elim
    (λ e. ap (λ b. if b then all_one n g else 0) (not_one (g n) (λ k. h (ap g e ∙ k))))
    (λ k. go (nat_eq (g n) 1) (one_fails n i g k h))
    (eq-or-lt_of_le (le_of_suc-le-suc l))
  where
    go : (b : Bool) → all_one n g ≡ 0 → (if b then all_one n g else 0) ≡ 0
    go true k = k
    go false k = refl

-- A TABLE, ENTRY AFTER ENTRY

-- the numbers of a table's next entry
pub record NextEntry (b n x d sum power : ℕ) : Type 0 where
  pub product : d * power < 2 ^ 32
  pub whole : sum + d * power < 2 ^ 32
  pub scaled : power * b < 2 ^ 32

pub next_entry : (b n x : ℕ) (g : ℕ → ℕ) (d sum power : ℕ) → b ^ n ≤ 2 ^ 20 → x < n → ((y : ℕ) → y < n → g y < b) → d ≡ g x → sum ≡ table b x g → power ≡ b ^ x → NextEntry b n x d sum power
next_entry b n x g d sum power small l below e s p =
    let dig : d < b = subst (λ v. v < b) (sym e) (below x l) in
    let pos : 0 < b = omega arith in
    let up : b ^ suc x ≤ b ^ n = pow-le-pow_right pos l in
    let next = pow-succ' b x in
    let low : table b x g < b ^ x = table-lt b x g (λ y k. below y (omega arith)) in
    let most : suc d * b ^ x ≤ b * b ^ x = mul-le-mul_right (b ^ x) dig in
    let s' : sum < b ^ x = subst (λ v. v < b ^ x) (sym s) low in
    let product : d * power ≡ d * b ^ x = ap (λ y. d * y) p in
    let power_is : power * b ≡ b ^ x * b = ap (λ y. y * b) p in
    record { product = omega arith; whole = omega arith; scaled = omega arith }

-- where nothing is left of a number, its further digits are 0
pub no_digit : (b f i j rest : ℕ) → rest ≡ f / b ^ i → rest ≡ 0 → i ≤ j → 0 ≡ entry b f j
no_digit b f i j rest e z l =
    let d : ℕ = j - i in
    let q : j ≡ i + d = omega arith in
    let none : f / b ^ j ≡ 0 =
    ap (λ k. f / b ^ k) q
    ∙ ap (λ k. f / k) (pow-add b i d)
    ∙ sym (div-div-eq-div-mul f (b ^ i) (b ^ d))
    ∙ ap (λ k. k / b ^ d) (sym e ∙ z)
    ∙ zero-div (b ^ d) in
    sym (ap (λ k. k % b) none ∙ zero-mod b)

-- POWERS

pub power_of_one : (b n : ℕ) → b ≡ 1 → 1 ≡ b ^ n
power_of_one b n e = go n ∙ ap (λ x. x ^ n) (sym e)
  where
    go : (n : ℕ) → 1 ≡ 1 ^ n
    go zero = refl
    go (suc n) = omega (arith, go n, pow-succ' 1 n)

pub power_exceeds : (b i n power limit : ℕ) → 1 ≤ b → i < n → power ≡ b ^ i → limit < power * b → limit < b ^ n
power_exceeds b i n power limit pos l e h =
    let up : b ^ suc i ≤ b ^ n = pow-le-pow_right pos l in
    let p : power * b ≡ b ^ i * b = ap (λ x. x * b) e in
    omega (arith, pow-succ' b i)
