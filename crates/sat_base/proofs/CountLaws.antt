-- How many clauses there are over n variables. Each clause has a number below 3 ^ n, whose digit at a
-- variable says whether the clause holds it as it is, holds its negation, or neither.
use Rattle.std.proofs.Common.{◌≡◌, ℕ, zero, suc, ◌+◌, ◌*◌, ◌^◌, ◌<◌, ◌≤◌, Bool, true, false, List, [], ◌∷◌, length, map, get_or, eqb, refl, sym, ◌∙◌, inl, inr, arith}
use Rattle.std.specs.List.{list_any, All, AllPairs, IsDistinct}
use Rattle.std.proofs.Math.Nat.{pow-succ'}
use Rattle.std.proofs.lemmas.Bool.{false≢true, ne_eqb, cases_eq, cases_lt, eqb-true, or_cases, false_from_ne_true}
use Rattle.std.proofs.lemmas.List.{get_or-map, length-map}
use Rattle.std.proofs.lemmas.List.Elements.{All-get_or}
use Rattle.std.proofs.lemmas.Map.Keys.{IsDistinct-from_apart}
use Rattle.std.proofs.lemmas.Map.Steps.{length-le_from_distinct_below}
use Rattle.sat_base.specs.declared.literal.Var.{Var}
use Rattle.sat_base.specs.declared.literal.SatLit.{SatLit}
use Rattle.sat_base.specs.Literal.{positive, negative, holds, HoldsNoVariableTwice, IsAlike, IsOver}
use Rattle.sat_base.proofs.LiteralLaws.{sign_cases, not_both, All-held}

abbrev pub digit_of : Bool → Bool → ℕ
digit_of true n = 1
digit_of false true = 2
digit_of false false = 0

abbrev pub digit : List SatLit → Var → ℕ
digit clause v = digit_of (holds clause (positive v)) (holds clause (negative v))

abbrev var_of : ℕ → Var
var_of n = record { 0 = n }

abbrev code : ℕ → List SatLit → ℕ
code zero clause = 0
code (suc n) clause = digit clause (var_of n) + 3 * code n clause

pub digit-lt : (clause : List SatLit) (v : Var) → digit clause v < 3
digit-lt clause v = go (holds clause (positive v)) (holds clause (negative v))
  where
    go : (p n : Bool) → digit_of p n < 3
    go true n = omega arith
    go false true = omega arith
    go false false = omega arith

code-lt : (n : ℕ) (clause : List SatLit) → code n clause < 3 ^ n
code-lt zero clause = omega arith
code-lt (suc n) clause = rw pow-succ' (omega (arith, digit-lt clause (var_of n), code-lt n clause))

-- equal numbers have equal digits
digits_agree : (n : ℕ) (a b : List SatLit) → code n a ≡ code n b → (k : ℕ) → k < n → digit a (var_of k) ≡ digit b (var_of k)
digits_agree zero a b e k h = absurd (omega arith)
digits_agree (suc n) a b e k h =
    let low = digit-lt a (var_of n) in
    let high = digit-lt b (var_of n) in
    elim (cases_eq k n) [
      | inl here ↦ rw here (omega arith)
      | inr other ↦ digits_agree n a b (omega arith) k (omega arith)
    ]

-- an equal digit says that the same literals on the variable are held
pub same_literals : (a b : List SatLit) (v : Var) → HoldsNoVariableTwice a → HoldsNoVariableTwice b → digit a v ≡ digit b v
    → (holds a (positive v) ≡ holds b (positive v)) × (holds a (negative v) ≡ holds b (negative v))
same_literals a b v once_a once_b e =
    go (holds a (positive v)) (holds a (negative v)) (holds b (positive v)) (holds b (negative v)) (not_both a v once_a) (not_both b v once_b) e
  where
    go : (p n q m : Bool) → (p ≡ true → n ≡ true → ⊥) → (q ≡ true → m ≡ true → ⊥) → digit_of p n ≡ digit_of q m → (p ≡ q) × (n ≡ m)
    go true true q m no_a no_b e = absurd (no_a refl refl)
    go p n true true no_a no_b e = absurd (no_b refl refl)
    go true false true false no_a no_b e = (refl, refl)
    go true false false true no_a no_b e = absurd (omega arith)
    go true false false false no_a no_b e = absurd (omega arith)
    go false true true false no_a no_b e = absurd (omega arith)
    go false true false true no_a no_b e = (refl, refl)
    go false true false false no_a no_b e = absurd (omega arith)
    go false false true false no_a no_b e = absurd (omega arith)
    go false false false true no_a no_b e = absurd (omega arith)
    go false false false false no_a no_b e = (refl, refl)

-- a literal whose variable has the number n or more is not held
not_held : (n : ℕ) (clause : List SatLit) (l : SatLit) → IsOver n clause → n ≤ l.var.0 → holds clause l ≡ false
not_held n clause l over high = false_from_ne_true (holds clause l) (λ h. let low : l.var.0 < n = All-held (λ m. m.var.0 < n) clause l over h in omega arith)

-- clauses with one number are alike
IsAlike-code : (n : ℕ) (a b : List SatLit) → IsOver n a → IsOver n b → HoldsNoVariableTwice a → HoldsNoVariableTwice b → code n a ≡ code n b → IsAlike a b
IsAlike-code n a b over_a over_b once_a once_b e l =
    elim (cases_lt l.var.0 n) [
      | inl low ↦ let same = same_literals a b l.var once_a once_b (digits_agree n a b e l.var.0 low) in
          elim (sign_cases l) [
            | inl is ↦ rw is same.0
            | inr is ↦ rw is same.1
          ]
      | inr high ↦ not_held n a l over_a high ∙ sym (not_held n b l over_b high)
    ]

-- the numbers of a list of clauses are below 3 ^ n
codes_below : (n : ℕ) (clauses : List (List SatLit)) (q : ℕ) → list_any (eqb q) (map (code n) clauses) ≡ true → q < 3 ^ n
codes_below n [] q h = absurd (false≢true h)
codes_below n (clause ∷ clauses) q h =
    elim (or_cases (eqb q (code n clause)) _ h) [
      | inl e ↦ rw (eqb-true q (code n clause) e) (code-lt n clause)
      | inr t ↦ codes_below n clauses q t
    ]

-- two places of the list have different numbers
codes_apart : (n : ℕ) (clauses : List (List SatLit)) → All (IsOver n) clauses → All HoldsNoVariableTwice clauses → AllPairs (λ a b. ¬ IsAlike a b) clauses
    → (i j d : ℕ) → i < j → j < length (map (code n) clauses) → eqb (get_or (map (code n) clauses) i d) (get_or (map (code n) clauses) j d) ≡ false
codes_apart n clauses over once apart i j d before within =
    let to : j < length clauses = omega (arith, length-map clauses (code n)) in
    let from : i < length clauses = omega arith in
    let a = get_or clauses i [] in
    let b = get_or clauses j [] in
    ne_eqb _ _ (λ e. apart i j [] before to
    (IsAlike-code n a b
    (All-get_or (IsOver n) clauses i [] from over)
    (All-get_or (IsOver n) clauses j [] to over)
    (All-get_or HoldsNoVariableTwice clauses i [] from once)
    (All-get_or HoldsNoVariableTwice clauses j [] to once)
    (sym (get_or-map (code n) clauses i [] d from) ∙ e ∙ get_or-map (code n) clauses j [] d to)))

-- clauses over n variables, each without a variable twice and no two alike, are at most 3 ^ n
pub clause_count : (n : ℕ) (clauses : List (List SatLit)) → All (IsOver n) clauses → All HoldsNoVariableTwice clauses
    → AllPairs (λ a b. ¬ IsAlike a b) clauses → length clauses ≤ 3 ^ n
clause_count n clauses over once apart =
    let codes = map (code n) clauses in
    let distinct : IsDistinct eqb codes = IsDistinct-from_apart eqb codes (codes_apart n clauses over once apart) in
    let counted : length codes ≤ 3 ^ n = length-le_from_distinct_below codes (3 ^ n) distinct (codes_below n clauses) in
    omega (arith, length-map clauses (code n))
