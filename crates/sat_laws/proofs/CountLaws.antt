-- How many clauses there are over a list of variables: as over the first variables, with the digits in the list's order.
use Rattle.std.proofs.Common.{◌≡◌, ℕ, ◌+◌, ◌*◌, ◌^◌, ◌<◌, ◌≤◌, true, false, List, [], ◌∷◌, length, map, get_or, eqb, sym, ap, ◌∙◌, inl, inr, arith}
use Rattle.std.specs.List.{list_any, All, AllPairs, IsDistinct}
use Rattle.std.proofs.Math.Nat.{pow-succ'}
use Rattle.std.proofs.lemmas.Bool.{false≢true, ne_eqb, eqb-true, or_cases, cases_Bool, false_from_ne_true}
use Rattle.std.proofs.lemmas.List.{get_or-map, length-map}
use Rattle.std.proofs.lemmas.List.Elements.{All-get_or}
use Rattle.std.proofs.lemmas.Map.Keys.{IsDistinct-from_apart}
use Rattle.std.proofs.lemmas.Map.Steps.{length-le_from_distinct_below}
use Rattle.sat_base.specs.declared.literal.Var.{Var}
use Rattle.sat_base.specs.declared.literal.SatLit.{SatLit}
use Rattle.sat_base.specs.Literal.{same_var, holds, HoldsNoVariableTwice, IsAlike}
use Rattle.sat_base.proofs.LiteralLaws.{sign_cases, same_var-true}
use Rattle.sat_base.proofs.CountLaws.{digit, digit-lt, same_literals}
use Rattle.sat_laws.specs.Internal.Counting.{IsAmong}

abbrev code : List Var → List SatLit → ℕ
code [] clause = 0
code (v ∷ variables) clause = digit clause v + 3 * code variables clause

code-lt : (variables : List Var) (clause : List SatLit) → code variables clause < 3 ^ length variables
code-lt [] clause = omega arith
code-lt (v ∷ variables) clause = rw pow-succ' (omega (arith, digit-lt clause v, code-lt variables clause))

-- equal numbers have equal digits
digits_agree : (variables : List Var) (a b : List SatLit) → code variables a ≡ code variables b → (v : Var) → list_any (same_var v) variables ≡ true → digit a v ≡ digit b v
digits_agree [] a b e v h = absurd (false≢true h)
digits_agree (w ∷ variables) a b e v h =
    let low = digit-lt a w in
    let high = digit-lt b w in
    elim (or_cases (same_var v w) (list_any (same_var v) variables) h) [
      | inl here ↦ let same : v ≡ w = same_var-true v w here in
          let digits : digit a w ≡ digit b w = omega arith in
          ap (digit a) same ∙ digits ∙ sym (ap (digit b) same)
      | inr later ↦ digits_agree variables a b (omega arith) v later
    ]

not_held : (variables : List Var) (clause : List SatLit) (l : SatLit) → IsAmong variables clause → list_any (same_var l.var) variables ≡ false → holds clause l ≡ false
not_held variables clause l among absent = false_from_ne_true (holds clause l) (λ h. false≢true (sym absent ∙ among l h))

-- clauses with one number are alike
IsAlike-code : (variables : List Var) (a b : List SatLit) → IsAmong variables a → IsAmong variables b → HoldsNoVariableTwice a → HoldsNoVariableTwice b
    → code variables a ≡ code variables b → IsAlike a b
IsAlike-code variables a b among_a among_b once_a once_b e l =
    elim (cases_Bool (list_any (same_var l.var) variables)) [
      | inl there ↦ let same = same_literals a b l.var once_a once_b (digits_agree variables a b e l.var there) in
          elim (sign_cases l) [
            | inl is ↦ rw is same.0
            | inr is ↦ rw is same.1
          ]
      | inr absent ↦ not_held variables a l among_a absent ∙ sym (not_held variables b l among_b absent)
    ]

codes_below : (variables : List Var) (clauses : List (List SatLit)) (q : ℕ) → list_any (eqb q) (map (code variables) clauses) ≡ true → q < 3 ^ length variables
codes_below variables [] q h = absurd (false≢true h)
codes_below variables (clause ∷ clauses) q h =
    elim (or_cases (eqb q (code variables clause)) _ h) [
      | inl e ↦ rw (eqb-true q (code variables clause) e) (code-lt variables clause)
      | inr t ↦ codes_below variables clauses q t
    ]

-- two places of the list have different numbers
codes_apart : (variables : List Var) (clauses : List (List SatLit)) → All (IsAmong variables) clauses → All HoldsNoVariableTwice clauses → AllPairs (λ a b. ¬ IsAlike a b) clauses
    → (i j d : ℕ) → i < j → j < length (map (code variables) clauses) → eqb (get_or (map (code variables) clauses) i d) (get_or (map (code variables) clauses) j d) ≡ false
codes_apart variables clauses among once apart i j d before within =
    let to : j < length clauses = omega (arith, length-map clauses (code variables)) in
    let from : i < length clauses = omega arith in
    let a = get_or clauses i [] in
    let b = get_or clauses j [] in
    ne_eqb _ _ (λ e. apart i j [] before to
    (IsAlike-code variables a b
    (All-get_or (IsAmong variables) clauses i [] from among)
    (All-get_or (IsAmong variables) clauses j [] to among)
    (All-get_or HoldsNoVariableTwice clauses i [] from once)
    (All-get_or HoldsNoVariableTwice clauses j [] to once)
    (sym (get_or-map (code variables) clauses i [] d from) ∙ e ∙ get_or-map (code variables) clauses j [] d to)))

-- clauses over n variables, each without a variable twice and no two alike, are at most 3 ^ n
pub clause_count : (variables : List Var) (clauses : List (List SatLit)) → All (IsAmong variables) clauses → All HoldsNoVariableTwice clauses
    → AllPairs (λ a b. ¬ IsAlike a b) clauses → length clauses ≤ 3 ^ length variables
clause_count variables clauses among once apart =
    let codes = map (code variables) clauses in
    let distinct : IsDistinct eqb codes = IsDistinct-from_apart eqb codes (codes_apart variables clauses among once apart) in
    let counted : length codes ≤ 3 ^ length variables = length-le_from_distinct_below codes (3 ^ length variables) distinct (codes_below variables clauses) in
    omega (arith, length-map clauses (code variables))
