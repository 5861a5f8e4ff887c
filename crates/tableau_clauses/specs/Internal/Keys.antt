-- Clauses as keys: what of them is hashed, and that the test decides whether they are one list.
use Rattle.std.specs.Prelude.{◌≡◌, ◌&&◌, ◌+◌, ◌*◌, ◌%◌, ◌^◌, fold, ℕ, Bool, true, false, List, [], ◌∷◌, map, nat_eq, ◌==◌, refl, if◌then◌else◌}
use Rattle.std.specs.Bool.{Decides}
use Rattle.std.specs.Cmp.Lexicographic.{pointwise}
use Rattle.std.specs.Hash as fed
use Rattle.std.specs.Hash.{HashWrites}
use Rattle.std.proofs.Common.{ap, ap₂, ◌∙◌, sym, inl, inr}
use Rattle.std.proofs.lemmas.Bool.{cases_Bool, eqb-true, eqb-false, false_from_ne_true}
use Rattle.sat_base.specs.declared.literal.SatLit.{SatLit}
use Rattle.sat_base.specs.Literal.{same_literal}
use Rattle.sat_base.proofs.LiteralLaws.{same_literal-true, same_literal-refl}
use Rattle.sat_laws.specs.Internal.Packing.{packed, unpacked}
use Rattle.sat_laws.proofs.PackingLaws.{packed-unpacked}
use Rattle.search_spec.specs.Clauses.{same_clause}
use Rattle.search_spec.specs.Numbered.{numbers}

-- a number of 64 bits from one and the next literal's number. The factor is the odd number next to 2^64 over the golden ratio.
abbrev pub joined : ℕ → ℕ → ℕ
joined x y = ((((x * 11400714819323198485) % 2 ^ 64) + y) % 2 ^ 64 + 1) % 2 ^ 64

-- a number of 64 bits for a clause
abbrev pub clause_number : List SatLit → ℕ
clause_number c = fold joined 0 (map packed c)

abbrev pub clause_writes : List SatLit → HashWrites
clause_writes c = fed.u64 (clause_number c)

same-true : (a b : List SatLit) → same_clause numbers a b ≡ true → a ≡ b
same-true [] [] h = refl
same-true [] (k ∷ ks) h = cc
same-true (l ∷ ls) [] h = cc
same-true (l ∷ ls) (k ∷ ks) h = go (same_literal l k) refl (same-true ls ks) h
  where
    go :
        (b : Bool)
        → same_literal l k ≡ b
        → (same_clause numbers ls ks ≡ true → ls ≡ ks)
        → (if b then same_clause numbers ls ks else false) ≡ true
        → l ∷ ls ≡ k ∷ ks
    go true e rest g = ap₂ (λ x xs. x ∷ xs) (same_literal-true l k e) (rest g)
    go false e rest g = cc

same-refl : (a : List SatLit) → same_clause numbers a a ≡ true
same-refl [] = refl
same-refl (l ∷ ls) = ap (λ (b : Bool). if b then same_clause numbers ls ls else false) (same_literal-refl l) ∙ same-refl ls

pub clause_decides : (a b : List SatLit) → Decides (same_clause numbers a b) (a ≡ b)
clause_decides a b = (same-true a b, λ e. ap (same_clause numbers a) (sym e) ∙ same-refl a)

-- two literals are one where their numbers are
same_code : (n m : ℕ) → (n == m) ≡ same_literal (unpacked n) (unpacked m)
same_code n m = elim (cases_Bool (n == m)) [
  | inl same ↦ same
      ∙ sym (ap (λ (k : ℕ). same_literal (unpacked n) (unpacked k)) (sym (eqb-true n m same)) ∙ same_literal-refl (unpacked n))
  | inr apart ↦ apart ∙ sym (false_from_ne_true (same_literal (unpacked n) (unpacked m)) (λ t.
      eqb-false n m apart (sym (packed-unpacked n) ∙ ap packed (same_literal-true (unpacked n) (unpacked m) t) ∙ packed-unpacked m)))
]

-- the test of lists of numbers, number by number, is that of clauses
pub pointwise-same : (ns ms : List ℕ) → pointwise nat_eq ns ms ≡ same_clause numbers (map unpacked ns) (map unpacked ms)
pointwise-same [] [] = refl
pointwise-same [] (m ∷ ms) = refl
pointwise-same (n ∷ ns) [] = refl
pointwise-same (n ∷ ns) (m ∷ ms) =
    ap (λ (b : Bool). b && pointwise nat_eq ns ms) (same_code n m) ∙ go (same_literal (unpacked n) (unpacked m)) (pointwise-same ns ms)
  where
    go : (b : Bool) → pointwise nat_eq ns ms ≡ same_clause numbers (map unpacked ns) (map unpacked ms)
        → (b && pointwise nat_eq ns ms) ≡ (if b then same_clause numbers (map unpacked ns) (map unpacked ms) else false)
    go true rest = rest
    go false rest = refl

-- the numbers of a clause's literals by their numbers
pub numbers-back : (ns : List ℕ) → map packed (map unpacked ns) ≡ ns
numbers-back [] = refl
numbers-back (n ∷ ns) = ap₂ (λ (k : ℕ) (ks : List ℕ). k ∷ ks) (packed-unpacked n) (numbers-back ns)
