-- Clauses of numbers are unsatisfiable where the clauses that they stand for are.
use Rattle.std.specs.Prelude.{◌≡◌, ◌<◌, ◌==◌, ℕ, zero, suc, Bool, true, false, not, ◌||◌, ◌&&◌, ◌≤◌, nat_eq, nat_lt, List, [], ◌∷◌, map, length, refl, if◌then◌else◌}
use Rattle.std.specs.Bool.{beq}
use Rattle.std.specs.List.{list_any, Any}
use Rattle.std.proofs.Common.{sym, ap, ◌∙◌, ◌⊎◌, inl, inr, arith}
use Rattle.std.proofs.lemmas.Bool.{cases_order, ne_eqb, eq-eqb, ltb-true, ltb-false}
use Rattle.std.proofs.lemmas.List.Folds.{Any-from_list_any, list_any-from_Any}
use Rattle.stt_core.specs.Lambda.{Lambda}
use Rattle.stt_core.specs.SameTerm.{same_term}
use Rattle.stt_core.proofs.SameTerms.{same_term-true, same_term-of}
use Rattle.tableau_calculus.specs.Kinds.{same_sign, formulas}
use Rattle.sat_base.specs.declared.literal.Var.{Var}
use Rattle.sat_base.specs.declared.literal.SatLit.{SatLit}
use Rattle.sat_base.specs.Truth.{literal_value, clause_value, only, Unsat}
use Rattle.search_spec.specs.Unsatisfiable.{is_true_where, is_false, Unsatisfiable}
use Rattle.search_spec.specs.Numbered.{numbers, atom_at, literal_at, IsNumber, AreApart}
use Rattle.tableau_calculus.specs.Each.{Each}
use Rattle.search_spec.proofs.NamingLaws.{StandFor, either, pick}

turned : (p q a : Bool) → (same_sign p q && a) ≡ (a && beq p q)
turned true true true = refl
turned true true false = refl
turned true false true = refl
turned true false false = refl
turned false true true = refl
turned false true false = refl
turned false false true = refl
turned false false false = refl

-- whether two numbers have the same atom
pub same_atom : (atoms : List Lambda) → AreApart atoms → (i j : ℕ) → i < length atoms → j < length atoms → same_term (atom_at atoms i) (atom_at atoms j) ≡ nat_eq i j
same_atom atoms apart i j h k = by_test (same_term (atom_at atoms i) (atom_at atoms j)) refl
  where
    by_test : (b : Bool) → same_term (atom_at atoms i) (atom_at atoms j) ≡ b → b ≡ nat_eq i j
    by_test true e = sym (eq-eqb i j (apart i j h k (same_term-true (atom_at atoms i) (atom_at atoms j) e)))
    by_test false e = sym (ne_eqb i j (λ q. other (same_term-of (atom_at atoms i) (atom_at atoms j) (ap (atom_at atoms) q)) e))
      where
        other : same_term (atom_at atoms i) (atom_at atoms j) ≡ true → same_term (atom_at atoms i) (atom_at atoms j) ≡ false → ⊥
        other f g = cc

-- numbers stand for formulas
pub numbers_stand : (atoms : List Lambda) → AreApart atoms → StandFor numbers formulas (IsNumber atoms) (literal_at atoms)
numbers_stand atoms apart = record {
  opposite_is_good = λ k g. g;
  opposites = λ k g. refl;
  sames = λ k l g h. turned k.positive l.positive (same_term (atom_at atoms k.var.0) (atom_at atoms l.var.0)) ∙ ap (λ b. b && beq k.positive l.positive) (same_atom atoms apart k.var.0 l.var.0 g h);
}

-- each atom is one of the true formulas where its number is one of the true variables
abbrev SameValues : List Lambda → List Var → List Lambda → Type 0
SameValues atoms vars terms = (n : ℕ) → n < length atoms → list_any (same_term (atom_at atoms n)) terms ≡ list_any (λ w. n == w.0) vars

value_turned : (b p : Bool) → (if b then p else not p) ≡ (if p then b else not b)
value_turned true true = refl
value_turned true false = refl
value_turned false true = refl
value_turned false false = refl

value_is : (atoms : List Lambda) (vars : List Var) (terms : List Lambda) → SameValues atoms vars terms → (l : SatLit) → IsNumber atoms l → is_true_where terms (literal_at atoms l) ≡ literal_value (only vars) l
value_is atoms vars terms same l g =
    ap (λ b. if b then l.positive else not l.positive) (same l.var.0 g) ∙ value_turned (list_any (λ w. l.var.0 == w.0) vars) l.positive

clause_is : (atoms : List Lambda) (vars : List Var) (terms : List Lambda) → SameValues atoms vars terms → (c : List SatLit) → Each (IsNumber atoms) c → list_any (is_true_where terms) (map (literal_at atoms) c) ≡ clause_value (only vars) c
clause_is atoms vars terms same [] g = refl
clause_is atoms vars terms same (l ∷ c) g = either (value_is atoms vars terms same l g.0) (clause_is atoms vars terms same c g.1)

clauses_are : (atoms : List Lambda) (vars : List Var) (terms : List Lambda) → SameValues atoms vars terms → (cs : List (List SatLit)) → Each (Each (IsNumber atoms)) cs → list_any (is_false terms) (map (map (literal_at atoms)) cs) ≡ list_any (λ c. not (clause_value (only vars) c)) cs
clauses_are atoms vars terms same [] g = refl
clauses_are atoms vars terms same (c ∷ cs) g = either (ap not (clause_is atoms vars terms same c g.0)) (clauses_are atoms vars terms same cs g.1)

-- the variables below k whose atoms are among the formulas
abbrev vars_below : List Lambda → List Lambda → ℕ → List Var
vars_below atoms terms zero = []
vars_below atoms terms (suc k) = pick (list_any (same_term (atom_at atoms k)) terms) (record { 0 = k } ∷ vars_below atoms terms k) (vars_below atoms terms k)

-- another number in front changes nothing
passed : (n k : ℕ) (b : Bool) (rest : List Var) → (n ≡ k → ⊥) → list_any (λ w. n == w.0) (pick b (record { 0 = k } ∷ rest) rest) ≡ list_any (λ w. n == w.0) rest
passed n k true rest h = ap (λ t. t || list_any (λ w. n == w.0) rest) (ne_eqb n k h)
passed n k false rest h = refl

-- the number in front decides
met : (n k : ℕ) (b : Bool) (rest : List Var) → n ≡ k → list_any (λ w. n == w.0) rest ≡ false → b ≡ list_any (λ w. n == w.0) (pick b (record { 0 = k } ∷ rest) rest)
met n k true rest e h = sym (ap (λ t. t || list_any (λ w. n == w.0) rest) (eq-eqb n k e))
met n k false rest e h = sym h

above : (atoms terms : List Lambda) (k n : ℕ) → k ≤ n → list_any (λ w. n == w.0) (vars_below atoms terms k) ≡ false
above atoms terms zero n h = refl
above atoms terms (suc k) n h =
    passed n k (list_any (same_term (atom_at atoms k)) terms) (vars_below atoms terms k) (λ e. omega (arith, h, e)) ∙ above atoms terms k n (omega (arith, h))

below_step : (atoms terms : List Lambda) (k n : ℕ) → n < suc k → (n < k → list_any (same_term (atom_at atoms n)) terms ≡ list_any (λ w. n == w.0) (vars_below atoms terms k)) → (n ≡ k) ⊎ ((n < k) ⊎ (k < n)) → list_any (same_term (atom_at atoms n)) terms ≡ list_any (λ w. n == w.0) (vars_below atoms terms (suc k))
below_step atoms terms k n h lower (inl e) =
    ap (λ m. list_any (same_term (atom_at atoms m)) terms) e ∙ met n k (list_any (same_term (atom_at atoms k)) terms) (vars_below atoms terms k) e (above atoms terms k n (omega (arith, e)))
below_step atoms terms k n h lower (inr (inl l)) = lower l ∙ sym (passed n k (list_any (same_term (atom_at atoms k)) terms) (vars_below atoms terms k) (λ e. omega (arith, l, e)))
below_step atoms terms k n h lower (inr (inr l)) = absurd (omega (arith, h, l))

below : (atoms terms : List Lambda) (k n : ℕ) → n < k → list_any (same_term (atom_at atoms n)) terms ≡ list_any (λ w. n == w.0) (vars_below atoms terms k)
below atoms terms zero n h = absurd (omega (arith, h))
below atoms terms (suc k) n h = below_step atoms terms k n h (λ l. below atoms terms k n l) (cases_order n k)

-- the atoms of the variables that have one
abbrev atoms_of : List Lambda → List Var → List Lambda
atoms_of atoms [] = []
atoms_of atoms (w ∷ ws) = pick (nat_lt w.0 (length atoms)) (atom_at atoms w.0 ∷ atoms_of atoms ws) (atoms_of atoms ws)

one_of : (atoms : List Lambda) → AreApart atoms → (w : Var) (ws : List Var) (n : ℕ) → n < length atoms → (b : Bool) → nat_lt w.0 (length atoms) ≡ b → list_any (same_term (atom_at atoms n)) (atoms_of atoms ws) ≡ list_any (λ v. n == v.0) ws → list_any (same_term (atom_at atoms n)) (pick b (atom_at atoms w.0 ∷ atoms_of atoms ws) (atoms_of atoms ws)) ≡ ((n == w.0) || list_any (λ v. n == v.0) ws)
one_of atoms apart w ws n h true e same = either (same_atom atoms apart n w.0 h (ltb-true w.0 (length atoms) e)) same
one_of atoms apart w ws n h false e same = same ∙ sym (ap (λ t. t || list_any (λ v. n == v.0) ws) (ne_eqb n w.0 (λ d. omega (arith, h, d, ltb-false w.0 (length atoms) e))))

atoms_are : (atoms : List Lambda) → AreApart atoms → (vars : List Var) → SameValues atoms vars (atoms_of atoms vars)
atoms_are atoms apart [] n h = refl
atoms_are atoms apart (w ∷ ws) n h = one_of atoms apart w ws n h (nat_lt w.0 (length atoms)) refl (atoms_are atoms apart ws n h)

denied : (b : Bool) → b ≡ false → not b ≡ true
denied b e = ap not e

affirmed : (b : Bool) → not b ≡ true → b ≡ false
affirmed true e = sym e
affirmed false e = refl

-- Clauses of numbers are unsatisfiable exactly where the clauses that they stand for are.
pub unsatisfiable_formulas : (atoms : List Lambda) (cs : List (List SatLit)) → Each (Each (IsNumber atoms)) cs → Unsat cs → Unsatisfiable (map (map (literal_at atoms)) cs)
unsatisfiable_formulas atoms cs g unsat terms =
    clauses_are atoms (vars_below atoms terms (length atoms)) terms (λ n h. below atoms terms (length atoms) n h) cs g
    ∙ list_any-from_Any (λ c. not (clause_value (only (vars_below atoms terms (length atoms))) c)) cs (mapped (unsat (vars_below atoms terms (length atoms))))
  where
    mapped : Any (λ c. clause_value (only (vars_below atoms terms (length atoms))) c ≡ false) cs → Any (λ c. not (clause_value (only (vars_below atoms terms (length atoms))) c) ≡ true) cs
    mapped (k, c, l, e, f) = (k, c, l, e, denied (clause_value (only (vars_below atoms terms (length atoms))) c) f)

pub unsatisfiable_numbers : (atoms : List Lambda) → AreApart atoms → (cs : List (List SatLit)) → Each (Each (IsNumber atoms)) cs → Unsatisfiable (map (map (literal_at atoms)) cs) → Unsat cs
unsatisfiable_numbers atoms apart cs g unsat vars =
    mapped (Any-from_list_any (λ c. not (clause_value (only vars) c)) cs (sym (clauses_are atoms vars (atoms_of atoms vars) (atoms_are atoms apart vars) cs g) ∙ unsat (atoms_of atoms vars)))
  where
    mapped : Any (λ c. not (clause_value (only vars) c) ≡ true) cs → Any (λ c. clause_value (only vars) c ≡ false) cs
    mapped (k, c, l, e, f) = (k, c, l, e, affirmed (clause_value (only vars) c) f)
