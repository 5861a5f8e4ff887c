-- Facts about values of literals and clauses.
use Rattle.std.proofs.Common.{◌≡◌, suc, arith, ◌⊎◌, ◌||◌, not, cond, Bool, true, false, List, [], ◌∷◌, ◌++◌, map, refl, sym, ap, ap₂, ◌∙◌, subst, inl, inr, IsTrue}
use Rattle.std.specs.List.{list_any, filter, Any}
use Rattle.std.proofs.lemmas.Bool.{false≢true, or_cases, or_left, or_right, or_from, cases_Bool, false_from_ne_true}
use Rattle.std.proofs.lemmas.List.Folds.{list_any-append}
use Rattle.std.proofs.lemmas.List.Elements.{All-nil, All-cons, All-head, All-tail}
use Rattle.sat_base.specs.declared.literal.Var.{Var}
use Rattle.sat_base.specs.declared.literal.SatLit.{SatLit}
use Rattle.sat_base.specs.Literal.{negated, same_var, same_literal, holds}
use Rattle.sat_base.specs.Truth.{literal_value, clause_value, AllTrue, only, Unsat, Implies}
use Rattle.sat_base.proofs.LiteralLaws.{same_var-true, same_var-refl, same_literal-true, same_literal-refl}

-- a literal and its negation have opposite values
pub literal_value-negated : (value : Var → Bool) (l : SatLit) → literal_value value (negated l) ≡ not (literal_value value l)
literal_value-negated value l = go l.positive (value l.var)
  where
    go : (sign v : Bool) → cond (not sign) v (not v) ≡ not (cond sign v (not v))
    go true v = refl
    go false true = refl
    go false false = refl

-- a clause is true that holds a true literal
pub clause_value-held : (value : Var → Bool) (clause : List SatLit) (l : SatLit) → holds clause l ≡ true → literal_value value l ≡ true → clause_value value clause ≡ true
clause_value-held value [] l h t = absurd (false≢true h)
clause_value-held value (m ∷ clause) l h t =
    elim (or_cases (same_literal l m) (holds clause l) h) [
      | inl e ↦ or_left _ _ (subst (λ (k : SatLit). literal_value value k ≡ true) (same_literal-true l m e) t)
      | inr later ↦ or_right (literal_value value m) _ (clause_value-held value clause l later t)
    ]

-- a clause is true that holds each true literal of a true clause
pub clause_value-within : (value : Var → Bool) (a b : List SatLit) → ((l : SatLit) → holds a l ≡ true → literal_value value l ≡ true → holds b l ≡ true)
    → clause_value value a ≡ true → clause_value value b ≡ true
clause_value-within value [] b within t = absurd (false≢true t)
clause_value-within value (l ∷ a) b within t =
    elim (or_cases (literal_value value l) (clause_value value a) t) [
      | inl e ↦ clause_value-held value b l (within l (or_left _ _ (same_literal-refl l)) e) e
      | inr later ↦ clause_value-within value a b (λ m h. within m (or_right (same_literal m l) _ h)) later
    ]

-- a clause is false whose literals are all false
pub clause_value-false : (value : Var → Bool) (clause : List SatLit) → ((l : SatLit) → holds clause l ≡ true → literal_value value l ≡ false) → clause_value value clause ≡ false
clause_value-false value [] each = refl
clause_value-false value (l ∷ clause) each =
    or_from _ _ (each l (or_left _ _ (same_literal-refl l))) (clause_value-false value clause (λ m h. each m (or_right (same_literal m l) _ h)))

-- either all of the clauses are true, or one is false
pub true_or_false : (value : Var → Bool) (clauses : List (List SatLit)) → AllTrue value clauses ⊎ Any (λ clause. clause_value value clause ≡ false) clauses
true_or_false value [] = inl (All-nil (λ clause. IsTrue (clause_value value clause)))
true_or_false value (clause ∷ clauses) =
    elim (cases_Bool (clause_value value clause)) [
      | inr f ↦ inr (0, clause, omega arith, refl, f)
      | inl t ↦ elim (true_or_false value clauses) [
        | inl all ↦ inl (All-cons (λ c. IsTrue (clause_value value c)) clause clauses t all)
        | inr some ↦ inr (suc some.0, some.1, omega arith, some.3, some.4)
      ]
    ]

-- not both
pub not_true_and_false : (value : Var → Bool) (clauses : List (List SatLit)) → AllTrue value clauses → Any (λ clause. clause_value value clause ≡ false) clauses → ⊥
not_true_and_false value clauses all some =
    false≢true (sym some.4 ∙ subst (λ c. clause_value value c ≡ true) some.3 (all some.0 some.1 some.2))

-- clauses are unsatisfiable exactly where they imply the empty clause
pub unsat_from_empty : (clauses : List (List SatLit)) → Implies clauses [] → Unsat clauses
unsat_from_empty clauses implied atoms =
    elim (true_or_false (only atoms) clauses) [ inl all ↦ absurd (false≢true (implied atoms all)) | inr some ↦ some ]

pub empty_from_unsat : (clauses : List (List SatLit)) → Unsat clauses → Implies clauses []
empty_from_unsat clauses unsat atoms all = absurd (not_true_and_false (only atoms) clauses all (unsat atoms))

-- the variables of some clauses
abbrev variables : List (List SatLit) → List Var
variables [] = []
variables (clause ∷ clauses) = map (λ l. l.var) clause ++ variables clauses

-- among some variables, those of which a test is true are the true ones
only-filter_false : (value : Var → Bool) (vars : List Var) (v : Var) → value v ≡ false → only (filter value vars) v ≡ false
only-filter_false value [] v f = refl
only-filter_false value (w ∷ vars) v f =
    elim (cases_Bool (value w)) [
      | inr is_false ↦ rw is_false (only-filter_false value vars v f)
      | inl is_true ↦ rw is_true (or_from _ _
          (false_from_ne_true (same_var v w) (λ e. false≢true (sym f ∙ ap value (same_var-true v w e) ∙ is_true)))
          (only-filter_false value vars v f))
    ]

only-filter : (value : Var → Bool) (vars : List Var) (v : Var) → list_any (same_var v) vars ≡ true → only (filter value vars) v ≡ value v
only-filter value [] v h = absurd (false≢true h)
only-filter value (w ∷ vars) v h =
    elim (cases_Bool (value v)) [
      | inr is_false ↦ only-filter_false value (w ∷ vars) v is_false ∙ sym is_false
      | inl is_true ↦ elim (or_cases (same_var v w) (list_any (same_var v) vars) h) [
        | inl here ↦ rw (sym (ap value (same_var-true v w here)) ∙ is_true) (or_left _ _ here ∙ sym is_true)
        | inr later ↦ elim (cases_Bool (value w)) [
          | inl kept ↦ rw kept (or_right (same_var v w) _ (only-filter value vars v later ∙ is_true) ∙ sym is_true)
          | inr left ↦ rw left (only-filter value vars v later)
        ]
      ]
    ]

-- a clause has one value where its variables have
clause_value-agree : (value other : Var → Bool) (clause : List SatLit) → ((v : Var) → list_any (same_var v) (map (λ l. l.var) clause) ≡ true → value v ≡ other v) → clause_value value clause ≡ clause_value other clause
clause_value-agree value other [] agree = refl
clause_value-agree value other (l ∷ clause) agree =
    ap₂ ◌||◌
    (ap (λ (b : Bool). cond l.positive b (not b)) (agree l.var (or_left _ _ (same_var-refl l.var))))
    (clause_value-agree value other clause (λ v h. agree v (or_right (same_var v l.var) _ h)))

AllTrue-agree : (value other : Var → Bool) (clauses : List (List SatLit)) → ((v : Var) → list_any (same_var v) (variables clauses) ≡ true → value v ≡ other v) → AllTrue value clauses → AllTrue other clauses
AllTrue-agree value other [] agree all = All-nil (λ c. IsTrue (clause_value other c))
AllTrue-agree value other (clause ∷ clauses) agree all =
    let own = map (λ (l : SatLit). l.var) clause in
    let here = clause_value-agree value other clause (λ v h. agree v (list_any-append (same_var v) own (variables clauses) ∙ or_left _ _ h)) in
    All-cons (λ c. IsTrue (clause_value other c)) clause clauses
    (sym here ∙ All-head (λ c. IsTrue (clause_value value c)) clause clauses all)
    (AllTrue-agree value other clauses
    (λ v h. agree v (list_any-append (same_var v) own (variables clauses) ∙ or_right (list_any (same_var v) own) _ h))
    (All-tail (λ c. IsTrue (clause_value value c)) clause clauses all))

-- what is implied is true wherever the clauses are
pub implied_true : (clauses : List (List SatLit)) (clause : List SatLit) → Implies clauses clause → (value : Var → Bool) → AllTrue value clauses → clause_value value clause ≡ true
implied_true clauses clause implied value all =
    let atoms = filter value (variables (clause ∷ clauses)) in
    let own = map (λ (l : SatLit). l.var) clause in
    let agree : (v : Var) → list_any (same_var v) (variables (clause ∷ clauses)) ≡ true → value v ≡ only atoms v =
    λ v h. sym (only-filter value (variables (clause ∷ clauses)) v h) in
    let same = clause_value-agree value (only atoms) clause (λ v h. agree v (list_any-append (same_var v) own (variables clauses) ∙ or_left _ _ h)) in
    same ∙ implied atoms (AllTrue-agree value (only atoms) clauses (λ v h. agree v (list_any-append (same_var v) own (variables clauses) ∙ or_right (list_any (same_var v) own) _ h)) all)

-- clauses that are all true somewhere are not unsatisfiable
pub not_unsat : (clauses : List (List SatLit)) (value : Var → Bool) → AllTrue value clauses → ¬ Unsat clauses
not_unsat clauses value all unsat = false≢true (implied_true clauses [] (empty_from_unsat clauses unsat) value all)
