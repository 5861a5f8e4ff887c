-- The rules that look at one principal and at nothing else.
use Rattle.std.proofs.Common.{◌≡◌, ℕ, zero, suc, ◌<◌, [], ◌∷◌, refl, sym, ap, ap₂, ◌∙◌, nat_eq, if◌then◌else◌, ◌⊎◌, inl, inr, ⊎_elim, arith}
use Rattle.stt_core.specs.SimpleType.{SimpleType, arrow, formula}
use Rattle.stt_core.specs.Lambda.{falsity, negation, Lambda, constant, app, imp, eq}
use Rattle.stt_core.specs.Typing.{Scope}
use Rattle.stt_core.specs.Canonical.{IsCanonical}
use Rattle.stt_core.specs.Meaning.{Model, value, IsModel}
use Rattle.stt_core.proofs.TypeLaws.{type_of-canonical}
use Rattle.stt_core.proofs.ConstantValues.{value-imp, bit}
use Rattle.tableau_calculus.specs.Each.{Each}
use Rattle.tableau_calculus.specs.Literals.{Literal, plus, minus, opposite, as_literal, IsLiteral, IsBranch}
use Rattle.tableau_calculus.specs.Meets.{MeetsLiteral, MeetsOne}
use Rattle.tableau_calculus.specs.Rules.{Alone, false_alone, refl_alone, imp_pos_alone, imp_neg_alone, bool_pos_alone, bool_neg_alone, fun_pos_alone, fun_neg_alone, Alternatives, imp_pos, imp_neg, bool_pos, bool_neg, fun_pos, fun_neg, agreement}
use Rattle.tableau_calculus.specs.declared.rule_use.OnePlace.{OnePlace}
use Rattle.tableau_calculus.specs.declared.rule_use.OnePlace.TheVariants.{False, Refl, ImpPos, ImpNeg, BoolPos, BoolNeg, FunPos, FunNeg, AllNeg, Dec}
use Rattle.tableau_calculus.proofs.LiteralLaws.{imp_canonical, value-bit, as_literal-says, as_literal-is_literal, opposite-is_literal}
use Rattle.tableau_calculus.proofs.FunctionLaws.{canonical-agreement, value-agreement}
use Rattle.tableau_calculus.proofs.EquationLaws.{eq_canonical, met-eq, met-differ}

-- ONE INSTANCE

-- what the table says of a rule, by the rule
abbrev pub AloneBy : OnePlace → Literal → Alternatives → Type 0
AloneBy False l as' = (l ≡ plus (constant falsity)) × (as' ≡ [])
AloneBy Refl l as' = (a : SimpleType) × (s : Lambda) × (l ≡ minus (eq a s s)) × (as' ≡ [])
AloneBy ImpPos l as' = (s : Lambda) × (t : Lambda) × (l ≡ plus (imp s t)) × (as' ≡ imp_pos s t)
AloneBy ImpNeg l as' = (s : Lambda) × (t : Lambda) × (l ≡ minus (imp s t)) × (as' ≡ imp_neg s t)
AloneBy BoolPos l as' = (s : Lambda) × (t : Lambda) × (l ≡ plus (eq formula s t)) × (as' ≡ bool_pos s t)
AloneBy BoolNeg l as' = (s : Lambda) × (t : Lambda) × (l ≡ minus (eq formula s t)) × (as' ≡ bool_neg s t)
AloneBy FunPos l as' = (a : SimpleType) × (b : SimpleType) × (s : Lambda) × (t : Lambda) × (l ≡ plus (eq (arrow a b) s t)) × (as' ≡ fun_pos a b s t)
AloneBy FunNeg l as' = (a : SimpleType) × (b : SimpleType) × (s : Lambda) × (t : Lambda) × (l ≡ minus (eq (arrow a b) s t)) × (as' ≡ fun_neg a b s t)
AloneBy AllNeg l as' = ⊥
AloneBy Dec l as' = ⊥

pub alone_by : (kind : OnePlace) (l : Literal) (as' : Alternatives) → Alone kind l as' → AloneBy kind l as'
alone_by _ _ _ false_alone = (refl, refl)
alone_by _ _ _ (refl_alone a s) = (a, s, refl, refl)
alone_by _ _ _ (imp_pos_alone s t) = (s, t, refl, refl)
alone_by _ _ _ (imp_neg_alone s t) = (s, t, refl, refl)
alone_by _ _ _ (bool_pos_alone s t) = (s, t, refl, refl)
alone_by _ _ _ (bool_neg_alone s t) = (s, t, refl, refl)
alone_by _ _ _ (fun_pos_alone a b s t) = (a, b, s, t, refl, refl)
alone_by _ _ _ (fun_neg_alone a b s t) = (a, b, s, t, refl, refl)

pub one_alone : (kind : OnePlace) (l : Literal) (as' bs : Alternatives) → AloneBy kind l as' → AloneBy kind l bs → as' ≡ bs
one_alone False l as' bs h k = h.1 ∙ sym k.1
one_alone Refl l as' bs h k = h.3 ∙ sym k.3
one_alone ImpPos l as' bs h k =
    let e : plus (imp h.0 h.1) ≡ plus (imp k.0 k.1) = sym h.2 ∙ k.2 in
    let x : imp h.0 h.1 ≡ imp k.0 k.1 = ap (λ y. y.atom) e in
    let s : h.0 ≡ k.0 = cc in
    let t : h.1 ≡ k.1 = cc in
    h.3 ∙ ap₂ imp_pos s t ∙ sym k.3
one_alone ImpNeg l as' bs h k =
    let e : minus (imp h.0 h.1) ≡ minus (imp k.0 k.1) = sym h.2 ∙ k.2 in
    let x : imp h.0 h.1 ≡ imp k.0 k.1 = ap (λ y. y.atom) e in
    let s : h.0 ≡ k.0 = cc in
    let t : h.1 ≡ k.1 = cc in
    h.3 ∙ ap₂ imp_neg s t ∙ sym k.3
one_alone BoolPos l as' bs h k =
    let e : plus (eq formula h.0 h.1) ≡ plus (eq formula k.0 k.1) = sym h.2 ∙ k.2 in
    let x : eq formula h.0 h.1 ≡ eq formula k.0 k.1 = ap (λ y. y.atom) e in
    let s : h.0 ≡ k.0 = cc in
    let t : h.1 ≡ k.1 = cc in
    h.3 ∙ ap₂ bool_pos s t ∙ sym k.3
one_alone BoolNeg l as' bs h k =
    let e : minus (eq formula h.0 h.1) ≡ minus (eq formula k.0 k.1) = sym h.2 ∙ k.2 in
    let x : eq formula h.0 h.1 ≡ eq formula k.0 k.1 = ap (λ y. y.atom) e in
    let s : h.0 ≡ k.0 = cc in
    let t : h.1 ≡ k.1 = cc in
    h.3 ∙ ap₂ bool_neg s t ∙ sym k.3
one_alone FunPos l as' bs h k =
    let e : plus (eq (arrow h.0 h.1) h.2 h.3) ≡ plus (eq (arrow k.0 k.1) k.2 k.3) = sym h.4 ∙ k.4 in
    let x : eq (arrow h.0 h.1) h.2 h.3 ≡ eq (arrow k.0 k.1) k.2 k.3 = ap (λ y. y.atom) e in
    let a : h.0 ≡ k.0 = cc in
    let b : h.1 ≡ k.1 = cc in
    let s : h.2 ≡ k.2 = cc in
    let t : h.3 ≡ k.3 = cc in
    h.5 ∙ ap₂ (λ y z. fun_pos y z h.2 h.3) a b ∙ ap₂ (fun_pos k.0 k.1) s t ∙ sym k.5
one_alone FunNeg l as' bs h k =
    let e : minus (eq (arrow h.0 h.1) h.2 h.3) ≡ minus (eq (arrow k.0 k.1) k.2 k.3) = sym h.4 ∙ k.4 in
    let x : eq (arrow h.0 h.1) h.2 h.3 ≡ eq (arrow k.0 k.1) k.2 k.3 = ap (λ y. y.atom) e in
    let a : h.0 ≡ k.0 = cc in
    let b : h.1 ≡ k.1 = cc in
    let s : h.2 ≡ k.2 = cc in
    let t : h.3 ≡ k.3 = cc in
    h.5 ∙ ap₂ (λ y z. fun_neg y z h.2 h.3) a b ∙ ap₂ (fun_neg k.0 k.1) s t ∙ sym k.5
one_alone AllNeg l as' bs h k = absurd h
one_alone Dec l as' bs h k = absurd h

-- LITERALS

module _ (scope : Scope) where
  lit : (t : Lambda) → IsCanonical scope [] formula t → IsLiteral scope (as_literal t)
  lit t h = as_literal-is_literal scope t h

  denied : (t : Lambda) → IsCanonical scope [] formula t → IsLiteral scope (opposite (as_literal t))
  denied t h = opposite-is_literal scope (as_literal t) (as_literal-is_literal scope t h)

  -- what the alternatives hold are literals
  pub alone_typed : (kind : OnePlace) (l : Literal) (as' : Alternatives) → Alone kind l as' → IsLiteral scope l → Each (IsBranch scope) as'
  alone_typed _ _ _ false_alone typed = tt
  alone_typed _ _ _ (refl_alone a s) typed = tt
  alone_typed _ _ _ (imp_pos_alone s t) typed =
      let sides = imp_canonical scope s t typed.formula in
      ((denied s sides.0, tt), ((lit t sides.1, tt), tt))
  alone_typed _ _ _ (imp_neg_alone s t) typed =
      let sides = imp_canonical scope s t typed.formula in
      ((lit s sides.0, (denied t sides.1, tt)), tt)
  alone_typed _ _ _ (bool_pos_alone s t) typed =
      let sides = eq_canonical scope formula s t typed.formula in
      ((lit s sides.left, (lit t sides.right, tt)), ((denied s sides.left, (denied t sides.right, tt)), tt))
  alone_typed _ _ _ (bool_neg_alone s t) typed =
      let sides = eq_canonical scope formula s t typed.formula in
      ((lit s sides.left, (denied t sides.right, tt)), ((denied s sides.left, (lit t sides.right, tt)), tt))
  alone_typed _ _ _ (fun_pos_alone a b s t) typed =
      let c = canonical-agreement scope a b s t (eq_canonical scope (arrow a b) s t typed.formula) in
      ((lit (agreement a b s t) c, tt), tt)
  alone_typed _ _ _ (fun_neg_alone a b s t) typed =
      let c = canonical-agreement scope a b s t (eq_canonical scope (arrow a b) s t typed.formula) in
      ((denied (agreement a b s t) c, tt), tt)

-- MODELS

imp_one : (x y : ℕ) → x < 2 → (if nat_eq x 1 then y else 1) ≡ 1 → (x ≡ 0) ⊎ (y ≡ 1)
imp_one zero y h e = inl refl
imp_one (suc zero) y h e = inr e
imp_one (suc (suc x)) y h e = absurd (omega arith)

imp_zero : (x y : ℕ) → x < 2 → (if nat_eq x 1 then y else 1) ≡ 0 → (x ≡ 1) × (y ≡ 0)
imp_zero zero y h e = absurd (omega arith)
imp_zero (suc zero) y h e = (refl, e)
imp_zero (suc (suc x)) y h e = absurd (omega arith)

module _ (scope : Scope) (m : Model) (good : IsModel scope m) where
  value-imp-canonical : (s t : Lambda) → IsCanonical scope [] formula (imp s t) → value scope m [] [] (imp s t) ≡ (if nat_eq (value scope m [] [] s) 1 then value scope m [] [] t else 1)
  value-imp-canonical s t h =
      let sides = imp_canonical scope s t h in
      value-imp scope m good [] [] tt s t (type_of-canonical scope [] formula s sides.0) (type_of-canonical scope [] formula t sides.1)

  -- a model that meets the principal meets one whole alternative
  pub alone_keeps : (kind : OnePlace) (l : Literal) (as' : Alternatives) → Alone kind l as' → IsLiteral scope l → MeetsLiteral scope m l → MeetsOne scope m as'
  alone_keeps _ _ _ false_alone typed met = absurd (omega (arith, met))
  alone_keeps _ _ _ (refl_alone a s) typed met = met-differ scope m good a s s (eq_canonical scope a s s typed.formula) met refl
  alone_keeps _ _ _ (imp_pos_alone s t) typed met =
      let sides = imp_canonical scope s t typed.formula in
      let v = imp_one (value scope m [] [] s) (value scope m [] [] t) (value-bit scope m good s sides.0) (sym (value-imp-canonical s t typed.formula) ∙ met) in
      ⊎_elim (λ e. inl ((as_literal-says scope m good s sides.0).at_zero e, tt)) (λ e. inr (inl ((as_literal-says scope m good t sides.1).at_one e, tt))) v
  alone_keeps _ _ _ (imp_neg_alone s t) typed met =
      let sides = imp_canonical scope s t typed.formula in
      let v = imp_zero (value scope m [] [] s) (value scope m [] [] t) (value-bit scope m good s sides.0) (sym (value-imp-canonical s t typed.formula) ∙ met) in
      inl ((as_literal-says scope m good s sides.0).at_one v.0, ((as_literal-says scope m good t sides.1).at_zero v.1, tt))
  alone_keeps _ _ _ (bool_pos_alone s t) typed met =
      let sides = eq_canonical scope formula s t typed.formula in
      let v = met-eq scope m good formula s t sides met in
      let p = as_literal-says scope m good s sides.left in
      let q = as_literal-says scope m good t sides.right in
      ⊎_elim
      (λ z. inr (inl (p.at_zero z, (q.at_zero (sym v ∙ z), tt))))
      (λ o. inl (p.at_one o, (q.at_one (sym v ∙ o), tt)))
      (bit (value scope m [] [] s) (value-bit scope m good s sides.left))
  alone_keeps _ _ _ (bool_neg_alone s t) typed met =
      let sides = eq_canonical scope formula s t typed.formula in
      let apart = met-differ scope m good formula s t sides met in
      let p = as_literal-says scope m good s sides.left in
      let q = as_literal-says scope m good t sides.right in
      let bt = bit (value scope m [] [] t) (value-bit scope m good t sides.right) in
      ⊎_elim
      (λ z. ⊎_elim (λ y. absurd (apart (z ∙ sym y))) (λ o. inr (inl (p.at_zero z, (q.at_one o, tt)))) bt)
      (λ o. ⊎_elim (λ z. inl (p.at_one o, (q.at_zero z, tt))) (λ y. absurd (apart (o ∙ sym y))) bt)
      (bit (value scope m [] [] s) (value-bit scope m good s sides.left))
  alone_keeps _ _ _ (fun_pos_alone a b s t) typed met =
      let sides = eq_canonical scope (arrow a b) s t typed.formula in
      let v = met-eq scope m good (arrow a b) s t sides met in
      inl ((as_literal-says scope m good (agreement a b s t) (canonical-agreement scope a b s t sides)).at_one ((value-agreement scope m good a b s t sides).1 v), tt)
  alone_keeps _ _ _ (fun_neg_alone a b s t) typed met =
      let sides = eq_canonical scope (arrow a b) s t typed.formula in
      let apart = met-differ scope m good (arrow a b) s t sides met in
      let c = canonical-agreement scope a b s t sides in
      let zero_there : value scope m [] [] (agreement a b s t) ≡ 0 = ⊎_elim (λ z. z) (λ o. absurd (apart ((value-agreement scope m good a b s t sides).0 o))) (bit (value scope m [] [] (agreement a b s t)) (value-bit scope m good (agreement a b s t) c)) in
      inl ((as_literal-says scope m good (agreement a b s t) c).at_zero zero_there, tt)

-- PARTS

-- what is true of a connective's formula or an equation is true of its sides
pub record IsOfParts (P : Lambda → Type 0) : Type 0 where
  pub negations : (s : Lambda) → P (app (constant negation) s) → P s
  pub implications : (s t : Lambda) → P (imp s t) → P s × P t
  pub equations : (a : SimpleType) (s t : Lambda) → P (eq a s t) → P s × P t

module _ (P : Lambda → Type 0) (parts : IsOfParts P) where
  abbrev Of : Literal → Type 0
  Of l = P l.atom

  pub literal-of : (t : Lambda) → P t → P (as_literal t).atom
  literal-of (app (constant negation) s) h = literal-of s (parts.negations s h)
  literal-of t h = h

  -- What each literal of the alternatives has where the principal has it, unless these say that functions agree. Of those this is given.
  module _ (Q : Alternatives → Type 0) (all : (as' : Alternatives) → Each (Each Of) as' → Q as') (agreed : (a b : SimpleType) (s t : Lambda) → P (eq (arrow a b) s t) → Q (fun_pos a b s t) × Q (fun_neg a b s t)) where
    pub alone_parts : (kind : OnePlace) (l : Literal) (as' : Alternatives) → Alone kind l as' → P l.atom → Q as'
    alone_parts _ _ _ false_alone h = all [] tt
    alone_parts _ _ _ (refl_alone a s) h = all [] tt
    alone_parts _ _ _ (imp_pos_alone s t) h =
        let sides = parts.implications s t h in
        all (imp_pos s t) ((literal-of s sides.0, tt), ((literal-of t sides.1, tt), tt))
    alone_parts _ _ _ (imp_neg_alone s t) h =
        let sides = parts.implications s t h in
        all (imp_neg s t) ((literal-of s sides.0, (literal-of t sides.1, tt)), tt)
    alone_parts _ _ _ (bool_pos_alone s t) h =
        let sides = parts.equations formula s t h in
        all (bool_pos s t) ((literal-of s sides.0, (literal-of t sides.1, tt)), ((literal-of s sides.0, (literal-of t sides.1, tt)), tt))
    alone_parts _ _ _ (bool_neg_alone s t) h =
        let sides = parts.equations formula s t h in
        all (bool_neg s t) ((literal-of s sides.0, (literal-of t sides.1, tt)), ((literal-of s sides.0, (literal-of t sides.1, tt)), tt))
    alone_parts _ _ _ (fun_pos_alone a b s t) h = (agreed a b s t h).0
    alone_parts _ _ _ (fun_neg_alone a b s t) h = (agreed a b s t h).1
