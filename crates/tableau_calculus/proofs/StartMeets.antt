-- The start of a problem: its literals are typed, name no witness, and are met by the problem's models.
use Rattle.std.proofs.Common.{◌≡◌, ℕ, zero, suc, ◌<◌, List, [], ◌∷◌, ◌++◌, map, Option, Some, None, IfSome, Contains, ⊎_elim, refl, sym, subst, ◌∙◌, arith}
use Rattle.std.specs.List.{AllByRecursion as Every}
use Rattle.stt_core.specs.SimpleType.{SimpleType, base, arrow, formula}
use Rattle.stt_core.specs.Lambda.{Constant, name, witness, falsity, negation, implication, all, equality, choice, description, Lambda, bound, constant, lam, app}
use Rattle.stt_core.specs.Typing.{Scope, constant_type}
use Rattle.stt_core.specs.Canonical.{IsCanonical, IsNeutral}
use Rattle.stt_core.specs.Meaning.{Model, IsModel, value}
use Rattle.stt_core.specs.Meets.{MeetsFormula, MeetsFormulas, Refutes, MeetsProblem}
use Rattle.stt_core.specs.Declarations.{scope_of}
use Rattle.stt_core.specs.PlainProblem.{PlainProblem}
use Rattle.stt_core.specs.TypedProblem.{IsFormula, AreFormulas, IsFormulaIfThere, IsTyped}
use Rattle.normal_forms.specs.Normal.{normal_form}
use Rattle.normal_forms.proofs.NormalValues.{canonical-normal_form, value-normal_form}
use Rattle.tableau_calculus.specs.Literals.{Literal, opposite, as_literal, IsLiteral, IsBranch}
use Rattle.tableau_calculus.specs.Witnesses.{IsNoWitness, NamesNoWitness, NoneNamesWitness}
use Rattle.tableau_calculus.specs.Meets.{MeetsLiteral, MeetsBranch}
use Rattle.tableau_calculus.specs.Start.{normal_literal, denied, start}
use Rattle.tableau_calculus.specs.Kinds.{added, formulas}
use Rattle.tableau_calculus.proofs.AddedLaws.{contains_cases-added}
use Rattle.tableau_calculus.proofs.ListLaws.{contains-first, contains-later, contains_cases, Each}
use Rattle.tableau_calculus.proofs.LiteralLaws.{as_literal-is_literal, opposite-is_literal, as_literal-says, value-bit}

every_each : {A : Type 0} (P : A → Type 0) (xs : List A) → Each P xs → Every P xs
every_each P [] h = tt
every_each P (x ∷ xs) h = (h x (contains-first x xs), every_each P xs (λ y k. h y (contains-later y x xs k)))

added_each : (P : Literal → Type 0) (ks : List Literal) → Every P ks → Every P (added formulas [] ks)
added_each P ks h = every_each P (added formulas [] ks) (λ l c. ⊎_elim (λ d. absurd (omega (arith, d.1))) (λ d. at_of ks h l d) (contains_cases-added [] ks l c))
  where
    at_of : (ls : List Literal) → Every P ls → (l : Literal) → Contains ls l → P l
    at_of [] e l d = absurd (omega (arith, d.1))
    at_of (k ∷ ls) e l d = contains_cases (P l) l k ls d (λ q. subst P q e.0) (λ r. at_of ls e.1 l r)

every_both : {A : Type 0} (P : A → Type 0) (xs ys : List A) → Every P xs → Every P ys → Every P (xs ++ ys)
every_both P [] ys h k = k
every_both P (x ∷ xs) ys h k = (h.0, every_both P xs ys h.1 k)

-- the property holds of the literals of these formulas, and of that of the denied one
module _ (scope : Scope) (Q : Lambda → Type 0) (P : Literal → Type 0) (of_literal : (t : Lambda) → Q t → P (normal_literal scope t)) (of_opposite : (t : Lambda) → Q t → P (opposite (normal_literal scope t))) where
  every_literal : (ts : List Lambda) (o : Option Lambda) → Every Q ts → IfSome o Q → Every P (map (normal_literal scope) ts ++ denied scope o)
  every_literal [] None h k = tt
  every_literal [] (Some t) h k = (of_opposite t k, tt)
  every_literal (t ∷ ts) o h k = (of_literal t h.0, every_literal ts o h.1 k)

pub every_start : (p : PlainProblem) (Q : Lambda → Type 0) (P : Literal → Type 0) → ((t : Lambda) → Q t → P (normal_literal (scope_of p.declared) t)) → ((t : Lambda) → Q t → P (opposite (normal_literal (scope_of p.declared) t))) → Every Q p.assumed → IfSome p.conjecture Q → Every P (start p)
every_start p Q P f g h k =
    let scope = scope_of p.declared in
    added_each P (map (normal_literal scope) p.assumed ++ denied scope p.conjecture) (every_literal scope Q P f g p.assumed p.conjecture h k)

none_named : (ls : List Literal) → Every (λ l. NamesNoWitness l.atom) ls → NoneNamesWitness ls
none_named [] h = tt
none_named (l ∷ ls) h = (h.0, none_named ls h.1)

is_branch : (scope : Scope) (ls : List Literal) → Every (IsLiteral scope) ls → IsBranch scope ls
is_branch scope [] h = tt
is_branch scope (l ∷ ls) h = (h.0, is_branch scope ls h.1)

meets_branch : (scope : Scope) (m : Model) (ls : List Literal) → Every (MeetsLiteral scope m) ls → MeetsBranch scope m ls
meets_branch scope m [] h = tt
meets_branch scope m (l ∷ ls) h = (h.0, meets_branch scope m ls h.1)

-- where no witness is declared, no typed term names one
unnamed_constant : (scope : Scope) (c : Constant) (a : SimpleType) → scope.witnesses ≡ [] → constant_type scope c ≡ Some a → IsNoWitness c
unnamed_constant scope (name k) a e h = tt
unnamed_constant scope (witness k) a e h = cc
unnamed_constant scope falsity a e h = tt
unnamed_constant scope negation a e h = tt
unnamed_constant scope implication a e h = tt
unnamed_constant scope (all b) a e h = tt
unnamed_constant scope (equality b) a e h = tt
unnamed_constant scope (choice b) a e h = tt
unnamed_constant scope (description b) a e h = tt

mutual
  unnamed-canonical : (scope : Scope) (ctx : List SimpleType) (a : SimpleType) (t : Lambda) → scope.witnesses ≡ [] → IsCanonical scope ctx a t → NamesNoWitness t
  unnamed-canonical scope ctx a (bound k) e h = tt
  unnamed-canonical scope ctx a (constant c) e h = unnamed_constant scope c a e h.1
  unnamed-canonical scope ctx a (app s u) e h = (unnamed-neutral scope ctx (arrow h.1.0 a) s e h.1.1, unnamed-canonical scope ctx h.1.0 u e h.1.2)
  unnamed-canonical scope ctx (base n) (lam c s) e h = absurd h.1
  unnamed-canonical scope ctx (arrow d b) (lam c s) e h = unnamed-canonical scope (c ∷ ctx) b s e h.1.1

  unnamed-neutral : (scope : Scope) (ctx : List SimpleType) (a : SimpleType) (t : Lambda) → scope.witnesses ≡ [] → IsNeutral scope ctx a t → NamesNoWitness t
  unnamed-neutral scope ctx a (bound k) e h = tt
  unnamed-neutral scope ctx a (constant c) e h = unnamed_constant scope c a e h
  unnamed-neutral scope ctx a (app s u) e h = (unnamed-neutral scope ctx (arrow h.0 a) s e h.1, unnamed-canonical scope ctx h.0 u e h.2)
  unnamed-neutral scope ctx a (lam c s) e h = absurd h

typed_each : (scope : Scope) (ts : List Lambda) → AreFormulas scope ts → Every (IsFormula scope) ts
typed_each scope [] h = tt
typed_each scope (t ∷ ts) h = (h.0, typed_each scope ts h.1)

typed_if_there : (scope : Scope) (o : Option Lambda) → IsFormulaIfThere scope o → IfSome o (IsFormula scope)
typed_if_there scope None h = tt
typed_if_there scope (Some t) h = h

module _ (p : PlainProblem) (typed : IsTyped p) where
  abbrev pub scope : Scope
  scope = scope_of p.declared

  normal-canonical : (t : Lambda) → IsFormula scope t → IsCanonical scope [] formula (normal_form scope [] t)
  normal-canonical t h = canonical-normal_form scope typed.scope [] formula t tt h

  of_start : (P : Literal → Type 0) → ((t : Lambda) → IsCanonical scope [] formula t → P (as_literal t)) → ((t : Lambda) → IsCanonical scope [] formula t → P (opposite (as_literal t))) → Every P (start p)
  of_start P f g =
      every_start p (IsFormula scope) P (λ t h. f (normal_form scope [] t) (normal-canonical t h)) (λ t h. g (normal_form scope [] t) (normal-canonical t h)) (typed_each scope p.assumed typed.assumed) (typed_if_there scope p.conjecture typed.conjecture)

  unnamed-literal : (t : Lambda) → IsCanonical scope [] formula t → NamesNoWitness (as_literal t).atom
  unnamed-literal t h = unnamed-canonical scope [] formula (as_literal t).atom refl (as_literal-is_literal scope t h).formula

  pub start_unnamed : NoneNamesWitness (start p)
  start_unnamed = none_named _ (of_start (λ l. NamesNoWitness l.atom) unnamed-literal unnamed-literal)

  pub start_typed : IsBranch scope (start p)
  start_typed = is_branch scope _ (of_start (IsLiteral scope) (as_literal-is_literal scope) (λ t h. opposite-is_literal scope (as_literal t) (as_literal-is_literal scope t h)))

  -- a model of the problem meets the start
  module _ (m : Model) (good : IsModel scope m) where
    normal-value : (t : Lambda) → IsFormula scope t → value scope m [] [] (normal_form scope [] t) ≡ value scope m [] [] t
    normal-value t h = value-normal_form scope typed.scope m good [] [] formula t tt h tt

    literal_met : (t : Lambda) → IsFormula scope t → MeetsFormula scope m t → MeetsLiteral scope m (normal_literal scope t)
    literal_met t h k = (as_literal-says scope m good (normal_form scope [] t) (normal-canonical t h)).at_one (normal-value t h ∙ k)

    literals_met : (ts : List Lambda) → AreFormulas scope ts → MeetsFormulas scope m ts → Every (MeetsLiteral scope m) (map (normal_literal scope) ts)
    literals_met [] h k = tt
    literals_met (t ∷ ts) h k = (literal_met t h.0 k.0, literals_met ts h.1 k.1)

    not_one : (v : ℕ) → v < 2 → (v ≡ 1 → ⊥) → v ≡ 0
    not_one zero l h = refl
    not_one (suc zero) l h = absurd (h refl)
    not_one (suc (suc v)) l h = absurd (omega arith)

    denied_met : (o : Option Lambda) → IsFormulaIfThere scope o → Refutes scope m o → Every (MeetsLiteral scope m) (denied scope o)
    denied_met None h k = tt
    denied_met (Some t) h k =
        let s = normal_form scope [] t in
        let v = value scope m [] [] s in
        ((as_literal-says scope m good s (normal-canonical t h)).at_zero (not_one v (value-bit scope m good s (normal-canonical t h)) (λ e. k (sym (normal-value t h) ∙ e))), tt)

    pub start_met : MeetsProblem p m → MeetsBranch scope m (start p)
    start_met h =
        meets_branch scope m _
        (added_each (MeetsLiteral scope m) (map (normal_literal scope) p.assumed ++ denied scope p.conjecture)
        (every_both (MeetsLiteral scope m) (map (normal_literal scope) p.assumed) (denied scope p.conjecture) (literals_met p.assumed typed.assumed h.assumed) (denied_met p.conjecture typed.conjecture h.conjecture)))
