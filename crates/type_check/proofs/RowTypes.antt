-- The types of the terms that stand for connectives and quantifiers.
use Rattle.std.proofs.Common.{◌≡◌, Bool, true, false, List, [], ◌∷◌, Some, None, refl, ap, ap₂, ◌∙◌, if◌then◌else◌}
use Rattle.std.proofs.lemmas.Bool.{and_parts, and_from}
use Rattle.stt_core.specs.SimpleType.{SimpleType, arrow, formula, predicate, is_declared}
use Rattle.stt_core.specs.Lambda.{Lambda, bound, constant, falsity, choice, description, lam, app, neg, imp, eq, every}
use Rattle.stt_core.specs.Typing.{Scope, IsScope, AreDeclared, type_of, applied_type}
use Rattle.stt_core.proofs.TypeLaws.{lambda_type, applied, constant_declared, get_declared, applies, abstracts}
use Rattle.thf_grammar.specs.declared.connective.Conn.{Conn}
use Rattle.thf_grammar.specs.declared.connective.Conn.TheVariants as conn
use Rattle.stt_core.specs.Lift.{lift}
use Rattle.stt_core.proofs.LiftLaws.{type_of-lift}
use Rattle.type_check.specs.Rows.{signed, truth_value, join, joining, operator_term, for_all, for_some, quantify}

module _ (scope : Scope) where
  -- the term has this type
  abbrev Has : List SimpleType → Lambda → SimpleType → Type 0
  Has ctx t a = type_of scope ctx t ≡ Some a

  pub neg-type : (ctx : List SimpleType) (s : Lambda) → Has ctx s formula → Has ctx (neg s) formula
  neg-type ctx s h = ap (applied_type (Some (arrow formula formula))) h

  imp-type : (ctx : List SimpleType) (s t : Lambda) → Has ctx s formula → Has ctx t formula → Has ctx (imp s t) formula
  imp-type ctx s t h k = ap₂ applied_type (ap (applied_type (Some (arrow formula (arrow formula formula)))) h) k

  where_declared-is : (a b : SimpleType) → is_declared scope.bases a ≡ true → (if is_declared scope.bases a then Some b else None) ≡ Some b
  where_declared-is a b d = ap (λ t. if t then Some b else None) d

  pub eq-type : (ctx : List SimpleType) (a : SimpleType) (s t : Lambda) → is_declared scope.bases a ≡ true → Has ctx s a → Has ctx t a → Has ctx (eq a s t) formula
  eq-type ctx a s t d h k =
      ap₂ applied_type (ap₂ applied_type (where_declared-is a (arrow a (predicate a)) d) h ∙ applied a (predicate a)) k ∙ applied a formula

  every-type : (ctx : List SimpleType) (a : SimpleType) (f : Lambda) → is_declared scope.bases a ≡ true → Has ctx f (predicate a) → Has ctx (every a f) formula
  every-type ctx a f d h = ap₂ applied_type (where_declared-is a (arrow (predicate a) formula) d) h ∙ applied (predicate a) formula

  pub lam-type : (ctx : List SimpleType) (a b : SimpleType) (s : Lambda) → is_declared scope.bases a ≡ true → Has (a ∷ ctx) s b → Has ctx (lam a s) (arrow a b)
  lam-type ctx a b s d h = lambda_type scope ctx (arrow a b) a s d (refl, h)

  pub choice-type : (ctx : List SimpleType) (a : SimpleType) (s : Lambda) → is_declared scope.bases a ≡ true → Has (a ∷ ctx) s formula → Has ctx (app (constant (choice a)) (lam a s)) a
  choice-type ctx a s d h =
      ap₂ applied_type (where_declared-is a (arrow (predicate a) a) d) (lam-type ctx a formula s d h) ∙ applied (predicate a) a

  pub description-type : (ctx : List SimpleType) (a : SimpleType) (s : Lambda) → is_declared scope.bases a ≡ true → Has (a ∷ ctx) s formula → Has ctx (app (constant (description a)) (lam a s)) a
  description-type ctx a s d h =
      ap₂ applied_type (where_declared-is a (arrow (predicate a) a) d) (lam-type ctx a formula s d h) ∙ applied (predicate a) a

  pub signed-type : (ctx : List SimpleType) (positive : Bool) (s : Lambda) → Has ctx s formula → Has ctx (signed positive s) formula
  signed-type ctx true s h = h
  signed-type ctx false s h = neg-type ctx s h

  pub truth_value-type : (ctx : List SimpleType) (value : Bool) → Has ctx (truth_value value) formula
  truth_value-type ctx true = neg-type ctx (constant falsity) refl
  truth_value-type ctx false = refl

  pub for_all-type : (ctx : List SimpleType) (a : SimpleType) (s : Lambda) → is_declared scope.bases a ≡ true → Has (a ∷ ctx) s formula → Has ctx (for_all a s) formula
  for_all-type ctx a s d h = every-type ctx a (lam a s) d (lam-type ctx a formula s d h)

  pub for_some-type : (ctx : List SimpleType) (a : SimpleType) (s : Lambda) → is_declared scope.bases a ≡ true → Has (a ∷ ctx) s formula → Has ctx (for_some a s) formula
  for_some-type ctx a s d h = neg-type ctx (for_all a (neg s)) (for_all-type ctx a (neg s) d (neg-type (a ∷ ctx) s h))

  pub quantify-type : (ctx : List SimpleType) (all : Bool) (a : SimpleType) (s : Lambda) → is_declared scope.bases a ≡ true → Has ctx s (predicate a) → Has ctx (quantify all a s) formula
  quantify-type ctx true a s d h = every-type ctx a s d h
  quantify-type ctx false a s d h =
      for_some-type ctx a (app (lift 0 s) (bound 0)) d
      (ap₂ applied_type (type_of-lift scope [] a ctx s ∙ h) refl ∙ applied a formula)

  module _ (over : IsScope scope) where
    pub formula-declared : is_declared scope.bases formula ≡ true
    formula-declared = constant_declared scope over falsity formula refl

    pub join-type : (ctx : List SimpleType) (c : Conn) (s t : Lambda) → Has ctx s formula → Has ctx t formula → Has ctx (join c s t) formula
    join-type ctx conn.Not s t h k = neg-type ctx t k
    join-type ctx conn.And s t h k = neg-type ctx (imp s (neg t)) (imp-type ctx s (neg t) h (neg-type ctx t k))
    join-type ctx conn.Or s t h k = imp-type ctx (neg s) t (neg-type ctx s h) k
    join-type ctx conn.Imp s t h k = imp-type ctx s t h k
    join-type ctx conn.If s t h k = imp-type ctx t s k h
    join-type ctx conn.Iff s t h k = eq-type ctx formula s t formula-declared h k
    join-type ctx conn.Xor s t h k = neg-type ctx (eq formula s t) (eq-type ctx formula s t formula-declared h k)
    join-type ctx conn.Nor s t h k = neg-type ctx (imp (neg s) t) (imp-type ctx (neg s) t (neg-type ctx s h) k)
    join-type ctx conn.Nand s t h k = imp-type ctx s (neg t) h (neg-type ctx t k)

    joining-type : (ctx : List SimpleType) (c : Conn) → Has ctx (joining c).term (joining c).type
    joining-type ctx c =
        let inside = join-type (formula ∷ formula ∷ ctx) c (bound 1) (bound 0) refl refl in
        lam-type ctx formula (arrow formula formula) (lam formula (join c (bound 1) (bound 0))) formula-declared
        (lam-type (formula ∷ ctx) formula formula (join c (bound 1) (bound 0)) formula-declared inside)

    pub operator_term-type : (ctx : List SimpleType) (c : Conn) → Has ctx (operator_term c).term (operator_term c).type
    operator_term-type ctx conn.Not = lam-type ctx formula formula (neg (bound 0)) formula-declared (neg-type (formula ∷ ctx) (bound 0) refl)
    operator_term-type ctx conn.And = joining-type ctx conn.And
    operator_term-type ctx conn.Or = joining-type ctx conn.Or
    operator_term-type ctx conn.Imp = joining-type ctx conn.Imp
    operator_term-type ctx conn.If = joining-type ctx conn.If
    operator_term-type ctx conn.Iff = joining-type ctx conn.Iff
    operator_term-type ctx conn.Xor = joining-type ctx conn.Xor
    operator_term-type ctx conn.Nor = joining-type ctx conn.Nor
    operator_term-type ctx conn.Nand = joining-type ctx conn.Nand

    -- the type of a term over declared ones is declared
    pub type_of-declared : (ctx : List SimpleType) → AreDeclared scope.bases ctx → (t : Lambda) (a : SimpleType) → Has ctx t a → is_declared scope.bases a ≡ true
    type_of-declared ctx d (bound k) a h = get_declared scope.bases ctx k a d h
    type_of-declared ctx d (constant c) a h = constant_declared scope over c a h
    type_of-declared ctx d (lam b s) a h =
        let from = abstracts scope.bases b (type_of scope (b ∷ ctx) s) a h in
        let outcome = type_of-declared (b ∷ ctx) (from.declared, d) s from.result from.body_type in
        ap (is_declared scope.bases) from.is ∙ and_from _ _ from.declared outcome
    type_of-declared ctx d (app s u) a h =
        let from = applies (type_of scope ctx s) (type_of scope ctx u) a h in
        (and_parts _ _ (type_of-declared ctx d s (arrow from.argument a) from.function_type)).1
