-- Which terms have a type, and which.
use Rattle.std.proofs.Common.{◌≡◌, ◌+◌, ℕ, zero, suc, List, [], ◌∷◌, Option, Some, None, refl, ap, ap₂, subst, sym, ◌∙◌, Bool, true, false, slice_get, option_map, if◌then◌else◌, eq-eqb, arith}
use Rattle.std.proofs.lemmas.Bool.{eqb-true, and_parts, and_from, lt-ltb}
use Rattle.stt_core.specs.SimpleType.{SimpleType, base, arrow, formula, is_declared, same_type}
use Rattle.stt_core.specs.Lambda.{Constant, name, witness, falsity, negation, implication, all, equality, choice, description, Lambda, bound, constant, lam, app}
use Rattle.stt_core.specs.Typing.{Scope, IsScope, AreDeclared, where_declared, type_of, constant_type, applied_type}
use Rattle.stt_core.specs.Canonical.{IsFrom, IsCanonical, IsNeutral}

pub same_type_refl : (a : SimpleType) → same_type a a ≡ true
same_type_refl (base n) = eq-eqb n n refl
same_type_refl (arrow a b) = rw (same_type_refl a, same_type_refl b) refl

pub same_type-true : (a b : SimpleType) → same_type a b ≡ true → a ≡ b
same_type-true (base m) (base n) h = ap base (eqb-true m n h)
same_type-true (base m) (arrow c d) h = cc
same_type-true (arrow a b) (base n) h = cc
same_type-true (arrow a b) (arrow c d) h =
    let p = and_parts _ _ h in ap₂ arrow (same_type-true a c p.0) (same_type-true b d p.1)

-- what an application's type comes from
pub record Applies (f u : Option SimpleType) (b : SimpleType) : Type 0 where
  pub argument : SimpleType
  pub function_type : f ≡ Some (arrow argument b)
  pub argument_type : u ≡ Some argument

pub applies : (f u : Option SimpleType) (b : SimpleType) → applied_type f u ≡ Some b → Applies f u b
applies None u b h = cc
applies (Some (base n)) u b h = cc
applies (Some (arrow a c)) None b h = cc
applies (Some (arrow a c)) (Some d) b h = go (same_type a d) refl h
  where
    go : (t : Bool) → same_type a d ≡ t → (if t then Some c else None) ≡ Some b → Applies (Some (arrow a c)) (Some d) b
    go true e k = let e' = same_type-true a d e in record { argument = a; function_type = cc; argument_type = cc }
    go false e k = cc

pub applied : (a b : SimpleType) → applied_type (Some (arrow a b)) (Some a) ≡ Some b
applied a b = rw (same_type_refl a) refl

-- what a lambda's type comes from
pub record Abstracts (bases : ℕ) (a : SimpleType) (body : Option SimpleType) (b : SimpleType) : Type 0 where
  pub declared : is_declared bases a ≡ true
  pub result : SimpleType
  pub body_type : body ≡ Some result
  pub is : b ≡ arrow a result

pub abstracts : (bases : ℕ) (a : SimpleType) (body : Option SimpleType) (b : SimpleType) → (if is_declared bases a then option_map (arrow a) body else None) ≡ Some b → Abstracts bases a body b
abstracts bases a body b h = go (is_declared bases a) refl body refl h
  where
    go : (t : Bool) → is_declared bases a ≡ t → (o : Option SimpleType) → body ≡ o → (if t then option_map (arrow a) o else None) ≡ Some b → Abstracts bases a body b
    go true e (Some c) e' k = record { declared = e; result = c; body_type = e'; is = cc }
    go true e None e' k = cc
    go false e o e' k = cc

module _ (scope : Scope) where
  pub lambda_type : (ctx : List SimpleType) (a c : SimpleType) (s : Lambda) → is_declared scope.bases c ≡ true → IsFrom c a (λ b. type_of scope (c ∷ ctx) s ≡ Some b) → type_of scope ctx (lam c s) ≡ Some a
  lambda_type ctx (base n) c s d h = absurd h
  lambda_type ctx (arrow a b) c s d h = rw (d, h.1, h.0) refl

  pub IsFrom-map : (a b : SimpleType) (P Q : SimpleType → Type 0) → ((c : SimpleType) → P c → Q c) → IsFrom a b P → IsFrom a b Q
  IsFrom-map a (base n) P Q f h = h
  IsFrom-map a (arrow c b) P Q f h = (h.0, f b h.1)

  mutual
    -- a canonical term has its type
    pub type_of-canonical : (ctx : List SimpleType) (a : SimpleType) (t : Lambda) → IsCanonical scope ctx a t → type_of scope ctx t ≡ Some a
    type_of-canonical ctx a (bound k) h = h.1
    type_of-canonical ctx a (constant c) h = h.1
    type_of-canonical ctx a (lam c s) h = lambda_type ctx a c s h.0 (IsFrom-map c a _ _ (λ b k. type_of-canonical (c ∷ ctx) b s k) h.1)
    type_of-canonical ctx a (app s u) h =
        ap₂ applied_type (type_of-neutral ctx (arrow h.1.0 a) s h.1.1) (type_of-canonical ctx h.1.0 u h.1.2) ∙ applied h.1.0 a

    pub type_of-neutral : (ctx : List SimpleType) (a : SimpleType) (t : Lambda) → IsNeutral scope ctx a t → type_of scope ctx t ≡ Some a
    type_of-neutral ctx a (bound k) h = h
    type_of-neutral ctx a (constant c) h = h
    type_of-neutral ctx a (lam c s) h = absurd h
    type_of-neutral ctx a (app s u) h = ap₂ applied_type (type_of-neutral ctx (arrow h.0 a) s h.1) (type_of-canonical ctx h.0 u h.2) ∙ applied h.0 a

pub get_declared : (bases : ℕ) (types : List SimpleType) (k : ℕ) (a : SimpleType) → AreDeclared bases types → slice_get types k ≡ Some a → is_declared bases a ≡ true
get_declared bases [] k a d h = cc
get_declared bases (b ∷ types) zero a d h = let e : b ≡ a = cc in subst (λ c. is_declared bases c ≡ true) e d.0
get_declared bases (b ∷ types) (suc k) a d h = get_declared bases types k a d.1 h

-- a type that is given where another is declared
pub record Given (bases : ℕ) (a b c : SimpleType) : Type 0 where
  pub declared : is_declared bases a ≡ true
  pub is : b ≡ c

pub given : (scope : Scope) (a b c : SimpleType) → where_declared scope a b ≡ Some c → Given scope.bases a b c
given scope a b c h = go (is_declared scope.bases a) refl h
  where
    go : (t : Bool) → is_declared scope.bases a ≡ t → (if t then Some b else None) ≡ Some c → Given scope.bases a b c
    go true e k = record { declared = e; is = cc }
    go false e k = cc

formula_declared : (bases : ℕ) → is_declared bases formula ≡ true
formula_declared bases = lt-ltb 0 (bases + 2) (omega arith)

module _ (scope : Scope) (over : IsScope scope) where
  pub constant_declared : (c : Constant) (a : SimpleType) → constant_type scope c ≡ Some a → is_declared scope.bases a ≡ true
  constant_declared (name k) a h = get_declared scope.bases scope.names k a over.names_declared h
  constant_declared (witness k) a h = get_declared scope.bases scope.witnesses k a over.witnesses_declared h
  constant_declared falsity a h = let e : formula ≡ a = cc in subst (λ b. is_declared scope.bases b ≡ true) e (formula_declared scope.bases)
  constant_declared negation a h =
      let e : arrow formula formula ≡ a = cc in
      let f = formula_declared scope.bases in
      subst (λ b. is_declared scope.bases b ≡ true) e (and_from _ _ f f)
  constant_declared implication a h =
      let e : arrow formula (arrow formula formula) ≡ a = cc in
      let f = formula_declared scope.bases in
      subst (λ b. is_declared scope.bases b ≡ true) e (and_from _ _ f (and_from _ _ f f))
  constant_declared (all b) a h =
      let f = formula_declared scope.bases in
      let g = given scope b _ a h in
      subst (λ b. is_declared scope.bases b ≡ true) g.is (and_from _ _ (and_from _ _ g.declared f) f)
  constant_declared (equality b) a h =
      let f = formula_declared scope.bases in
      let g = given scope b _ a h in
      subst (λ b. is_declared scope.bases b ≡ true) g.is (and_from _ _ g.declared (and_from _ _ g.declared f))
  constant_declared (choice b) a h =
      let f = formula_declared scope.bases in
      let g = given scope b _ a h in
      subst (λ b. is_declared scope.bases b ≡ true) g.is (and_from _ _ (and_from _ _ g.declared f) g.declared)
  constant_declared (description b) a h =
      let f = formula_declared scope.bases in
      let g = given scope b _ a h in
      subst (λ b. is_declared scope.bases b ≡ true) g.is (and_from _ _ (and_from _ _ g.declared f) g.declared)

pub differ_type : (a b : SimpleType) → same_type a b ≡ false → a ≡ b → ⊥
differ_type a b h e =
    let p : same_type a b ≡ true = ap (same_type a) (sym e) ∙ same_type_refl a in
    cc

-- the test tells whether the types are the same
pub same_type_tells : (a b : SimpleType) (r : Bool) → r ≡ same_type a b → (r ≡ true → a ≡ b) × (a ≡ b → r ≡ true)
same_type_tells a b r e = (λ h. same_type-true a b (sym e ∙ h), λ h. e ∙ ap (λ x. same_type x b) h ∙ same_type_refl b)
