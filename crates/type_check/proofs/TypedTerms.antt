-- What is read is typed.
use Rattle.std.proofs.Common.{◌≡◌, ℕ, zero, suc, ◌+◌, Bool, true, false, List, [], ◌∷◌, map, length, Option, Some, None, Ok, IfOk, slice_get, option_map, refl, sym, ap, ap₂, ◌∙◌, if◌then◌else◌, arith}
use Rattle.std.proofs.lemmas.Bool.{and_parts}
use Rattle.std.proofs.lemmas.Option.{slice_get-map}
use Rattle.std.specs.Str.{bytes_eq}
use Rattle.stt_core.specs.SimpleType.{SimpleType, base, arrow, formula, predicate, is_declared, same_type}
use Rattle.stt_core.specs.Lambda.{Lambda, bound, constant, name as constant_name, app, neg, eq}
use Rattle.stt_core.specs.Typing.{Scope, IsScope, AreDeclared, type_of, applied_type}
use Rattle.stt_core.specs.TypedName.{TypedName}
use Rattle.stt_core.specs.Signature.{symbol_named}
use Rattle.stt_core.specs.declared.signature.Symbol.{Symbol}
use Rattle.stt_core.specs.declared.signature.Symbol.TheVariants.{Base, Const}
use Rattle.stt_core.proofs.TypeLaws.{same_type-true}
use Rattle.stt_core.specs.Declarations.{Declarations, scope_of}
use Rattle.thf_grammar.specs.Trees.{VarTree, FormulaTree, constant as name_tree, variable, truth, operator, negation, binary, equation, application, quantified, binding}
use Rattle.thf_grammar.specs.declared.connective.Conn.{Conn}
use Rattle.thf_grammar.specs.declared.connective.Binder.{Binder}
use Rattle.thf_grammar.specs.declared.connective.Binder.TheVariants as binder
use Rattle.type_check.specs.Outcome.{◌>>=◌}
use Rattle.type_check.specs.Types.{read_type}
use Rattle.type_check.specs.Typed.{TypedTerm, typed, of_type, where_typed, domain}
use Rattle.type_check.specs.Terms.{TermReading, known_term, constant_at, constant_named, variable_named, typed_negation, typed_connection, typed_equation, typed_application, quantified_over, typed_quantifier, typed_choice, typed_description, bind, read_binder, read_term}
use Rattle.type_check.specs.Rows.{signed, join, for_all, for_some}
use Rattle.type_check.specs.declared.refusal.IllWhy.TheVariants.{Mismatch}
use Rattle.type_check.proofs.OutcomeLaws.{if_ok-then, if_ok-where}
use Rattle.type_check.proofs.DeclaredTypes.{read_type-declared}
use Rattle.type_check.proofs.RowTypes.{neg-type, eq-type, lam-type, choice-type, description-type, signed-type, truth_value-type, for_all-type, for_some-type, quantify-type, join-type, operator_term-type, type_of-declared}

-- the types of the variables in scope, innermost first
abbrev pub types_of : List TypedName → List SimpleType
types_of vars = map (λ v. v.type) vars

-- the term has the type that stands beside it
abbrev pub HasItsType : Scope → List SimpleType → TypedTerm → Type 0
HasItsType scope ctx x = type_of scope ctx x.term ≡ Some x.type

-- a variable that is found
record Found (k : ℕ) (vars : List TypedName) (x : TypedTerm) : Type 0 where
  behind : ℕ
  is : x.term ≡ bound (k + behind)
  type_there : slice_get (types_of vars) behind ≡ Some x.type

variable_named-found : (k : ℕ) (vars : List TypedName) (name : List ℕ) (x : TypedTerm) → variable_named k vars name ≡ Some x → Found k vars x
variable_named-found k [] name x h = cc
variable_named-found k (v ∷ vars) name x h = go (bytes_eq v.name name) (variable_named-found (suc k) vars name x) h
  where
    go : (b : Bool) → (variable_named (suc k) vars name ≡ Some x → Found (suc k) vars x) → (if b then Some (typed (bound k) v.type) else variable_named (suc k) vars name) ≡ Some x → Found k (v ∷ vars) x
    go true rest e =
        let same : typed (bound k) v.type ≡ x = cc in
        let place : k ≡ k + 0 = omega arith in
        record { behind = 0; is = ap (λ y. y.term) (sym same) ∙ ap bound place; type_there = ap (λ y. Some y.type) same }
    go false rest e =
        let f = rest e in
        let place : suc k + f.behind ≡ k + suc f.behind = omega arith in
        record { behind = suc f.behind; is = f.is ∙ ap bound place; type_there = f.type_there }

variable_named-typed : (scope : Scope) (vars : List TypedName) (name : List ℕ) (x : TypedTerm) → variable_named zero vars name ≡ Some x → HasItsType scope (types_of vars) x
variable_named-typed scope vars name x h =
    let f = variable_named-found zero vars name x h in
    let place : zero + f.behind ≡ f.behind = omega arith in
    ap (type_of scope (types_of vars)) (f.is ∙ ap bound place) ∙ f.type_there

constant_at-typed : (d : Declarations) (ctx : List SimpleType) (k : ℕ) (x : TypedTerm) → constant_at d.consts k ≡ Some x → HasItsType (scope_of d) ctx x
constant_at-typed d ctx k x h = go (slice_get d.consts k) refl h
  where
    go : (o : Option TypedName) → slice_get d.consts k ≡ o → option_map (λ c. typed (constant (constant_name k)) c.type) o ≡ Some x → HasItsType (scope_of d) ctx x
    go (Some c) e g =
        let same : typed (constant (constant_name k)) c.type ≡ x = cc in
        ap (λ y. type_of (scope_of d) ctx y.term) (sym same)
        ∙ slice_get-map (λ c. c.type) d.consts k
        ∙ ap (option_map (λ c. c.type)) e
        ∙ ap (λ y. Some y.type) same
    go None e g = cc

constant_named-typed : (d : Declarations) (ctx : List SimpleType) (o : Option Symbol) (x : TypedTerm) → constant_named d.consts o ≡ Some x → HasItsType (scope_of d) ctx x
constant_named-typed d ctx (Some (Const k)) x h = constant_at-typed d ctx k x h
constant_named-typed d ctx (Some (Base n)) x h = cc
constant_named-typed d ctx None x h = cc

known-where : (P : TypedTerm → Type 0) (at : ℕ) (o : Option TypedTerm) → ((x : TypedTerm) → o ≡ Some x → P x) → IfOk (known_term at o) P
known-where P at (Some x) h = h x refl
known-where P at None h = tt

module _ (scope : Scope) (over : IsScope scope) (ctx : List SimpleType) (declared : AreDeclared scope.bases ctx) where
  -- whatever is read has its type
  abbrev GivesTyped : TermReading → Type 0
  GivesTyped r = IfOk r (HasItsType scope ctx)

  -- whatever is read has this type
  abbrev Gives : SimpleType → Lambda → Type 0
  Gives a s = type_of scope ctx s ≡ Some a

  type-declared : (x : TypedTerm) → HasItsType scope ctx x → is_declared scope.bases x.type ≡ true
  type-declared x h = type_of-declared scope over ctx declared x.term x.type h

  of_type-typed : (at : ℕ) (a : SimpleType) (x : TypedTerm) → HasItsType scope ctx x → IfOk (of_type at a x) (Gives a)
  of_type-typed at a x h =
      if_ok-where (Gives a) (same_type x.type a) at Mismatch (Ok x.term) (λ e. h ∙ ap Some (same_type-true x.type a e))

  negated-typed : (at : ℕ) (x : TypedTerm) → HasItsType scope ctx x → GivesTyped (typed_negation at x)
  negated-typed at x h =
      if_ok-then (Gives formula) (HasItsType scope ctx) (of_type at formula x) (λ s. Ok (typed (neg s) formula)) (of_type-typed at formula x h) (λ s k. neg-type scope ctx s k)

  joined-typed : (at : ℕ) (conn : Conn) (x y : TypedTerm) → HasItsType scope ctx x → HasItsType scope ctx y → GivesTyped (typed_connection at conn x y)
  joined-typed at conn x y h k =
      if_ok-then (Gives formula) (HasItsType scope ctx) (of_type at formula x) (λ s. of_type at formula y >>= λ t. Ok (typed (join conn s t) formula)) (of_type-typed at formula x h)
      (λ s f. if_ok-then (Gives formula) (HasItsType scope ctx) (of_type at formula y) (λ t. Ok (typed (join conn s t) formula)) (of_type-typed at formula y k)
      (λ t g. join-type scope over ctx conn s t f g))

  equated-typed : (at : ℕ) (positive : Bool) (x y : TypedTerm) → HasItsType scope ctx x → HasItsType scope ctx y → GivesTyped (typed_equation at positive x y)
  equated-typed at positive x y h k =
      if_ok-then (Gives x.type) (HasItsType scope ctx) (of_type at x.type y) (λ t. Ok (typed (signed positive (eq x.type x.term t)) formula)) (of_type-typed at x.type y k)
      (λ t g. signed-type scope ctx positive (eq x.type x.term t) (eq-type scope ctx x.type x.term t (type-declared x h) h g))

  where_typed-typed : (at : ℕ) (t : Lambda) (o : Option SimpleType) → type_of scope ctx t ≡ o → GivesTyped (where_typed at t o)
  where_typed-typed at t (Some a) h = h
  where_typed-typed at t None h = tt

  applied-typed : (at : ℕ) (x y : TypedTerm) → HasItsType scope ctx x → HasItsType scope ctx y → GivesTyped (typed_application at x y)
  applied-typed at x y h k = where_typed-typed at (app x.term y.term) (applied_type (Some x.type) (Some y.type)) (ap₂ applied_type h k)

  domain-is : (a b : SimpleType) → domain a ≡ Some b → a ≡ predicate b
  domain-is (base n) b h = cc
  domain-is (arrow a c) b h = go (same_type c formula) refl h
    where
      go : (t : Bool) → same_type c formula ≡ t → (if t then Some a else None) ≡ Some b → arrow a c ≡ predicate b
      go true e k = let same : a ≡ b = cc in ap₂ arrow same (same_type-true c formula e)
      go false e k = cc

  quantified_by-typed : (at : ℕ) (all : Bool) (x : TypedTerm) → HasItsType scope ctx x → GivesTyped (typed_quantifier at all x)
  quantified_by-typed at all x h = go (domain x.type) refl
    where
      go : (o : Option SimpleType) → domain x.type ≡ o → GivesTyped (quantified_over at all x.term o)
      go (Some a) e =
          let is = domain-is x.type a e in
          let whole : is_declared scope.bases (predicate a) ≡ true = ap (is_declared scope.bases) (sym is) ∙ type-declared x h in
          quantify-type scope ctx all a x.term (and_parts _ _ whole).0 (h ∙ ap Some is)
      go None e = tt

  -- what stands under a binder of a variable of type a
  module _ (a : SimpleType) (a_declared : is_declared scope.bases a ≡ true) (x : TypedTerm) (h : HasItsType scope (a ∷ ctx) x) where
    abbrev GivesBody : Lambda → Type 0
    GivesBody s = type_of scope (a ∷ ctx) s ≡ Some formula

    body-typed : (at : ℕ) → IfOk (of_type at formula x) GivesBody
    body-typed at =
        if_ok-where GivesBody (same_type x.type formula) at Mismatch (Ok x.term) (λ e. h ∙ ap Some (same_type-true x.type formula e))

    bind-typed : (at : ℕ) (b : Binder) → GivesTyped (bind at b a x)
    bind-typed at binder.All =
        if_ok-then GivesBody (HasItsType scope ctx) (of_type at formula x) (λ s. Ok (typed (for_all a s) formula)) (body-typed at) (λ s k. for_all-type scope ctx a s a_declared k)
    bind-typed at binder.Exists =
        if_ok-then GivesBody (HasItsType scope ctx) (of_type at formula x) (λ s. Ok (typed (for_some a s) formula)) (body-typed at) (λ s k. for_some-type scope ctx a s a_declared k)
    bind-typed at binder.Lam = lam-type scope ctx a x.type x.term a_declared h
    bind-typed at binder.Choice =
        if_ok-then GivesBody (HasItsType scope ctx) (of_type at formula x) (typed_choice a) (body-typed at) (λ s k. choice-type scope ctx a s a_declared k)
    bind-typed at binder.Desc =
        if_ok-then GivesBody (HasItsType scope ctx) (of_type at formula x) (typed_description a) (body-typed at) (λ s k. description-type scope ctx a s a_declared k)

module _ (d : Declarations) (over : IsScope (scope_of d)) where
  abbrev IsTypedUnder : List TypedName → TermReading → Type 0
  IsTypedUnder vars r = IfOk r (HasItsType (scope_of d) (types_of vars))

  read_binder-typed : (at : ℕ) (b : Binder) (vs : List VarTree) (vars : List TypedName) → AreDeclared (length d.bases) (types_of vars) → (body : List TypedName → TermReading)
      → ((inner : List TypedName) → AreDeclared (length d.bases) (types_of inner) → IsTypedUnder inner (body inner)) → IsTypedUnder vars (read_binder d at b vs vars body)
  read_binder-typed at b [] vars declared body h = h vars declared
  read_binder-typed at b (v ∷ vs) vars declared body h =
      let inner : SimpleType → List TypedName = λ a. record { name = v.name; type = a } ∷ vars in
      if_ok-then (λ a. is_declared (length d.bases) a ≡ true) (HasItsType (scope_of d) (types_of vars)) (read_type d v.ty) (λ a. read_binder d at b vs (inner a) body >>= bind at b a) (read_type-declared d v.ty)
      (λ a e. if_ok-then (HasItsType (scope_of d) (types_of (inner a))) (HasItsType (scope_of d) (types_of vars)) (read_binder d at b vs (inner a) body) (bind at b a)
      (read_binder-typed at b vs (inner a) (e, declared) body h) (λ x k. bind-typed (scope_of d) over (types_of vars) declared a e x k at b))

  -- two parts that are read one after the other
  both : (vars : List TypedName) (s t : FormulaTree) (f : TypedTerm → TypedTerm → TermReading) → IsTypedUnder vars (read_term d vars s) → IsTypedUnder vars (read_term d vars t)
      → ((x y : TypedTerm) → HasItsType (scope_of d) (types_of vars) x → HasItsType (scope_of d) (types_of vars) y → IsTypedUnder vars (f x y))
      → IsTypedUnder vars (read_term d vars s >>= λ x. read_term d vars t >>= f x)
  both vars s t f h k joins =
      let Typed : TypedTerm → Type 0 = HasItsType (scope_of d) (types_of vars) in
      if_ok-then Typed Typed (read_term d vars s) (λ x. read_term d vars t >>= f x) h
      (λ x p. if_ok-then Typed Typed (read_term d vars t) (f x) k (λ y q. joins x y p q))

  pub read_term-typed : (vars : List TypedName) → AreDeclared (length d.bases) (types_of vars) → (tree : FormulaTree) → IsTypedUnder vars (read_term d vars tree)
  read_term-typed vars declared (name_tree at name) =
      known-where (HasItsType (scope_of d) (types_of vars)) at (constant_named d.consts (symbol_named d.bases d.consts name)) (constant_named-typed d (types_of vars) (symbol_named d.bases d.consts name))
  read_term-typed vars declared (variable at name) =
      known-where (HasItsType (scope_of d) (types_of vars)) at (variable_named zero vars name) (variable_named-typed (scope_of d) vars name)
  read_term-typed vars declared (truth at value) = truth_value-type (scope_of d) (types_of vars) value
  read_term-typed vars declared (operator at conn) = operator_term-type (scope_of d) over (types_of vars) conn
  read_term-typed vars declared (negation at s) =
      let Typed : TypedTerm → Type 0 = HasItsType (scope_of d) (types_of vars) in
      if_ok-then Typed Typed (read_term d vars s) (typed_negation at) (read_term-typed vars declared s) (λ x h. negated-typed (scope_of d) over (types_of vars) declared at x h)
  read_term-typed vars declared (binary at conn s t) =
      both vars s t (typed_connection at conn) (read_term-typed vars declared s) (read_term-typed vars declared t) (λ x y h k. joined-typed (scope_of d) over (types_of vars) declared at conn x y h k)
  read_term-typed vars declared (equation at positive s t) =
      both vars s t (typed_equation at positive) (read_term-typed vars declared s) (read_term-typed vars declared t) (λ x y h k. equated-typed (scope_of d) over (types_of vars) declared at positive x y h k)
  read_term-typed vars declared (application at s t) =
      both vars s t (typed_application at) (read_term-typed vars declared s) (read_term-typed vars declared t) (λ x y h k. applied-typed (scope_of d) over (types_of vars) declared at x y h k)
  read_term-typed vars declared (quantified at all s) =
      let Typed : TypedTerm → Type 0 = HasItsType (scope_of d) (types_of vars) in
      if_ok-then Typed Typed (read_term d vars s) (typed_quantifier at all) (read_term-typed vars declared s) (λ x h. quantified_by-typed (scope_of d) over (types_of vars) declared at all x h)
  read_term-typed vars declared (binding at b vs body) =
      read_binder-typed at b vs vars declared (λ inner. read_term d inner body) (λ inner k. read_term-typed inner k body)
