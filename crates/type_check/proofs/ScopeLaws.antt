-- A text in a scope is read as under the named variables of the scope, and its term is placed among all binders of the scope.
use Rattle.std.proofs.Common.{◌≡◌, ℕ, zero, suc, ◌<◌, ◌≤◌, Bool, true, false, List, [], ◌∷◌, Option, Some, None, Ok, Err, refl, ap, ap₂, ◌∙◌, sym, slice_get, option_map, if◌then◌else◌, arith}
use Rattle.std.specs.Str.{bytes_eq}
use Rattle.stt_core.specs.SimpleType.{SimpleType, arrow, formula, same_type}
use Rattle.stt_core.specs.Lambda.{Lambda, Constant, bound, constant, name as constant_name, negation, implication, all, equality, choice, description, lam, app, neg, imp, eq, every}
use Rattle.stt_core.specs.Lift.{raised, lift}
use Rattle.stt_core.specs.Typing.{applied_type}
use Rattle.stt_core.specs.TypedName.{TypedName}
use Rattle.stt_core.specs.declared.signature.Symbol.{Symbol}
use Rattle.stt_core.specs.declared.signature.Symbol.TheVariants.{Base, Const}
use Rattle.stt_core.proofs.LiftLaws.{raised_below, raised_above}
use Rattle.thf_grammar.specs.declared.connective.Conn.{Conn}
use Rattle.thf_grammar.specs.declared.connective.Conn.TheVariants as conn
use Rattle.thf_grammar.specs.declared.connective.Binder.{Binder}
use Rattle.thf_grammar.specs.declared.connective.Binder.TheVariants as binder
use Rattle.type_check.specs.Outcome.{ill, ◌>>=◌}
use Rattle.type_check.specs.Rows.{signed, truth_value, join, operator_term, for_all, for_some}
use Rattle.type_check.specs.Typed.{TypedTerm, typed, of_type, where_typed, domain}
use Rattle.type_check.specs.Terms.{TermReading, known_term, constant_at, constant_named, variable_named, typed_negation, typed_connection, typed_equation, typed_application, quantified_over, typed_quantifier, typed_choice, typed_description, bind}
use Rattle.type_check.specs.Internal.Infixes.{combined}
use Rattle.type_check.specs.Internal.ScopeView.{Around, named, hidden, variables, placed_term, placed_typed, placed_reading}
use Rattle.type_check.specs.Internal.Quantifiers.{somewhere, typed_somewhere}
use Rattle.type_check.specs.declared.nodes.Infix.{Infix}
use Rattle.type_check.specs.declared.nodes.Infix.TheVariants.{Join, Equality, Application}
use Rattle.type_check.specs.declared.refusal.IllWhy.TheVariants.{Mismatch}

raised_raised : (i k j : ℕ) → i ≤ k → raised (suc k) (raised i j) ≡ raised i (raised k j)
raised_raised zero k j h = refl
raised_raised (suc i) zero j h = absurd (omega arith)
raised_raised (suc i) (suc k) zero h = refl
raised_raised (suc i) (suc k) (suc j) h = ap suc (raised_raised i k j (omega arith))

lift_lift : (i k : ℕ) → i ≤ k → (t : Lambda) → lift (suc k) (lift i t) ≡ lift i (lift k t)
lift_lift i k h (bound j) = ap bound (raised_raised i k j h)
lift_lift i k h (constant c) = refl
lift_lift i k h (lam a s) = ap (lam a) (lift_lift (suc i) (suc k) (omega arith) s)
lift_lift i k h (app s u) = ap₂ app (lift_lift i k h s) (lift_lift i k h u)

-- Placed terms, by what they are.
placed_app : (k : ℕ) (scope : List Around) (s u : Lambda) → placed_term k scope (app s u) ≡ app (placed_term k scope s) (placed_term k scope u)
placed_app k [] s u = refl
placed_app k (named v ∷ scope) s u = placed_app (suc k) scope s u
placed_app k (hidden ∷ scope) s u = ap (lift k) (placed_app k scope s u)

placed_lam : (k : ℕ) (scope : List Around) (a : SimpleType) (s : Lambda) → placed_term k scope (lam a s) ≡ lam a (placed_term (suc k) scope s)
placed_lam k [] a s = refl
placed_lam k (named v ∷ scope) a s = placed_lam (suc k) scope a s
placed_lam k (hidden ∷ scope) a s = ap (lift k) (placed_lam k scope a s)

-- what no binder changes stays as it is
placed_closed : (scope : List Around) (t : Lambda) → ((k : ℕ) → lift k t ≡ t) → (k : ℕ) → placed_term k scope t ≡ t
placed_closed [] t h k = refl
placed_closed (named v ∷ scope) t h k = placed_closed scope t h (suc k)
placed_closed (hidden ∷ scope) t h k = ap (lift k) (placed_closed scope t h k) ∙ h k

placed_below : (k : ℕ) (scope : List Around) (j : ℕ) → j < k → placed_term k scope (bound j) ≡ bound j
placed_below k [] j h = refl
placed_below k (named v ∷ scope) j h = placed_below (suc k) scope j (omega arith)
placed_below k (hidden ∷ scope) j h = ap (lift k) (placed_below k scope j h) ∙ ap bound (raised_below k j h)

placed_lift : (i k : ℕ) (scope : List Around) (t : Lambda) → i ≤ k → placed_term (suc k) scope (lift i t) ≡ lift i (placed_term k scope t)
placed_lift i k [] t h = refl
placed_lift i k (named v ∷ scope) t h = placed_lift i (suc k) scope t (omega arith)
placed_lift i k (hidden ∷ scope) t h = ap (lift (suc k)) (placed_lift i k scope t h) ∙ lift_lift i k h (placed_term k scope t)

module _ (k : ℕ) (scope : List Around) where
  abbrev placed : Lambda → Lambda
  placed = placed_term k scope

  placed_constant : (c : Constant) → placed (constant c) ≡ constant c
  placed_constant c = placed_closed scope (constant c) (λ j. refl) k

  placed_neg : (s : Lambda) → placed (neg s) ≡ neg (placed s)
  placed_neg s = placed_app k scope (constant negation) s ∙ ap (λ f. app f (placed s)) (placed_constant negation)

  placed_imp : (s t : Lambda) → placed (imp s t) ≡ imp (placed s) (placed t)
  placed_imp s t =
      placed_app k scope (app (constant implication) s) t
      ∙ ap (λ f. app f (placed t)) (placed_app k scope (constant implication) s ∙ ap (λ f. app f (placed s)) (placed_constant implication))

  placed_eq : (a : SimpleType) (s t : Lambda) → placed (eq a s t) ≡ eq a (placed s) (placed t)
  placed_eq a s t =
      placed_app k scope (app (constant (equality a)) s) t
      ∙ ap (λ f. app f (placed t)) (placed_app k scope (constant (equality a)) s ∙ ap (λ f. app f (placed s)) (placed_constant (equality a)))

  placed_every : (a : SimpleType) (f : Lambda) → placed (every a f) ≡ every a (placed f)
  placed_every a f = placed_app k scope (constant (all a)) f ∙ ap (λ g. app g (placed f)) (placed_constant (all a))

  placed_signed : (positive : Bool) (s : Lambda) → placed (signed positive s) ≡ signed positive (placed s)
  placed_signed true s = refl
  placed_signed false s = placed_neg s

  placed_join : (c : Conn) (s t : Lambda) → placed (join c s t) ≡ join c (placed s) (placed t)
  placed_join conn.Not s t = placed_neg t
  placed_join conn.And s t = placed_neg (imp s (neg t)) ∙ ap neg (placed_imp s (neg t) ∙ ap (imp (placed s)) (placed_neg t))
  placed_join conn.Or s t = placed_imp (neg s) t ∙ ap (λ n. imp n (placed t)) (placed_neg s)
  placed_join conn.Imp s t = placed_imp s t
  placed_join conn.If s t = placed_imp t s
  placed_join conn.Iff s t = placed_eq formula s t
  placed_join conn.Xor s t = placed_neg (eq formula s t) ∙ ap neg (placed_eq formula s t)
  placed_join conn.Nor s t = placed_neg (imp (neg s) t) ∙ ap neg (placed_imp (neg s) t ∙ ap (λ n. imp n (placed t)) (placed_neg s))
  placed_join conn.Nand s t = placed_imp s (neg t) ∙ ap (imp (placed s)) (placed_neg t)

  placed_for_all : (a : SimpleType) (s : Lambda) → placed (for_all a s) ≡ for_all a (placed_term (suc k) scope s)
  placed_for_all a s = placed_every a (lam a s) ∙ ap (every a) (placed_lam k scope a s)

placed_for_some : (k : ℕ) (scope : List Around) (a : SimpleType) (s : Lambda) → placed_term k scope (for_some a s) ≡ for_some a (placed_term (suc k) scope s)
placed_for_some k scope a s =
    placed_neg k scope (for_all a (neg s))
    ∙ ap neg (placed_for_all k scope a (neg s) ∙ ap (for_all a) (placed_neg (suc k) scope s))

-- A variable, where a binder of no name is added behind the k innermost ones.
variable_more : (i k : ℕ) → i ≤ k → (vars : List TypedName) (name : List ℕ) → variable_named (suc k) vars name ≡ option_map (λ x. typed (lift i x.term) x.type) (variable_named k vars name)
variable_more i k h [] name = refl
variable_more i k h (v ∷ vars) name =
    elim (bytes_eq v.name name) as
    (λ b. (if b then Some (typed (bound (suc k)) v.type) else variable_named (suc (suc k)) vars name)
    ≡ option_map (λ x. typed (lift i x.term) x.type) (if b then Some (typed (bound k) v.type) else variable_named (suc k) vars name)) [
      | true ↦ ap (λ j. Some (typed (bound j) v.type)) (sym (raised_above i k h))
      | false ↦ variable_more i (suc k) (omega arith) vars name
    ]

pub variable_hidden : (k : ℕ) (scope : List Around) (name : List ℕ)
    → option_map (placed_typed (suc k) scope) (variable_named (suc k) (variables scope) name) ≡ option_map (placed_typed k (hidden ∷ scope)) (variable_named k (variables scope) name)
variable_hidden k scope name =
    ap (option_map (placed_typed (suc k) scope)) (variable_more k k (omega arith) (variables scope) name)
    ∙ lifted (variable_named k (variables scope) name)
  where
    lifted : (o : Option TypedTerm) → option_map (placed_typed (suc k) scope) (option_map (λ x. typed (lift k x.term) x.type) o) ≡ option_map (placed_typed k (hidden ∷ scope)) o
    lifted (Some x) = ap (λ t. Some (typed t x.type)) (placed_lift k k scope x.term (omega arith))
    lifted None = refl

pub variable_here : (k : ℕ) (v : TypedName) (scope : List Around) (name : List ℕ) → bytes_eq v.name name ≡ true
    → option_map (placed_typed k (named v ∷ scope)) (variable_named k (v ∷ variables scope) name) ≡ Some (typed (bound k) v.type)
variable_here k v scope name e =
    ap (λ b. option_map (placed_typed k (named v ∷ scope)) (if b then Some (typed (bound k) v.type) else variable_named (suc k) (variables scope) name)) e
    ∙ ap (λ t. Some (typed t v.type)) (placed_below (suc k) scope k (omega arith))

-- Readings, by what is read.
module _ (scope : List Around) where
  pub known-placed : (at : ℕ) (o : Option TypedTerm) → placed_reading scope (known_term at o) ≡ known_term at (option_map (placed_typed zero scope) o)
  known-placed at (Some x) = refl
  known-placed at None = refl

  constant_at-placed : (consts : List TypedName) (n : ℕ) → option_map (placed_typed zero scope) (constant_at consts n) ≡ constant_at consts n
  constant_at-placed consts n =
      elim (slice_get consts n) as
      (λ o. option_map (placed_typed zero scope) (option_map (λ c. typed (constant (constant_name n)) c.type) o) ≡ option_map (λ c. typed (constant (constant_name n)) c.type) o) [
        | Some c ↦ ap (λ t. Some (typed t c.type)) (placed_constant zero scope (constant_name n))
        | None ↦ refl
      ]

  constant_named-placed : (consts : List TypedName) (s : Option Symbol) → option_map (placed_typed zero scope) (constant_named consts s) ≡ constant_named consts s
  constant_named-placed consts (Some (Const n)) = constant_at-placed consts n
  constant_named-placed consts (Some (Base n)) = refl
  constant_named-placed consts None = refl

  pub constant-placed : (at : ℕ) (consts : List TypedName) (s : Option Symbol) → placed_reading scope (known_term at (constant_named consts s)) ≡ known_term at (constant_named consts s)
  constant-placed at consts s = known-placed at (constant_named consts s) ∙ ap (known_term at) (constant_named-placed consts s)

  truth_value-closed : (value : Bool) (k : ℕ) → lift k (truth_value value) ≡ truth_value value
  truth_value-closed true k = refl
  truth_value-closed false k = refl

  pub truth-placed : (value : Bool) → placed_typed zero scope (typed (truth_value value) formula) ≡ typed (truth_value value) formula
  truth-placed value = ap (λ t. typed t formula) (placed_closed scope (truth_value value) (truth_value-closed value) zero)

  operator-closed : (c : Conn) (k : ℕ) → lift k (operator_term c).term ≡ (operator_term c).term
  operator-closed conn.Not k = refl
  operator-closed conn.And k = refl
  operator-closed conn.Or k = refl
  operator-closed conn.Imp k = refl
  operator-closed conn.If k = refl
  operator-closed conn.Iff k = refl
  operator-closed conn.Xor k = refl
  operator-closed conn.Nor k = refl
  operator-closed conn.Nand k = refl

  pub operator-placed : (c : Conn) → placed_typed zero scope (operator_term c) ≡ operator_term c
  operator-placed c = ap (λ t. typed t (operator_term c).type) (placed_closed scope (operator_term c).term (operator-closed c) zero)

  -- A reading after another one. The first is in the scope `inner`.
  pub then-placed : (inner : List Around) (r : TermReading) (f g : TypedTerm → TermReading) → ((x : TypedTerm) → placed_reading scope (f x) ≡ g (placed_typed zero inner x)) → placed_reading scope (r >>= f) ≡ placed_reading inner r >>= g
  then-placed inner (Ok x) f g h = h x
  then-placed inner (Err e) f g h = refl

  -- the same where a type is wanted
  wanted-placed : (b : Bool) (at : ℕ) (t u : Lambda) (f g : Lambda → TermReading) → placed_reading scope (f t) ≡ g u → placed_reading scope ((if b then Ok t else ill at Mismatch) >>= f) ≡ (if b then Ok u else ill at Mismatch) >>= g
  wanted-placed true at t u f g h = h
  wanted-placed false at t u f g h = refl

  -- a term that is made of a part, of a type that doesn't depend on it
  made-placed : (a : SimpleType) (t u : Lambda) → placed_term zero scope t ≡ u → placed_reading scope (Ok (typed t a)) ≡ Ok (typed u a)
  made-placed a t u e = ap (λ v. Ok (typed v a)) e

  pub negation-placed : (at : ℕ) (x : TypedTerm) → placed_reading scope (typed_negation at x) ≡ typed_negation at (placed_typed zero scope x)
  negation-placed at x =
      let f : Lambda → TermReading = λ s. Ok (typed (neg s) formula) in
      wanted-placed (same_type x.type formula) at x.term (placed_term zero scope x.term) f f (made-placed formula (neg x.term) (neg (placed_term zero scope x.term)) (placed_neg zero scope x.term))

  connection-placed : (at : ℕ) (c : Conn) (x y : TypedTerm) → placed_reading scope (typed_connection at c x y) ≡ typed_connection at c (placed_typed zero scope x) (placed_typed zero scope y)
  connection-placed at c x y =
      let place : Lambda → Lambda = placed_term zero scope in
      let joined : Lambda → Lambda → TermReading = λ s t. Ok (typed (join c s t) formula) in
      let second : TypedTerm → Lambda → TermReading = λ z s. of_type at formula z >>= joined s in
      wanted-placed (same_type x.type formula) at x.term (place x.term) (second y) (second (placed_typed zero scope y))
      (wanted-placed (same_type y.type formula) at y.term (place y.term) (joined x.term) (joined (place x.term))
      (made-placed formula (join c x.term y.term) (join c (place x.term) (place y.term)) (placed_join zero scope c x.term y.term)))

  equation-placed : (at : ℕ) (positive : Bool) (x y : TypedTerm) → placed_reading scope (typed_equation at positive x y) ≡ typed_equation at positive (placed_typed zero scope x) (placed_typed zero scope y)
  equation-placed at positive x y =
      let place : Lambda → Lambda = placed_term zero scope in
      let joined : Lambda → Lambda → TermReading = λ s t. Ok (typed (signed positive (eq x.type s t)) formula) in
      wanted-placed (same_type y.type x.type) at y.term (place y.term) (joined x.term) (joined (place x.term))
      (made-placed formula (signed positive (eq x.type x.term y.term)) (signed positive (eq x.type (place x.term) (place y.term)))
      (placed_signed zero scope positive (eq x.type x.term y.term) ∙ ap (signed positive) (placed_eq zero scope x.type x.term y.term)))

  where_typed-placed : (at : ℕ) (t u : Lambda) → placed_term zero scope t ≡ u → (o : Option SimpleType) → placed_reading scope (where_typed at t o) ≡ where_typed at u o
  where_typed-placed at t u e (Some a) = made-placed a t u e
  where_typed-placed at t u e None = refl

  application-placed : (at : ℕ) (x y : TypedTerm) → placed_reading scope (typed_application at x y) ≡ typed_application at (placed_typed zero scope x) (placed_typed zero scope y)
  application-placed at x y =
      where_typed-placed at (app x.term y.term) (app (placed_term zero scope x.term) (placed_term zero scope y.term))
      (placed_app zero scope x.term y.term) (applied_type (Some x.type) (Some y.type))

  pub combined-placed : (at : ℕ) (between : Infix) (x y : TypedTerm) → placed_reading scope (combined at between x y) ≡ combined at between (placed_typed zero scope x) (placed_typed zero scope y)
  combined-placed at (Join c) x y = connection-placed at c x y
  combined-placed at (Equality positive) x y = equation-placed at positive x y
  combined-placed at Application x y = application-placed at x y

  everywhere_over : (at : ℕ) (s : Lambda) (o : Option SimpleType) → placed_reading scope (quantified_over at true s o) ≡ quantified_over at true (placed_term zero scope s) o
  everywhere_over at s (Some a) = made-placed formula (every a s) (every a (placed_term zero scope s)) (placed_every zero scope a s)
  everywhere_over at s None = refl

  pub everywhere-placed : (at : ℕ) (x : TypedTerm) → placed_reading scope (typed_quantifier at true x) ≡ typed_quantifier at true (placed_typed zero scope x)
  everywhere-placed at x = everywhere_over at x.term (domain x.type)

  somewhere_over : (at : ℕ) (s : Lambda) (o : Option SimpleType) → placed_reading scope (quantified_over at false s o) ≡ somewhere at (placed_term zero (hidden ∷ scope) s) o
  somewhere_over at s (Some a) =
      let lifted : Lambda = lift 0 s in
      let placed : Lambda = placed_term zero (hidden ∷ scope) s in
      made-placed formula (for_some a (app lifted (bound 0))) (for_some a (app placed (bound 0)))
      (placed_for_some zero scope a (app lifted (bound 0))
      ∙ ap (for_some a) (placed_app 1 scope lifted (bound 0) ∙ ap₂ app (placed_lift zero zero scope s (omega arith)) (placed_below 1 scope 0 (omega arith))))
  somewhere_over at s None = refl

  pub somewhere-placed : (at : ℕ) (x : TypedTerm) → placed_reading scope (typed_quantifier at false x) ≡ typed_somewhere at (placed_typed zero (hidden ∷ scope) x)
  somewhere-placed at x = somewhere_over at x.term (domain x.type)

  choice-placed : (a : SimpleType) (s : Lambda) → placed_reading scope (typed_choice a s) ≡ typed_choice a (placed_term 1 scope s)
  choice-placed a s =
      made-placed a (app (constant (choice a)) (lam a s)) (app (constant (choice a)) (lam a (placed_term 1 scope s)))
      (placed_app zero scope (constant (choice a)) (lam a s) ∙ ap₂ app (placed_constant zero scope (choice a)) (placed_lam zero scope a s))

  description-placed : (a : SimpleType) (s : Lambda) → placed_reading scope (typed_description a s) ≡ typed_description a (placed_term 1 scope s)
  description-placed a s =
      made-placed a (app (constant (description a)) (lam a s)) (app (constant (description a)) (lam a (placed_term 1 scope s)))
      (placed_app zero scope (constant (description a)) (lam a s) ∙ ap₂ app (placed_constant zero scope (description a)) (placed_lam zero scope a s))

  -- a binder over a formula, which is read within it
  over_formula-placed : (at : ℕ) (x : TypedTerm) (f : Lambda → TermReading) → ((s : Lambda) → placed_reading scope (f s) ≡ f (placed_term 1 scope s)) → placed_reading scope (of_type at formula x >>= f) ≡ of_type at formula (placed_typed 1 scope x) >>= f
  over_formula-placed at x f h = wanted-placed (same_type x.type formula) at x.term (placed_term 1 scope x.term) f f (h x.term)

  pub bind-placed : (at : ℕ) (b : Binder) (a : SimpleType) (x : TypedTerm) → placed_reading scope (bind at b a x) ≡ bind at b a (placed_typed 1 scope x)
  bind-placed at binder.All a x =
      over_formula-placed at x (λ s. Ok (typed (for_all a s) formula)) (λ s. made-placed formula (for_all a s) (for_all a (placed_term 1 scope s)) (placed_for_all zero scope a s))
  bind-placed at binder.Exists a x =
      over_formula-placed at x (λ s. Ok (typed (for_some a s) formula)) (λ s. made-placed formula (for_some a s) (for_some a (placed_term 1 scope s)) (placed_for_some zero scope a s))
  bind-placed at binder.Lam a x = made-placed (arrow a x.type) (lam a x.term) (lam a (placed_term 1 scope x.term)) (placed_lam zero scope a x.term)
  bind-placed at binder.Choice a x = over_formula-placed at x (typed_choice a) (choice-placed a)
  bind-placed at binder.Desc a x = over_formula-placed at x (typed_description a) (description-placed a)

module _ (scope : List Around) where
  -- What is answered, once the parts are read.
  pub negation-answers : (at : ℕ) (r : TermReading) (x : TypedTerm) → placed_reading scope r ≡ Ok x → placed_reading scope (r >>= typed_negation at) ≡ typed_negation at x
  negation-answers at r x e = then-placed scope scope r (typed_negation at) (typed_negation at) (negation-placed scope at) ∙ ap (λ r. r >>= typed_negation at) e

  pub infix-answers : (at : ℕ) (between : Infix) (r q : TermReading) (x y : TypedTerm) → placed_reading scope r ≡ Ok x → placed_reading scope q ≡ Ok y
      → placed_reading scope (r >>= λ z. q >>= combined at between z) ≡ combined at between x y
  infix-answers at between r q x y e f =
      then-placed scope scope r (λ z. q >>= combined at between z) (λ z. placed_reading scope q >>= combined at between z)
      (λ z. then-placed scope scope q (combined at between z) (combined at between (placed_typed zero scope z)) (combined-placed scope at between z))
      ∙ ap (λ r. r >>= λ z. placed_reading scope q >>= combined at between z) e
      ∙ ap (λ q. q >>= combined at between x) f

  pub everywhere-answers : (at : ℕ) (b : Bool) (r : TermReading) (x : TypedTerm) → b ≡ true → placed_reading scope r ≡ Ok x → placed_reading scope (r >>= typed_quantifier at b) ≡ typed_quantifier at true x
  everywhere-answers at b r x a e =
      ap (λ c. placed_reading scope (r >>= typed_quantifier at c)) a
      ∙ then-placed scope scope r (typed_quantifier at true) (typed_quantifier at true) (everywhere-placed scope at)
      ∙ ap (λ r. r >>= typed_quantifier at true) e

  pub somewhere-answers : (at : ℕ) (b : Bool) (r : TermReading) (x : TypedTerm) → b ≡ false → placed_reading (hidden ∷ scope) r ≡ Ok x → placed_reading scope (r >>= typed_quantifier at b) ≡ typed_somewhere at x
  somewhere-answers at b r x a e =
      ap (λ c. placed_reading scope (r >>= typed_quantifier at c)) a
      ∙ then-placed scope (hidden ∷ scope) r (typed_quantifier at false) (typed_somewhere at) (somewhere-placed scope at)
      ∙ ap (λ r. r >>= typed_somewhere at) e

-- without binders a reading stays as it is
pub empty_placed : (r : TermReading) → placed_reading [] r ≡ r
empty_placed (Ok x) = refl
empty_placed (Err e) = refl
