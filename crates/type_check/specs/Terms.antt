-- The terms that texts stand for, with their types. The parts of a node are read before the node: the left one, the right one, and of
-- a binder its types and its body. The first node that has no type is the place of the type error.
use Rattle.std.specs.Prelude.{ℕ, zero, suc, Bool, List, [], ◌∷◌, Option, Some, None, Result, Ok, slice_get, option_map, if◌then◌else◌}
use Rattle.std.specs.Str.{bytes_eq}
use Rattle.stt_core.specs.SimpleType.{SimpleType, arrow, formula}
use Rattle.stt_core.specs.Lambda.{Lambda, bound, constant, name as constant_name, choice, description, lam, app, neg, eq}
use Rattle.stt_core.specs.Typing.{applied_type}
use Rattle.stt_core.specs.TypedName.{TypedName}
use Rattle.stt_core.specs.Signature.{symbol_named}
use Rattle.stt_core.specs.declared.signature.Symbol.{Symbol}
use Rattle.stt_core.specs.declared.signature.Symbol.TheVariants.{Base, Const}
use Rattle.stt_core.specs.Declarations.{Declarations}
use Rattle.thf_grammar.specs.Trees.{VarTree, FormulaTree, constant as name_tree, variable, truth, operator, negation, binary, equation, application, quantified, binding}
use Rattle.thf_grammar.specs.declared.connective.Conn.{Conn}
use Rattle.thf_grammar.specs.declared.connective.Binder.{Binder}
use Rattle.thf_grammar.specs.declared.connective.Binder.TheVariants as binder
use Rattle.type_check.specs.Outcome.{IllPlace, ill, ◌>>=◌}
use Rattle.type_check.specs.Types.{read_type}
use Rattle.type_check.specs.Typed.{TypedTerm, typed, of_type, where_typed, domain}
use Rattle.type_check.specs.Rows.{signed, truth_value, join, operator_term, for_all, for_some, quantify}
use Rattle.type_check.specs.declared.refusal.IllWhy.TheVariants.{Unknown, Mismatch}

abbrev pub TermReading : Type 0
TermReading = Result TypedTerm IllPlace

-- a typed term that a name stands for, where it stands for one
abbrev pub known_term : ℕ → Option TypedTerm → TermReading
known_term at (Some x) = Ok x
known_term at None = ill at Unknown

-- the constant at that place of the signature
abbrev pub constant_at : List TypedName → ℕ → Option TypedTerm
constant_at consts k = option_map (λ c. typed (constant (constant_name k)) c.type) (slice_get consts k)

-- a declared constant; a type's name is none
abbrev pub constant_named : List TypedName → Option Symbol → Option TypedTerm
constant_named consts (Some (Const k)) = constant_at consts k
constant_named consts (Some (Base n)) = None
constant_named consts None = None

-- The variable of that name in scope, where k more binders stand before these. The innermost one hides the others.
abbrev pub variable_named : ℕ → List TypedName → List ℕ → Option TypedTerm
variable_named k [] name = None
variable_named k (v ∷ scope) name = if bytes_eq v.name name then Some (typed (bound k) v.type) else variable_named (suc k) scope name

-- `~`
abbrev pub typed_negation : ℕ → TypedTerm → TermReading
typed_negation at x = do
  s ← of_type at formula x
  Ok (typed (neg s) formula)

-- the binary connectives; `~` is none
abbrev pub typed_connection : ℕ → Conn → TypedTerm → TypedTerm → TermReading
typed_connection at conn x y = do
  s ← of_type at formula x
  t ← of_type at formula y
  Ok (typed (join conn s t) formula)

-- `=`, or `!=` where it isn't positive
abbrev pub typed_equation : ℕ → Bool → TypedTerm → TypedTerm → TermReading
typed_equation at positive x y = do
  t ← of_type at x.type y
  Ok (typed (signed positive (eq x.type x.term t)) formula)

-- `@`
abbrev pub typed_application : ℕ → TypedTerm → TypedTerm → TermReading
typed_application at x y = where_typed at (app x.term y.term) (applied_type (Some x.type) (Some y.type))

-- `!! @` and `?? @`, of a predicate on the type
abbrev pub quantified_over : ℕ → Bool → Lambda → Option SimpleType → TermReading
quantified_over at all s (Some a) = Ok (typed (quantify all a s) formula)
quantified_over at all s None = ill at Mismatch

abbrev pub typed_quantifier : ℕ → Bool → TypedTerm → TermReading
typed_quantifier at all x = quantified_over at all x.term (domain x.type)

-- `^`, of a variable of type a
abbrev pub abstracted : SimpleType → TypedTerm → TermReading
abstracted a x = Ok (typed (lam a x.term) (arrow a x.type))

-- `@+`, of a variable of type a, over a formula
abbrev pub typed_choice : SimpleType → Lambda → TermReading
typed_choice a s = Ok (typed (app (constant (choice a)) (lam a s)) a)

-- `@-`, of a variable of type a, over a formula
abbrev pub typed_description : SimpleType → Lambda → TermReading
typed_description a s = Ok (typed (app (constant (description a)) (lam a s)) a)

-- a binder of one variable, of type a, over a body
abbrev pub bind : ℕ → Binder → SimpleType → TypedTerm → TermReading
bind at binder.All a x = do
  s ← of_type at formula x
  Ok (typed (for_all a s) formula)
bind at binder.Exists a x = do
  s ← of_type at formula x
  Ok (typed (for_some a s) formula)
bind at binder.Lam a x = abstracted a x
bind at binder.Choice a x = do
  s ← of_type at formula x
  typed_choice a s
bind at binder.Desc a x = do
  s ← of_type at formula x
  typed_description a s

-- A binder of several variables is one of the first over one of the others. `body` reads what is bound, under the variables in scope.
abbrev pub read_binder : Declarations → ℕ → Binder → List VarTree → List TypedName → (List TypedName → TermReading) → TermReading
read_binder d at binder [] scope body = body scope
read_binder d at binder (v ∷ vars) scope body = do
  a ← read_type d v.ty
  x ← read_binder d at binder vars (record { name = v.name; type = a } ∷ scope) body
  bind at binder a x

-- A term under the variables in scope, innermost first.
abbrev pub read_term : Declarations → List TypedName → FormulaTree → TermReading
read_term d scope (name_tree at name) = known_term at (constant_named d.consts (symbol_named d.bases d.consts name))
read_term d scope (variable at name) = known_term at (variable_named zero scope name)
read_term d scope (truth at value) = Ok (typed (truth_value value) formula)
read_term d scope (operator at conn) = Ok (operator_term conn)
read_term d scope (negation at s) = do
  x ← read_term d scope s
  typed_negation at x
read_term d scope (binary at conn s t) = do
  x ← read_term d scope s
  y ← read_term d scope t
  typed_connection at conn x y
read_term d scope (equation at positive s t) = do
  x ← read_term d scope s
  y ← read_term d scope t
  typed_equation at positive x y
read_term d scope (application at s t) = do
  x ← read_term d scope s
  y ← read_term d scope t
  typed_application at x y
read_term d scope (quantified at all s) = do
  x ← read_term d scope s
  typed_quantifier at all x
read_term d scope (binding at binder vars body) = read_binder d at binder vars scope (λ inner. read_term d inner body)
