-- What is read of shallow trees is modest.
use Rattle.std.proofs.Common.{◌≤◌, ◌+◌, ◌&&◌, ℕ, zero, suc, max, Bool, true, false, List, [], ◌∷◌, map, length, Option, Some, None, slice_get, option_map, subst, if◌then◌else◌, arith}
use Rattle.std.specs.Prelude.{Result, Ok, Err, IfOk, is_some}
use Rattle.std.specs.Str.{bytes_eq}
use Rattle.stt_core.specs.SimpleType.{SimpleType, base, arrow, formula, same_type}
use Rattle.stt_core.specs.Lambda.{Lambda, name as constant_name, bound, constant, app, neg, eq}
use Rattle.stt_core.specs.Typing.{applied_type}
use Rattle.stt_core.specs.TypedName.{TypedName}
use Rattle.stt_core.specs.Signature.{symbol_named}
use Rattle.stt_core.specs.declared.signature.Symbol.{Symbol}
use Rattle.stt_core.specs.declared.signature.Symbol.TheVariants.{Base, Const}
use Rattle.stt_core.specs.Declarations.{Declarations}
use Rattle.stt_core.specs.PlainProblem.{PlainProblem}
use Rattle.thf_grammar.specs.Trees.{TypeTree, VarTree, FormulaTree, BodyTree, AnnotatedTree}
use Rattle.thf_grammar.specs.Trees as tree
use Rattle.thf_grammar.specs.declared.connective.Conn.{Conn}
use Rattle.thf_grammar.specs.declared.connective.Conn.TheVariants as conn
use Rattle.thf_grammar.specs.declared.connective.Binder.{Binder}
use Rattle.thf_grammar.specs.declared.connective.Binder.TheVariants as binder
use Rattle.thf_include.specs.View.{PlacedTree}
use Rattle.type_check.specs.Outcome.{IllPlace, ◌>>=◌}
use Rattle.type_check.specs.Types.{base_named, read_type}
use Rattle.type_check.specs.Typed.{TypedTerm, typed, of_type, where_typed, domain}
use Rattle.type_check.specs.Rows.{signed, truth_value, join, operator_term, quantify}
use Rattle.type_check.specs.Terms.{TermReading, known_term, constant_named, variable_named, typed_negation, typed_connection, typed_equation, typed_application, quantified_over, typed_quantifier, bind, read_binder, read_term}
use Rattle.type_check.specs.Statements.{is_role, is_conjecture, is_definition, own_place, where_formula, read_formula, where_new, with_base, with_const, with_formula, with_assumed, with_conjecture, read_body, read_known, read_statement, IllInFile, in_file, read_statements, empty_problem}
use Rattle.tableau_calculus.specs.Each.{Each}
use Rattle.search_spec.proofs.NamingLaws.{each-joined, pick_good}
use Rattle.refute_print.specs.Sizes.{nesting}
use Rattle.type_bound.specs.Modest.{IsModest, IsModestIfAny}
use Rattle.type_bound.proofs.ModestTerms.{lift_keeps}
use Rattle.read_bound.specs.Read.{nest, binders, AreShallowVars, HasShallowVars, IsShallowBody, ReadingsAreModest}
use Rattle.read_bound.proofs.GatherLaws.{IsShallowPlaced, file_shallow}

then_ok : {A B E : Type 0} (P : A → Type 0) (Q : B → Type 0) (r : Result A E) (f : A → Result B E) → IfOk r P → ((a : A) → P a → IfOk (f a) Q) → IfOk (r >>= f) Q
then_ok P Q (Ok a) f h k = k a h
then_ok P Q (Err e) f h k = tt

-- how deep types of files nest, and how deep those of terms may
abbrev L : ℕ
L = 512

abbrev M : ℕ
M = 1024

named_shallow : (at : ℕ) (o : Option Symbol) → IfOk (base_named at o) (λ a. nesting a ≤ 0)
named_shallow at (Some (Base n)) = omega arith
named_shallow at (Some (Const k)) = tt
named_shallow at None = tt

type_shallow : (d : Declarations) (t : TypeTree) → IfOk (read_type d t) (λ a. nesting a ≤ nest t)
type_shallow d (tree.form at) = omega arith
type_shallow d (tree.indiv at) = omega arith
type_shallow d (tree.named at name) = named_shallow at (symbol_named d.bases d.consts name)
type_shallow d (tree.arrow at from to) =
    then_ok (λ a. nesting a ≤ nest from) (λ a. nesting a ≤ suc (max (nest from) (nest to))) (read_type d from) (λ a. read_type d to >>= λ b. Ok (arrow a b)) (type_shallow d from)
    (λ a h. then_ok (λ b. nesting b ≤ nest to) (λ x. nesting x ≤ suc (max (nest from) (nest to))) (read_type d to) (λ b. Ok (arrow a b)) (type_shallow d to) (λ b k. omega (arith, h, k)))

-- a typed term whose type nests no deeper than so much
abbrev IsTerm : ℕ → TypedTerm → Type 0
IsTerm n x = (nesting x.type ≤ n) × IsModest M x.term

abbrev AreTyped : List TypedName → Type 0
AreTyped xs = Each (λ (x : TypedName). nesting x.type ≤ L) xs

abbrev IfTerm : ℕ → Option TypedTerm → Type 0
IfTerm n None = Unit {0}
IfTerm n (Some x) = IsTerm n x

known_modest : (at n : ℕ) (o : Option TypedTerm) → IfTerm n o → IfOk (known_term at o) (IsTerm n)
known_modest at n (Some x) h = h
known_modest at n None h = tt

abbrev IfTyped : Option TypedName → Type 0
IfTyped None = Unit {0}
IfTyped (Some x) = nesting x.type ≤ L

at_typed : (xs : List TypedName) (k : ℕ) → AreTyped xs → IfTyped (slice_get xs k)
at_typed [] k h = tt
at_typed (x ∷ xs) zero h = h.0
at_typed (x ∷ xs) (suc k) h = at_typed xs k h.1

mapped_term : (n k : ℕ) (o : Option TypedName) → L ≤ n → IfTyped o → IfTerm n (option_map (λ (c : TypedName). typed (constant (constant_name k)) c.type) o)
mapped_term n k None le h = tt
mapped_term n k (Some x) le h = (omega (arith, le, h), tt)

constant_term : (n : ℕ) (consts : List TypedName) (o : Option Symbol) → L ≤ n → AreTyped consts → IfTerm n (constant_named consts o)
constant_term n consts (Some (Const k)) le h = mapped_term n k (slice_get consts k) le (at_typed consts k h)
constant_term n consts (Some (Base k)) le h = tt
constant_term n consts None le h = tt

variable_term : (n k : ℕ) (scope : List TypedName) (name : List ℕ) → L ≤ n → AreTyped scope → IfTerm n (variable_named k scope name)
variable_term n k [] name le h = tt
variable_term n k (v ∷ scope) name le h =
    pick_good (IfTerm n) (bytes_eq v.name name) (Some (typed (bound k) v.type)) (variable_named (suc k) scope name) (omega (arith, le, h.0), tt) (variable_term n (suc k) scope name le h.1)

of_type_modest : (at : ℕ) (a : SimpleType) (x : TypedTerm) → IsModest M x.term → IfOk (of_type at a x) (IsModest M)
of_type_modest at a x h = pick_good (λ (r : Result Lambda IllPlace). IfOk r (IsModest M)) (same_type x.type a) (Ok x.term) _ h tt

formula_small : (n : ℕ) → nesting formula ≤ n
formula_small n = omega arith

negated_term : (at n : ℕ) (x : TypedTerm) → IsTerm n x → IfOk (typed_negation at x) (IsTerm n)
negated_term at n x h = then_ok (IsModest M) (IsTerm n) (of_type at formula x) (λ s. Ok (typed (neg s) formula)) (of_type_modest at formula x h.1) (λ s k. (formula_small n, (tt, k)))

join_modest : (c : Conn) (s t : Lambda) → IsModest M s → IsModest M t → IsModest M (join c s t)
join_modest conn.Not s t h k = (tt, k)
join_modest conn.And s t h k = (tt, ((tt, h), (tt, k)))
join_modest conn.Or s t h k = ((tt, (tt, h)), k)
join_modest conn.Imp s t h k = ((tt, h), k)
join_modest conn.If s t h k = ((tt, k), h)
join_modest conn.Iff s t h k = ((omega arith, h), k)
join_modest conn.Xor s t h k = (tt, ((omega arith, h), k))
join_modest conn.Nor s t h k = (tt, ((tt, (tt, h)), k))
join_modest conn.Nand s t h k = ((tt, h), (tt, k))

joined_term : (at n : ℕ) (c : Conn) (x y : TypedTerm) → IsTerm n x → IsTerm n y → IfOk (typed_connection at c x y) (IsTerm n)
joined_term at n c x y h k =
    then_ok (IsModest M) (IsTerm n) (of_type at formula x) (λ s. of_type at formula y >>= λ t. Ok (typed (join c s t) formula)) (of_type_modest at formula x h.1)
    (λ s hs. then_ok (IsModest M) (IsTerm n) (of_type at formula y) (λ t. Ok (typed (join c s t) formula)) (of_type_modest at formula y k.1) (λ t ht. (formula_small n, join_modest c s t hs ht)))

signed_modest : (positive : Bool) (s : Lambda) → IsModest M s → IsModest M (signed positive s)
signed_modest true s h = h
signed_modest false s h = (tt, h)

equated_term : (at n : ℕ) (positive : Bool) (x y : TypedTerm) → n ≤ M → IsTerm n x → IsTerm n y → IfOk (typed_equation at positive x y) (IsTerm n)
equated_term at n positive x y le h k =
    then_ok (IsModest M) (IsTerm n) (of_type at x.type y) (λ t. Ok (typed (signed positive (eq x.type x.term t)) formula)) (of_type_modest at x.type y k.1)
    (λ t ht. let index : nesting x.type ≤ M = omega (arith, le, h.0) in (formula_small n, signed_modest positive (eq x.type x.term t) ((index, h.1), ht)))

where_term : (at n : ℕ) (t : Lambda) (b : Bool) (a : SimpleType) → nesting a ≤ n → IsModest M t → IfOk (where_typed at t (if b then Some a else None)) (IsTerm n)
where_term at n t true a h k = (h, k)
where_term at n t false a h k = tt

applied_term : (at n : ℕ) (s : Lambda) (a : SimpleType) (y : TypedTerm) → nesting a ≤ n → IsModest M s → IsTerm n y → IfOk (where_typed at (app s y.term) (applied_type (Some a) (Some y.type))) (IsTerm n)
applied_term at n s (base k) y h hs hy = tt
applied_term at n s (arrow a b) y h hs hy = let result : nesting b ≤ n = omega (arith, h) in where_term at n (app s y.term) (same_type a y.type) b result (hs, hy.1)

quantify_modest : (all : Bool) (a : SimpleType) (s : Lambda) → nesting a ≤ M → IsModest M s → IsModest M (quantify all a s)
quantify_modest true a s h k = (h, k)
quantify_modest false a s h k = let binder : nesting a ≤ suc M = omega (arith, h) in (tt, (h, (binder, (tt, (lift_keeps M 0 s k, tt)))))

over_term : (at n : ℕ) (all : Bool) (s : Lambda) (b : Bool) (a : SimpleType) → nesting a ≤ M → IsModest M s → IfOk (quantified_over at all s (if b then Some a else None)) (IsTerm n)
over_term at n all s true a h k = (formula_small n, quantify_modest all a s h k)
over_term at n all s false a h k = tt

quantified_term : (at n : ℕ) (all : Bool) (s : Lambda) (a : SimpleType) → n ≤ M → nesting a ≤ n → IsModest M s → IfOk (quantified_over at all s (domain a)) (IsTerm n)
quantified_term at n all s (base k) le h hs = tt
quantified_term at n all s (arrow a b) le h hs = let index : nesting a ≤ M = omega (arith, le, h) in over_term at n all s (same_type b formula) a index hs

operator_modest : (n : ℕ) (c : Conn) → 2 ≤ n → IsTerm n (operator_term c)
operator_modest n conn.Not le = (omega (arith, le), (omega arith, (tt, tt)))
operator_modest n conn.And le = (omega (arith, le), (omega arith, (omega arith, join_modest conn.And (bound 1) (bound 0) tt tt)))
operator_modest n conn.Or le = (omega (arith, le), (omega arith, (omega arith, join_modest conn.Or (bound 1) (bound 0) tt tt)))
operator_modest n conn.Imp le = (omega (arith, le), (omega arith, (omega arith, join_modest conn.Imp (bound 1) (bound 0) tt tt)))
operator_modest n conn.If le = (omega (arith, le), (omega arith, (omega arith, join_modest conn.If (bound 1) (bound 0) tt tt)))
operator_modest n conn.Iff le = (omega (arith, le), (omega arith, (omega arith, join_modest conn.Iff (bound 1) (bound 0) tt tt)))
operator_modest n conn.Xor le = (omega (arith, le), (omega arith, (omega arith, join_modest conn.Xor (bound 1) (bound 0) tt tt)))
operator_modest n conn.Nor le = (omega (arith, le), (omega arith, (omega arith, join_modest conn.Nor (bound 1) (bound 0) tt tt)))
operator_modest n conn.Nand le = (omega (arith, le), (omega arith, (omega arith, join_modest conn.Nand (bound 1) (bound 0) tt tt)))

truth_modest : (value : Bool) → IsModest M (truth_value value)
truth_modest true = (tt, tt)
truth_modest false = tt

bind_term : (at n : ℕ) (b : Binder) (a : SimpleType) (x : TypedTerm) → nesting a ≤ L → L ≤ n → IsTerm n x → IfOk (bind at b a x) (IsTerm (suc n))
bind_term at n binder.All a x ha le h =
    let index : nesting a ≤ M = omega (arith, ha) in
    let bound_is : nesting a ≤ suc M = omega (arith, ha) in
    then_ok (IsModest M) (IsTerm (suc n)) (of_type at formula x) _ (of_type_modest at formula x h.1) (λ s k. (formula_small (suc n), (index, (bound_is, k))))
bind_term at n binder.Exists a x ha le h =
    let index : nesting a ≤ M = omega (arith, ha) in
    let bound_is : nesting a ≤ suc M = omega (arith, ha) in
    then_ok (IsModest M) (IsTerm (suc n)) (of_type at formula x) _ (of_type_modest at formula x h.1) (λ s k. (formula_small (suc n), (tt, (index, (bound_is, (tt, k))))))
bind_term at n binder.Lam a x ha le h =
    let bound_is : nesting a ≤ suc M = omega (arith, ha) in
    (omega (arith, ha, le, h.0), (bound_is, h.1))
bind_term at n binder.Choice a x ha le h =
    let index : suc (nesting a) ≤ M = omega (arith, ha) in
    let bound_is : nesting a ≤ suc M = omega (arith, ha) in
    then_ok (IsModest M) (IsTerm (suc n)) (of_type at formula x) _ (of_type_modest at formula x h.1) (λ s k. (omega (arith, ha, le), (index, (bound_is, k))))
bind_term at n binder.Desc a x ha le h =
    let index : suc (nesting a) ≤ M = omega (arith, ha) in
    let bound_is : nesting a ≤ suc M = omega (arith, ha) in
    then_ok (IsModest M) (IsTerm (suc n)) (of_type at formula x) _ (of_type_modest at formula x h.1) (λ s k. (omega (arith, ha, le), (index, (bound_is, k))))

module _ (d : Declarations) (consts : AreTyped d.consts) where
  binder_term : (at n : ℕ) (b : Binder) (vars : List VarTree) (scope : List TypedName) (body : List TypedName → TermReading) → L ≤ n → AreShallowVars L vars → AreTyped scope
      → ((inner : List TypedName) → AreTyped inner → IfOk (body inner) (IsTerm n)) → IfOk (read_binder d at b vars scope body) (IsTerm (length vars + n))
  binder_term at n b [] scope body le vs h k = subst (λ (m : ℕ). IfOk (body scope) (IsTerm m)) (omega arith) (k scope h)
  binder_term at n b (v ∷ vars) scope body le vs h k =
      subst (λ (m : ℕ). IfOk (read_binder d at b (v ∷ vars) scope body) (IsTerm m)) (omega arith)
      (then_ok (λ a. nesting a ≤ nest v.ty) (IsTerm (suc (length vars + n))) (read_type d v.ty) _ (type_shallow d v.ty)
      (λ a ha.
      let shallow : nesting a ≤ L = omega (arith, ha, vs.0) in
      let more : List TypedName = record { name = v.name; type = a } ∷ scope in
      then_ok (IsTerm (length vars + n)) (IsTerm (suc (length vars + n))) (read_binder d at b vars more body) (λ x. bind at b a x)
      (binder_term at n b vars more body le vs.1 (shallow, h) k)
      (λ x hx. bind_term at (length vars + n) b a x shallow (omega (arith, le)) hx)))

  wider_term : (n m : ℕ) (x : TypedTerm) → n ≤ m → IsTerm n x → IsTerm m x
  wider_term n m x le h = (omega (arith, le, h.0), h.1)

  wider_ok : (n m : ℕ) (r : TermReading) → n ≤ m → IfOk r (IsTerm n) → IfOk r (IsTerm m)
  wider_ok n m (Ok x) le h = wider_term n m x le h
  wider_ok n m (Err e) le h = tt

  term_modest : (n : ℕ) (scope : List TypedName) (t : FormulaTree) → L + binders t ≤ n → n ≤ M → HasShallowVars L t → AreTyped scope → IfOk (read_term d scope t) (IsTerm n)
  term_modest n scope (tree.constant at name) few le h are = known_modest at n (constant_named d.consts (symbol_named d.bases d.consts name)) (constant_term n d.consts (symbol_named d.bases d.consts name) (omega (arith, few)) consts)
  term_modest n scope (tree.variable at name) few le h are = known_modest at n (variable_named zero scope name) (variable_term n zero scope name (omega (arith, few)) are)
  term_modest n scope (tree.truth at value) few le h are = (formula_small n, truth_modest value)
  term_modest n scope (tree.operator at c) few le h are = operator_modest n c (omega (arith, few))
  term_modest n scope (tree.negation at s) few le h are = then_ok (IsTerm n) (IsTerm n) (read_term d scope s) (λ x. typed_negation at x) (term_modest n scope s few le h are) (λ x k. negated_term at n x k)
  term_modest n scope (tree.binary at c s t) few le h are =
      then_ok (IsTerm n) (IsTerm n) (read_term d scope s) (λ x. read_term d scope t >>= λ y. typed_connection at c x y) (term_modest n scope s (omega (arith, few)) le h.0 are)
      (λ x hx. then_ok (IsTerm n) (IsTerm n) (read_term d scope t) (λ y. typed_connection at c x y) (term_modest n scope t (omega (arith, few)) le h.1 are) (λ y hy. joined_term at n c x y hx hy))
  term_modest n scope (tree.equation at positive s t) few le h are =
      then_ok (IsTerm n) (IsTerm n) (read_term d scope s) (λ x. read_term d scope t >>= λ y. typed_equation at positive x y) (term_modest n scope s (omega (arith, few)) le h.0 are)
      (λ x hx. then_ok (IsTerm n) (IsTerm n) (read_term d scope t) (λ y. typed_equation at positive x y) (term_modest n scope t (omega (arith, few)) le h.1 are) (λ y hy. equated_term at n positive x y le hx hy))
  term_modest n scope (tree.application at s t) few le h are =
      then_ok (IsTerm n) (IsTerm n) (read_term d scope s) (λ x. read_term d scope t >>= λ y. typed_application at x y) (term_modest n scope s (omega (arith, few)) le h.0 are)
      (λ x hx. then_ok (IsTerm n) (IsTerm n) (read_term d scope t) (λ y. typed_application at x y) (term_modest n scope t (omega (arith, few)) le h.1 are) (λ y hy. applied_term at n x.term x.type y hx.0 hx.1 hy))
  term_modest n scope (tree.quantified at all s) few le h are =
      then_ok (IsTerm n) (IsTerm n) (read_term d scope s) (λ x. typed_quantifier at all x) (term_modest n scope s few le h are) (λ x hx. quantified_term at n all x.term x.type le hx.0 hx.1)
  term_modest n scope (tree.binding at b vars s) few le h are =
      let inner : ℕ = L + binders s in
      wider_ok (length vars + inner) n (read_binder d at b vars scope (λ more. read_term d more s)) (omega (arith, few))
      (binder_term at inner b vars scope (λ more. read_term d more s) (omega arith) h.0 are (λ more k. term_modest inner more s (omega arith) (omega (arith, few, le)) h.1 k))

  formula_modest : (t : FormulaTree) → binders t ≤ L → HasShallowVars L t → IfOk (read_formula d t) (IsModest M)
  formula_modest t few h =
      then_ok (IsTerm M) (IsModest M) (read_term d [] t) (λ x. where_formula (own_place t) x) (term_modest M [] t (omega (arith, few)) (omega arith) h tt)
      (λ x hx. pick_good (λ (r : Result Lambda IllPlace). IfOk r (IsModest M)) (same_type x.type formula) (Ok x.term) _ hx.1 tt)

-- what is stated so far
record IsSoFar (p : PlainProblem) : Type 0 where
  consts : AreTyped p.declared.consts
  assumed : Each (IsModest M) p.assumed
  conjecture : IsModestIfAny M p.conjecture

new_ok : (at : ℕ) (name : List ℕ) (p : PlainProblem) (r : Result PlainProblem IllPlace) → IfOk r IsSoFar → IfOk (where_new at name p r) IsSoFar
new_ok at name p r h = pick_good (λ (x : Result PlainProblem IllPlace). IfOk x IsSoFar) (is_some (symbol_named p.declared.bases p.declared.consts name)) _ r tt h

with_formula_ok : (role : List ℕ) (t : Lambda) (p : PlainProblem) → IsModest M t → IsSoFar p → IsSoFar (with_formula role t p)
with_formula_ok role t p h s =
    pick_good IsSoFar (is_conjecture role) (with_conjecture t p) (with_assumed (is_definition role) t p) (record { consts = s.consts; assumed = s.assumed; conjecture = h })
    (record { consts = s.consts; assumed = each-joined (IsModest M) p.assumed (t ∷ []) s.assumed (h, tt); conjecture = s.conjecture })

body_ok : (p : PlainProblem) (role : List ℕ) (b : BodyTree) → IsShallowBody L b → IsSoFar p → IfOk (read_body p role b) IsSoFar
body_ok p role (tree.base at name) h s = new_ok at name p (Ok (with_base name p)) (record { consts = s.consts; assumed = s.assumed; conjecture = s.conjecture })
body_ok p role (tree.typing at name ty) h s =
    new_ok at name p (read_type p.declared ty >>= λ a. Ok (with_const name a p))
    (then_ok (λ a. nesting a ≤ nest ty) IsSoFar (read_type p.declared ty) (λ a. Ok (with_const name a p)) (type_shallow p.declared ty)
    (λ a k.
    let shallow : nesting a ≤ L = omega (arith, h, k) in
    record { consts = each-joined (λ (x : TypedName). nesting x.type ≤ L) p.declared.consts (record { name = name; type = a } ∷ []) s.consts (shallow, tt); assumed = s.assumed; conjecture = s.conjecture }))
body_ok p role (tree.formula t) h s =
    then_ok (IsModest M) IsSoFar (read_formula p.declared t) (λ u. Ok (with_formula role u p)) (formula_modest p.declared s.consts t h.0 h.1) (λ u k. with_formula_ok role u p k s)

statement_ok : (p : PlainProblem) (a : AnnotatedTree) → IsShallowBody L a.body → IsSoFar p → IfOk (read_statement p a) IsSoFar
statement_ok p a h s =
    let R : Result PlainProblem IllPlace → Type 0 = λ x. IfOk x IsSoFar in
    pick_good R (is_role a.role) (read_known p a) _ (pick_good R (is_conjecture a.role && is_some p.conjecture) _ (read_body p a.role a.body) tt (body_ok p a.role a.body h s)) tt

in_file_ok : (file : ℕ) (r : Result PlainProblem IllPlace) → IfOk r IsSoFar → IfOk (in_file file r) IsSoFar
in_file_ok file (Ok p) h = h
in_file_ok file (Err e) h = tt

statements_ok : (p : PlainProblem) (ss : List PlacedTree) → Each IsShallowPlaced ss → IsSoFar p → IfOk (read_statements p ss) IsSoFar
statements_ok p [] h s = s
statements_ok p (x ∷ ss) h s =
    then_ok IsSoFar IsSoFar (in_file x.file (read_statement p x.statement)) (λ q. read_statements q ss) (in_file_ok x.file (read_statement p x.statement) (statement_ok p x.statement h.0 s)) (λ q k. statements_ok q ss h.1 k)

const_types : (xs : List TypedName) → AreTyped xs → Each (λ a. nesting a ≤ M) (map (λ (c : TypedName). c.type) xs)
const_types [] h = tt
const_types (x ∷ xs) h = (omega (arith, h.0), const_types xs h.1)

pub readings_modest : ReadingsAreModest
readings_modest texts name names ss p gathers e =
    let ok = statements_ok empty_problem ss (file_shallow texts gathers) (record { consts = tt; assumed = tt; conjecture = tt }) in
    let s : IsSoFar p = subst (λ (r : Result PlainProblem IllInFile). IfOk r IsSoFar) e ok in
    record { some = omega arith; names = const_types p.declared.consts s.consts; assumed = s.assumed; conjecture = s.conjecture }
