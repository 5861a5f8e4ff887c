-- Heads, arguments, and what the tests of terms say.
use Rattle.std.specs.Prelude.{◌≡◌, true, List, [], ◌∷◌, ◌++◌, refl}
use Rattle.std.proofs.Common.{sym, ap, ap₂, ◌∙◌}
use Rattle.std.proofs.lemmas.Bool.{and_parts}
use Rattle.stt_core.specs.SimpleType.{SimpleType}
use Rattle.stt_core.specs.Lambda.{Constant, name, witness, falsity, negation, implication, all, equality, choice, description, Lambda, bound, constant, lam, app, applied, eq}
use Rattle.stt_core.proofs.SameTerms.{same_term-true}
use Rattle.stt_core.proofs.TypeLaws.{same_type-true}
use Rattle.tableau_calculus.specs.Rules.{IsDecomposed}
use Rattle.search_spec.specs.Spine.{head_of, arguments, is_compared, has_compared_head, is_application, is_spine, same_head}
use Rattle.search_spec.specs.Partners.{equates_on}

applied-last : (h : Lambda) (us : List Lambda) (u : Lambda) → applied h (us ++ u ∷ []) ≡ app (applied h us) u
applied-last h [] u = refl
applied-last h (v ∷ us) u = applied-last (app h v) us u

pub applied_whole : (t : Lambda) → applied (head_of t) (arguments t) ≡ t
applied_whole (bound k) = refl
applied_whole (constant c) = refl
applied_whole (lam a s) = refl
applied_whole (app s u) = applied-last (head_of s) (arguments s) u ∙ ap (λ t. app t u) (applied_whole s)

pub decomposed_is : (c : Constant) → is_compared c ≡ true → IsDecomposed c
decomposed_is (name k) e = tt
decomposed_is (witness k) e = tt
decomposed_is (choice a) e = tt
decomposed_is (description a) e = tt
decomposed_is falsity e = cc
decomposed_is negation e = cc
decomposed_is implication e = cc
decomposed_is (all a) e = cc
decomposed_is (equality a) e = cc

pub compared_is : (t : Lambda) → has_compared_head t ≡ true → (c : Constant) × IsDecomposed c × (t ≡ constant c)
compared_is (constant c) e = (c, decomposed_is c e, refl)
compared_is (bound k) e = cc
compared_is (lam a s) e = cc
compared_is (app s u) e = cc

-- a list with an element at its end has a first one
first_of : {A : Type 0} (xs : List A) (x : A) → (y : A) × (ys : List A) × (xs ++ x ∷ [] ≡ y ∷ ys)
first_of [] x = (x, [], refl)
first_of (z ∷ xs) x = (z, xs ++ x ∷ [], refl)

pub arguments_are : (t : Lambda) → is_application t ≡ true → (s : Lambda) × (ss : List Lambda) × (arguments t ≡ s ∷ ss)
arguments_are (app s u) e = first_of (arguments s) u
arguments_are (bound k) e = cc
arguments_are (constant c) e = cc
arguments_are (lam a s) e = cc

-- a compared constant with arguments
pub record IsSpineOf (t : Lambda) : Type 0 where
  pub head : Constant
  pub compared : IsDecomposed head
  pub first : Lambda
  pub more : List Lambda
  pub head_is : head_of t ≡ constant head
  pub arguments_are : arguments t ≡ first ∷ more
  pub is : t ≡ applied (constant head) (first ∷ more)

pub spine_is : (t : Lambda) → is_spine t ≡ true → IsSpineOf t
spine_is t e =
    let p = and_parts _ _ e in
    let c = compared_is (head_of t) p.1 in
    let a = arguments_are t p.0 in
    record { head = c.0; compared = c.1; first = a.0; more = a.1; head_is = c.2; arguments_are = a.2; is = sym (applied_whole t) ∙ ap₂ applied c.2 a.2 }

pub same_head_is : (s t : Lambda) → same_head s t ≡ true → head_of s ≡ head_of t
same_head_is s t e = same_term-true (head_of s) (head_of t) e

-- an equation on this type
pub equation_is : (a : SimpleType) (t : Lambda) → equates_on a t ≡ true → (u : Lambda) × (v : Lambda) × (t ≡ eq a u v)
equation_is a (bound k) e = cc
equation_is a (constant c) e = cc
equation_is a (lam b s) e = cc
equation_is a (app (bound k) u) e = cc
equation_is a (app (constant c) u) e = cc
equation_is a (app (lam b s) u) e = cc
equation_is a (app (app (bound k) v) u) e = cc
equation_is a (app (app (lam b s) v) u) e = cc
equation_is a (app (app (app s w) v) u) e = cc
equation_is a (app (app (constant (name k)) v) u) e = cc
equation_is a (app (app (constant (witness k)) v) u) e = cc
equation_is a (app (app (constant falsity) v) u) e = cc
equation_is a (app (app (constant negation) v) u) e = cc
equation_is a (app (app (constant implication) v) u) e = cc
equation_is a (app (app (constant (all b)) v) u) e = cc
equation_is a (app (app (constant (choice b)) v) u) e = cc
equation_is a (app (app (constant (description b)) v) u) e = cc
equation_is a (app (app (constant (equality b)) v) u) e = (v, u, ap (λ c. eq c v u) (sym (same_type-true a b e)))
