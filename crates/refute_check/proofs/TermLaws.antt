-- Numbered terms by their parts.
use Rattle.std.proofs.Common.{◌≡◌, ℕ, zero, suc, ◌<◌, List, [], ◌∷◌, ◌++◌, Some, None, slice_get, map, refl, sym, ap, ap₂, ◌∙◌, arith}
use Rattle.stt_core.specs.SimpleType.{SimpleType, base}
use Rattle.stt_core.specs.Lambda.{Lambda, lam, lambdas}
use Rattle.stt_core.specs.Lambda as lambda
use Rattle.stt_core.specs.View.{the_head}
use Rattle.stt_core.specs.declared.nf.Head.{Head}
use Rattle.stt_core.specs.declared.nf.Head.TheVariants as head
use Rattle.refute_print.specs.Trees.{TextTypeTree, TermTree, app, applied_tree}
use Rattle.refute_print.specs.Trees as tree
use Rattle.refute_print.specs.Internal.TreeSizes.{tree_node_count, tree_node_counts}
use Rattle.refute_print.specs.Named.{Names}
use Rattle.refute_check.specs.Numbered.{numbered_type, numbered_term}
use Rattle.witness_names.specs.Rows.{binder_of}

pub numbered_term-applied : (names : Names) (h : TermTree) (us : List TermTree) → numbered_term names (applied_tree h us) ≡ lambda.applied (numbered_term names h) (map (numbered_term names) us)
numbered_term-applied names h [] = refl
numbered_term-applied names h (u ∷ us) = numbered_term-applied names (app h u) us

-- the last binder binds within the others
pub lambdas-push : (as' : List SimpleType) (a : SimpleType) (t : Lambda) → lambdas (as' ++ a ∷ []) t ≡ lambdas as' (lam a t)
lambdas-push [] a t = refl
lambdas-push (b ∷ as') a t = ap (lam b) (lambdas-push as' a t)

pub node_count-at : (us : List TermTree) (i : ℕ) (u : TermTree) → slice_get us i ≡ Some u → tree_node_count u < tree_node_counts us
node_count-at [] i u h = cc
node_count-at (v ∷ us) zero u h = let e : v ≡ u = cc in omega (arith, ap tree_node_count e)
node_count-at (v ∷ us) (suc i) u h = omega (arith, node_count-at us i u h)

-- a function under binders is its body under one binder more
pub under_more : (names : Names) (bs more : List SimpleType) (a : SimpleType) (ty : TextTypeTree) (body whole : TermTree) (t : Lambda) → t ≡ lambdas more (numbered_term names body) → more ≡ bs ++ a ∷ [] → a ≡ numbered_type names ty → tree.lam ty body ≡ whole
    → t ≡ lambdas bs (numbered_term names whole)
under_more names bs more a ty body whole t h m e w =
    h
    ∙ ap (λ l. lambdas l (numbered_term names body)) m
    ∙ lambdas-push bs a (numbered_term names body)
    ∙ ap (λ b. lambdas bs (lam b (numbered_term names body))) e
    ∙ ap (λ u. lambdas bs (numbered_term names u)) w

-- a head with its arguments under binders
pub under_applied : (names : Names) (bs : List SimpleType) (h : Lambda) (args : List Lambda) (head : TermTree) (us : List TermTree) (whole : TermTree) → h ≡ numbered_term names head → args ≡ map (numbered_term names) us → applied_tree head us ≡ whole
    → lambdas bs (lambda.applied h args) ≡ lambdas bs (numbered_term names whole)
under_applied names bs h args head us whole e as' w =
    ap (lambdas bs)
    (ap₂ lambda.applied e as' ∙ sym (numbered_term-applied names head us) ∙ ap (numbered_term names) w)

argument_type-applied : (t : Lambda) (us : List Lambda) → binder_of t ≡ base 0 → binder_of (lambda.applied t us) ≡ base 0
argument_type-applied t [] h = h
argument_type-applied t (u ∷ us) h = argument_type-applied (lambda.app t u) us refl

no_function : (h : Head) → binder_of (the_head h) ≡ base 0
no_function (head.Bound k) = refl
no_function (head.Name k) = refl
no_function (head.Wit k) = refl
no_function head.False = refl
no_function head.Not = refl
no_function head.Imp = refl
no_function (head.All a) = refl
no_function (head.Eq a) = refl
no_function (head.Choice a) = refl
no_function (head.Desc a) = refl

-- the first binder's type is the argument's
pub argument_type-first : (bs : List SimpleType) (b : SimpleType) (t whole : Lambda) → slice_get bs 0 ≡ Some b → lambdas bs t ≡ whole → b ≡ binder_of whole
argument_type-first [] b t whole h w = cc
argument_type-first (c ∷ bs) b t whole h w = let e : c ≡ b = cc in sym e ∙ ap binder_of w

pub argument_type-none : (bs : List SimpleType) (h : Head) (us : List Lambda) (whole : Lambda) → slice_get bs 0 ≡ None → lambdas bs (lambda.applied (the_head h) us) ≡ whole → base 0 ≡ binder_of whole
argument_type-none [] h us whole n w = sym (argument_type-applied (the_head h) us (no_function h)) ∙ ap binder_of w
argument_type-none (b ∷ bs) h us whole n w = cc
