-- The text of a term is that of its pieces.
use Rattle.std.proofs.Common.{◌≡◌, ℕ, zero, suc, ◌≢◌, List, [], ◌∷◌, ◌++◌, length, slice_get, Some, codes, refl, sym, ap, subst, ◌∙◌, append_assoc, append-nil, arith}
use Rattle.stt_core.specs.SimpleType.{SimpleType}
use Rattle.stt_core.specs.Lambda.{Lambda, bound, constant, lam, app, lambdas, applied, IsLeaf}
use Rattle.stt_core.specs.View.{the_head}
use Rattle.stt_core.specs.declared.nf.Head.{Head}
use Rattle.stt_core.specs.declared.nf.Head.TheVariants as head
use Rattle.refute_print.specs.Text.{text_of_type, term_text, spine_text}
use Rattle.refute_print.specs.Named.{Names, named_type, named_term, HasTypeNames, HasNames}
use Rattle.refute_print.specs.Internal.Pieces.{lambda_piece, binders_text, argument_text, arguments_text, applied_text, BindersHaveNames, ArgumentsHaveNames}

pub spine_text-applied : (names : Names) (t : Lambda) (us : List Lambda) → spine_text (named_term names (applied t us)) ≡ spine_text (named_term names t) ++ arguments_text names us
spine_text-applied names t [] = sym (append-nil (spine_text (named_term names t)))
spine_text-applied names t (u ∷ us) =
    spine_text-applied names (app t u) us
    ∙ append_assoc (spine_text (named_term names t)) (argument_text names u) (arguments_text names us)

-- an application in parentheses
term_text-app : (names : Names) (t u : Lambda) (us : List Lambda) → term_text (named_term names (applied (app t u) us)) ≡ codes "(" ++ (spine_text (named_term names (applied (app t u) us)) ++ codes ")")
term_text-app names t u [] =
    ap (λ x. codes "(" ++ x) (sym (append_assoc (spine_text (named_term names t)) (argument_text names u) (codes ")")))
term_text-app names t u (v ∷ us) = term_text-app names (app t u) v us

spine_text-leaf : (names : Names) (h : Lambda) → IsLeaf h → spine_text (named_term names h) ≡ term_text (named_term names h)
spine_text-leaf names (bound k) l = refl
spine_text-leaf names (constant c) l = refl
spine_text-leaf names (lam a s) l = absurd l
spine_text-leaf names (app s u) l = absurd l

pub term_text-applied : (names : Names) (h : Lambda) (us : List Lambda) → IsLeaf h → term_text (named_term names (applied h us)) ≡ applied_text names h us
term_text-applied names h [] l = refl
term_text-applied names h (u ∷ us) l =
    term_text-app names h u us
    ∙ ap (λ x. codes "(" ++ (x ++ codes ")")) (spine_text-applied names h (u ∷ us))
    ∙ ap (λ x. codes "(" ++ x) (append_assoc (spine_text (named_term names h)) (arguments_text names (u ∷ us)) (codes ")"))
    ∙ ap (λ x. codes "(" ++ (x ++ (arguments_text names (u ∷ us) ++ codes ")"))) (spine_text-leaf names h l)

pub term_text-lambdas : (names : Names) (bs : List SimpleType) (t : Lambda) → term_text (named_term names (lambdas bs t)) ≡ binders_text names bs ++ term_text (named_term names t)
term_text-lambdas names [] t = refl
term_text-lambdas names (a ∷ bs) t =
    ap (λ x. codes "^" ++ (text_of_type (named_type names a) ++ (codes "." ++ x))) (term_text-lambdas names bs t)
    ∙ ap (λ x. codes "^" ++ x) (sym (append_assoc (text_of_type (named_type names a)) (codes ".") (binders_text names bs ++ term_text (named_term names t))))
    ∙ sym (append_assoc (lambda_piece names a) (binders_text names bs) (term_text (named_term names t)))

-- the pieces of a term
pub whole_text : (names : Names) (bs : List SimpleType) (h : Lambda) (us : List Lambda) (t : Lambda) → IsLeaf h → lambdas bs (applied h us) ≡ t → binders_text names bs ++ applied_text names h us ≡ term_text (named_term names t)
whole_text names bs h us t l e =
    ap (λ x. binders_text names bs ++ x) (sym (term_text-applied names h us l))
    ∙ sym (term_text-lambdas names bs (applied h us))
    ∙ ap (λ x. term_text (named_term names x)) e

pub applied_text-some : (names : Names) (h : Lambda) (us : List Lambda) → length us ≢ 0 → codes "(" ++ (term_text (named_term names h) ++ (arguments_text names us ++ codes ")")) ≡ applied_text names h us
applied_text-some names h [] n = absurd (n refl)
applied_text-some names h (u ∷ us) n = refl

-- what has names under binders, and of a head with arguments
pub binders_named : (names : Names) (bs : List SimpleType) (t : Lambda) → HasNames names (lambdas bs t) → BindersHaveNames names bs × HasNames names t
binders_named names [] t h = (tt, h)
binders_named names (a ∷ bs) t h = let r = binders_named names bs t h.1 in ((h.0, r.0), r.1)

pub applied_named : (names : Names) (t : Lambda) (us : List Lambda) → HasNames names (applied t us) → HasNames names t × ArgumentsHaveNames names us
applied_named names t [] h = (h, tt)
applied_named names t (u ∷ us) h = let r = applied_named names (app t u) us h in (r.0.0, (r.0.1, r.1))

pub pieces_named : (names : Names) (bs : List SimpleType) (h : Lambda) (us : List Lambda) (t : Lambda) → lambdas bs (applied h us) ≡ t → HasNames names t → BindersHaveNames names bs × (HasNames names h × ArgumentsHaveNames names us)
pieces_named names bs h us t e k =
    let r = binders_named names bs (applied h us) (subst (HasNames names) (sym e) k) in
    (r.0, applied_named names h us r.1)

pub binder_named : (names : Names) (bs : List SimpleType) (i : ℕ) (a : SimpleType) → slice_get bs i ≡ Some a → BindersHaveNames names bs → HasTypeNames names a
binder_named names [] i a e h = cc
binder_named names (b ∷ bs) zero a e h = let q : b ≡ a = cc in subst (HasTypeNames names) q h.0
binder_named names (b ∷ bs) (suc i) a e h = binder_named names bs i a e h.1

pub argument_named : (names : Names) (us : List Lambda) (i : ℕ) (u : Lambda) → slice_get us i ≡ Some u → ArgumentsHaveNames names us → HasNames names u
argument_named names [] i u e h = cc
argument_named names (v ∷ us) zero u e h = let q : v ≡ u = cc in subst (HasNames names) q h.0
argument_named names (v ∷ us) (suc i) u e h = argument_named names us i u e h.1

pub leaf_head : (h : Head) → IsLeaf (the_head h)
leaf_head (head.Bound k) = tt
leaf_head (head.Name k) = tt
leaf_head (head.Wit k) = tt
leaf_head head.False = tt
leaf_head head.Not = tt
leaf_head head.Imp = tt
leaf_head (head.All a) = tt
leaf_head (head.Eq a) = tt
leaf_head (head.Choice a) = tt
leaf_head (head.Desc a) = tt

-- an application behind a space
pub argument_text-applied : (names : Names) (bs : List SimpleType) (h : Lambda) (us : List Lambda) (t : Lambda) → IsLeaf h → length bs ≡ 0 → length us ≢ 0 → lambdas bs (applied h us) ≡ t → codes " (" ++ (term_text (named_term names h) ++ (arguments_text names us ++ codes ")")) ≡ argument_text names t
argument_text-applied names [] h us t l none some e = ap (λ x. codes " " ++ x) (applied_text-some names h us some ∙ whole_text names [] h us t l e)
argument_text-applied names (a ∷ bs) h us t l none some e = absurd (omega (arith, none))
