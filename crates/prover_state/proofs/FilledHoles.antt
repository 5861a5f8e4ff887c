-- The holes of partial terms that are opened and filled.
use Rattle.std.specs.Prelude.{◌≡◌, List, [], ◌∷◌, ◌++◌, Option, Some, None, option_map, option_and_then, unwrap_or, refl}
use Rattle.std.proofs.Common.{sym, ap, ap₂, ◌∙◌, append-nil, append_assoc}
use Rattle.std.proofs.lemmas.Option.{same_Some}
use Rattle.stt_core.specs.SimpleType.{SimpleType, base, arrow, formula}
use Rattle.stt_core.specs.Lambda.{Lambda}
use Rattle.stt_core.specs.Typing.{Scope, type_of}
use Rattle.search_spec.specs.Partial.{Hole, Partial, hole, head, function, application, first_hole, in_first, with_filling, blank_partial, with_holes}
use Rattle.search_spec.specs.State.{Sketch}
use Rattle.search_spec.specs.Commands.{filling_at, growth_by}
use Rattle.instantiate.specs.Growing.{TakesHead}
use Rattle.prover_state.specs.Internal.Holes.{holes_in, leftmost, blank_hole, argument_holes, after_head}
use Rattle.prover_state.proofs.HoleLaws.{leftmost-first}

-- one hole under the binders of a type
pub holes-blank : (context : List SimpleType) (a : SimpleType) → holes_in context (blank_partial a) ≡ blank_hole context a ∷ []
holes-blank context (base n) = refl
holes-blank context (arrow a b) = holes-blank (a ∷ context) b

-- a head with holes for its arguments
pub holes-with : (context : List SimpleType) (a : SimpleType) (p : Partial) → holes_in context (with_holes a p) ≡ holes_in context p ++ argument_holes context a
holes-with context (base n) p = sym (append-nil (holes_in context p))
holes-with context (arrow a b) p =
    holes-with context b (application p (blank_partial a))
    ∙ append_assoc (holes_in context p) (holes_in context (blank_partial a)) (argument_holes context b)
    ∙ ap (λ (hs : List Hole). holes_in context p ++ (hs ++ argument_holes context b)) (holes-blank context a)

-- the holes, where a partial term stands in place of the first one
abbrev filled_with : Partial → List Hole → Option (List Hole)
filled_with r [] = None
filled_with r (h ∷ hs) = Some (holes_in h.context r ++ hs)

in_function : (context : List SimpleType) (a : SimpleType) (x : Option Partial) → option_map (holes_in context) (option_map (function a) x) ≡ option_map (holes_in (a ∷ context)) x
in_function context a None = refl
in_function context a (Some p) = refl

in_application : (r : Partial) (context : List SimpleType) (p q : Partial) (hs ks : List Hole) (x y : Option Partial) → holes_in context p ≡ hs → holes_in context q ≡ ks → option_map (holes_in context) x ≡ filled_with r hs → option_map (holes_in context) y ≡ filled_with r ks → option_map (holes_in context) (in_first x p y q) ≡ filled_with r (hs ++ ks)
in_application r context p q (h ∷ hs) ks (Some p') y a b e f =
    let first : holes_in context p' ≡ holes_in h.context r ++ hs = same_Some (holes_in context p') (holes_in h.context r ++ hs) e in
    ap Some (ap₂ (λ (us vs : List Hole). us ++ vs) first b ∙ append_assoc (holes_in h.context r) hs ks)
in_application r context p q (h ∷ hs) ks None y a b e f = cc
in_application r context p q [] ks (Some p') y a b e f = cc
in_application r context p q [] (k ∷ ks) None (Some q') a b e f =
    let second : holes_in context q' ≡ holes_in k.context r ++ ks = same_Some (holes_in context q') (holes_in k.context r ++ ks) f in
    ap Some (ap₂ (λ (us vs : List Hole). us ++ vs) a second)
in_application r context p q [] (k ∷ ks) None None a b e f = cc
in_application r context p q [] [] None (Some q') a b e f = cc
in_application r context p q [] [] None None a b e f = refl

-- The holes after the first one is filled are those of what fills it, and the others.
pub filled-holes : (r : Partial) (context : List SimpleType) (p : Partial) → option_map (holes_in context) (with_filling r p) ≡ filled_with r (holes_in context p)
filled-holes r context (hole n) = ap Some (sym (append-nil (holes_in context r)))
filled-holes r context (head h) = refl
filled-holes r context (function a p) = in_function context a (with_filling r p) ∙ filled-holes r (a ∷ context) p
filled-holes r context (application p q) =
    in_application r context p q (holes_in context p) (holes_in context q) (with_filling r p) (with_filling r q) refl refl (filled-holes r context p) (filled-holes r context q)

module _ (scope : Scope) (h : Lambda) (s : Sketch) (takes : TakesHead scope s.partial h) where
  pub leftmost-taken : leftmost (holes_in [] s.partial) ≡ Some takes.hole
  leftmost-taken = leftmost-first [] s.partial ∙ takes.is_first

  -- the type of the head at the first hole
  pub type-taken : option_and_then (λ (k : Hole). type_of scope k.context h) (leftmost (holes_in [] s.partial)) ≡ Some takes.type
  type-taken = ap (option_and_then (λ (k : Hole). type_of scope k.context h)) leftmost-taken ∙ takes.has_type

  pub filled-taken : filling_at scope h s.partial (first_hole [] s.partial) ≡ with_filling (with_holes takes.type (head h)) s.partial
  filled-taken = ap (filling_at scope h s.partial) takes.is_first ∙ ap (λ (o : Option SimpleType). with_filling (with_holes (unwrap_or o formula) (head h)) s.partial) takes.has_type

  grown_holes : (hs : List Hole) (x : Option Partial) → leftmost hs ≡ Some takes.hole → option_map (holes_in []) x ≡ filled_with (with_holes takes.type (head h)) hs → holes_in [] (unwrap_or x s.partial) ≡ after_head takes.type hs
  grown_holes [] x e f = cc
  grown_holes (k ∷ hs) None e f = cc
  grown_holes (k ∷ hs) (Some q) e f =
      same_Some (holes_in [] q) (holes_in k.context (with_holes takes.type (head h)) ++ hs) f
      ∙ ap (λ (ks : List Hole). ks ++ hs) (holes-with k.context takes.type (head h))

  -- The holes of a partial term that has grown.
  pub grown-holes : holes_in [] (growth_by scope h s).partial ≡ after_head takes.type (holes_in [] s.partial)
  grown-holes =
      ap (λ (x : Option Partial). holes_in [] (unwrap_or x s.partial)) filled-taken
      ∙ grown_holes (holes_in [] s.partial) (with_filling (with_holes takes.type (head h)) s.partial) leftmost-taken (filled-holes (with_holes takes.type (head h)) [] s.partial)
