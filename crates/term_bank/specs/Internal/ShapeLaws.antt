-- The test of nodes decides whether they are the same, so nodes may be keys.
use Rattle.std.specs.Prelude.{◌≡◌, true, refl}
use Rattle.std.specs.Bool.{Decides}
use Rattle.std.specs.Cmp.{IsEquivalence, decided, on_equiv, partial_equiv_from_equiv, IsPartialEquivalence}
use Rattle.std.specs.Cmp.Lexicographic.{bytes_decides}
use Rattle.std.proofs.Common.{ap, ap₂, ◌∙◌, sym, eq-eqb}
use Rattle.std.proofs.lemmas.Bool.{and_parts, and_from, eqb-true}
use Rattle.stt_core.proofs.TypeLaws.{same_type-true, same_type_refl}
use Rattle.stt_core.proofs.SameTerms.{same_term-true, same_term-refl}
use Rattle.term_bank.specs.Shape.{Shape, abstraction, spine, same_shape}
use Rattle.term_bank.specs.Internal.ShapeHash.{shape_writes}
use Rattle.term_bank.specs.NodeView.{the_shape}
use Rattle.term_bank.specs.declared.node.Node.{Node}

same-true : (s t : Shape) → same_shape s t ≡ true → s ≡ t
same-true (abstraction a i) (abstraction b j) h = let p = and_parts _ _ h in ap₂ abstraction (same_type-true a b p.0) (eqb-true i j p.1)
same-true (spine h is) (spine k js) e = let p = and_parts _ _ e in ap₂ spine (same_term-true h k p.0) ((bytes_decides is js).0 p.1)
same-true (abstraction a i) (spine k js) h = cc
same-true (spine k js) (abstraction a i) h = cc

same-refl : (s : Shape) → same_shape s s ≡ true
same-refl (abstraction a i) = and_from _ _ (same_type_refl a) (eq-eqb i i refl)
same-refl (spine h is) = and_from _ _ (same_term-refl h) ((bytes_decides is is).1 refl)

pub shape_decides : (s t : Shape) → Decides (same_shape s t) (s ≡ t)
shape_decides s t = (same-true s t, λ e. ap (same_shape s) (sym e) ∙ same-refl s)

pub node_laws : IsEquivalence (λ (a b : Node). same_shape (the_shape a) (the_shape b))
node_laws = on_equiv the_shape (decided same_shape shape_decides)

pub node_partial_laws : IsPartialEquivalence (λ (a b : Node). same_shape (the_shape a) (the_shape b))
node_partial_laws = partial_equiv_from_equiv node_laws

pub node_respects : (a b : Node) → same_shape (the_shape a) (the_shape b) ≡ true → shape_writes (the_shape a) ≡ shape_writes (the_shape b)
node_respects a b h = ap shape_writes (same-true (the_shape a) (the_shape b) h)
