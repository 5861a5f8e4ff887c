-- Tests of types tell whether terms are typed.
use Rattle.std.proofs.Common.{◌≡◌, List, [], ◌∷◌, Option, Some, None, Bool, true, false, IsTrue, is_some, sym, ap, subst, ◌∙◌}
use Rattle.stt_core.specs.SimpleType.{SimpleType, arrow, formula, predicate, same_type}
use Rattle.stt_core.specs.Lambda.{Lambda}
use Rattle.stt_core.specs.Typing.{Scope}
use Rattle.stt_core.specs.Canonical.{IsCanonical}
use Rattle.stt_core.specs.Internal.CanonicalType.{canonical_type}
use Rattle.stt_core.proofs.TypeLaws.{same_type_tells}
use Rattle.stt_core.proofs.CanonicalTypes.{canonical-is, canonical_type-at}
use Rattle.tableau_calculus.specs.Literals.{Literal, is_negated, IsLiteral, IsBranch}
use Rattle.tableau_calculus.specs.Witnesses.{Row}
use Rattle.tableau_calculus.proofs.ListLaws.{Each, contains-first, contains-later}

pub type_tells : (o : Option SimpleType) (a b : SimpleType) (r : Bool) → o ≡ Some a → r ≡ same_type a b → (IsTrue r → o ≡ Some b) × (o ≡ Some b → IsTrue r)
type_tells o a b r is e =
    let t = same_type_tells a b r e in
    (λ h. is ∙ ap Some (t.0 h), λ h. let s : Some a ≡ Some b = sym is ∙ h in let same : a ≡ b = cc in t.1 same)

pub predicate_tells : (o : Option SimpleType) (a b : SimpleType) (r : Bool) → o ≡ Some (arrow a b) → r ≡ same_type b formula → (IsTrue r → (c : SimpleType) × (o ≡ Some (predicate c))) × (((c : SimpleType) × (o ≡ Some (predicate c))) → IsTrue r)
predicate_tells o a b r is e =
    let t = same_type_tells b formula r e in
    (λ h. (a, is ∙ ap (λ x. Some (arrow a x)) (t.0 h)), λ h. let s : Some (arrow a b) ≡ Some (predicate h.0) = sym is ∙ h.1 in let same : b ≡ formula = cc in t.1 same)

-- the type that was found tells whether the term is canonical of a type
pub canonical_tells : (scope : Scope) (t : Lambda) (o : Option SimpleType) → o ≡ canonical_type scope [] t → (a : SimpleType) → (o ≡ Some a → IsCanonical scope [] a t) × (IsCanonical scope [] a t → o ≡ Some a)
canonical_tells scope t o e a =
    (λ h. canonical-is scope [] a t (sym e ∙ h), λ h. e ∙ canonical_type-at scope [] a t h)

pub some_type_tells : (scope : Scope) (t : Lambda) (o : Option SimpleType) (r : Bool) → o ≡ canonical_type scope [] t → r ≡ is_some o → (IsTrue r → (a : SimpleType) × IsCanonical scope [] a t) × (((a : SimpleType) × IsCanonical scope [] a t) → IsTrue r)
some_type_tells scope t o r e f =
    (λ h. found o e (sym f ∙ h), λ h. f ∙ ap is_some ((canonical_tells scope t o e h.0).1 h.1))
  where
    found : (o : Option SimpleType) → o ≡ canonical_type scope [] t → is_some o ≡ true → (a : SimpleType) × IsCanonical scope [] a t
    found None e h = cc
    found (Some a) e h = (a, canonical-is scope [] a t (sym e))

pub literal_tells : (scope : Scope) (l k : Literal) (o : Option SimpleType) (r : Bool) → o ≡ canonical_type scope [] l.atom → is_negated l.atom ≡ false → (IsTrue r → o ≡ Some formula) × (o ≡ Some formula → IsTrue r) → l ≡ k → (IsTrue r → IsLiteral scope k) × (IsLiteral scope k → IsTrue r)
literal_tells scope l k o r e unsigned t same =
    let c = canonical_tells scope l.atom o e formula in
    (λ h. subst (IsLiteral scope) same (record { formula = c.0 (t.0 h); unsigned = unsigned }), λ h. t.1 (c.1 (subst (IsLiteral scope) (sym same) h).formula))

pub branch-each : (scope : Scope) (branch : List Literal) → Each (IsLiteral scope) branch → IsBranch scope branch
branch-each scope [] h = tt
branch-each scope (l ∷ branch) h = (h l (contains-first l branch), branch-each scope branch (λ k j. h k (contains-later k l branch j)))

pub row_tells : (scope : Scope) (q r : Row) (o : Option SimpleType) (b : Bool) → o ≡ canonical_type scope [] q.predicate → (IsTrue b → o ≡ Some (predicate q.type)) × (o ≡ Some (predicate q.type) → IsTrue b) → q ≡ r → (IsTrue b → IsCanonical scope [] (predicate r.type) r.predicate) × (IsCanonical scope [] (predicate r.type) r.predicate → IsTrue b)
row_tells scope q r o b e t same =
    let c = canonical_tells scope q.predicate o e (predicate q.type) in
    (λ h. subst (λ x. IsCanonical scope [] (predicate x.type) x.predicate) same (c.0 (t.0 h)), λ h. t.1 (c.1 (subst (λ x. IsCanonical scope [] (predicate x.type) x.predicate) (sym same) h)))
