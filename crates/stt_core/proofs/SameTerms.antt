-- The test whether two terms are the same tells whether they are.
use Rattle.std.proofs.Common.{◌≡◌, refl, ap, ap₂, sym, ◌∙◌, true, eq-eqb}
use Rattle.std.proofs.lemmas.Bool.{eqb-true, and_parts, and_from}
use Rattle.stt_core.specs.Lambda.{Constant, name, witness, falsity, negation, implication, all, equality, choice, description, Lambda, bound, constant, lam, app}
use Rattle.stt_core.specs.SameTerm.{same_constant, same_term}
use Rattle.stt_core.proofs.TypeLaws.{same_type_refl, same_type-true}

same_constant-refl : (c : Constant) → same_constant c c ≡ true
same_constant-refl (name k) = eq-eqb k k refl
same_constant-refl (witness k) = eq-eqb k k refl
same_constant-refl falsity = refl
same_constant-refl negation = refl
same_constant-refl implication = refl
same_constant-refl (all a) = same_type_refl a
same_constant-refl (equality a) = same_type_refl a
same_constant-refl (choice a) = same_type_refl a
same_constant-refl (description a) = same_type_refl a

same_constant-true : (c d : Constant) → same_constant c d ≡ true → c ≡ d
same_constant-true (name j) (name k) h = ap name (eqb-true j k h)
same_constant-true (witness j) (witness k) h = ap witness (eqb-true j k h)
same_constant-true falsity falsity h = refl
same_constant-true negation negation h = refl
same_constant-true implication implication h = refl
same_constant-true (all a) (all b) h = ap all (same_type-true a b h)
same_constant-true (equality a) (equality b) h = ap equality (same_type-true a b h)
same_constant-true (choice a) (choice b) h = ap choice (same_type-true a b h)
same_constant-true (description a) (description b) h = ap description (same_type-true a b h)
same_constant-true c d h = cc

pub same_term-refl : (t : Lambda) → same_term t t ≡ true
same_term-refl (bound k) = eq-eqb k k refl
same_term-refl (constant c) = same_constant-refl c
same_term-refl (lam a s) = and_from _ _ (same_type_refl a) (same_term-refl s)
same_term-refl (app s u) = and_from _ _ (same_term-refl s) (same_term-refl u)

pub same_term-true : (s t : Lambda) → same_term s t ≡ true → s ≡ t
same_term-true (bound j) (bound k) h = ap bound (eqb-true j k h)
same_term-true (constant c) (constant d) h = ap constant (same_constant-true c d h)
same_term-true (lam a s) (lam b t) h = let p = and_parts _ _ h in ap₂ lam (same_type-true a b p.0) (same_term-true s t p.1)
same_term-true (app s u) (app t v) h = let p = and_parts _ _ h in ap₂ app (same_term-true s t p.0) (same_term-true u v p.1)
same_term-true s t h = cc

pub same_term-of : (s t : Lambda) → s ≡ t → same_term s t ≡ true
same_term-of s t e = ap (same_term s) (sym e) ∙ same_term-refl s
