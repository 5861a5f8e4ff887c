-- Negations that are taken off one after the other.
use Rattle.std.specs.Prelude.{◌≡◌, ◌<◌, ℕ, Bool, true, false, not, List, [], Some, refl}
use Rattle.std.proofs.Common.{sym, ap, ◌∙◌, subst}
use Rattle.std.proofs.lemmas.List.Elements.{All-head}
use Rattle.stt_core.specs.Lambda.{Lambda, neg}
use Rattle.tableau_calculus.specs.Literals.{Literal, opposite, as_literal, is_negated}
use Rattle.tableau_calculus.specs.Kinds.{same_sign}
use Rattle.tableau_calculus.proofs.LiteralLaws.{opposite_twice}
use Rattle.term_bank.specs.Shape.{Shape}
use Rattle.term_bank.specs.Terms.{term_at, shape_term, IsBelow}
use Rattle.literal_map.specs.Internal.Denied.{IsDenied}
use Rattle.literal_map.proofs.SignLaws.{unsigned_literal}

-- the literal with this sign in place of a positive one
abbrev pub with_sign : Bool → Literal → Literal
with_sign b l = record { positive = same_sign b l.positive; atom = l.atom }

peel : (b : Bool) (s : Lambda) → with_sign (not b) (as_literal s) ≡ with_sign b (as_literal (neg s))
peel true s = refl
peel false s = sym (opposite_twice (as_literal s))

-- a negation is taken off
pub sign-peeled : (ts : List Lambda) (b : Bool) (t : Lambda) (s : Shape) (i : ℕ) → t ≡ shape_term ts s → IsDenied s (Some i) → with_sign (not b) (as_literal (term_at ts i)) ≡ with_sign b (as_literal t)
sign-peeled ts b t s i e d = peel b (term_at ts i) ∙ sym (ap (λ x. with_sign b (as_literal x)) (e ∙ ap (shape_term ts) d))

-- what is negated stands below
pub below-peeled : (n i : ℕ) (s : Shape) → IsBelow n s → IsDenied s (Some i) → i < n
below-peeled n i s h d = All-head (λ j. j < n) i [] (subst (IsBelow n) d h)

-- where no negation is left the sign is that of the formula's literal
pub sign-plain : (b : Bool) (t : Lambda) → is_negated t ≡ false → record { positive = b; atom = t } ≡ with_sign b (as_literal t)
sign-plain true t h = unsigned_literal t h
sign-plain false t h = ap opposite (unsigned_literal t h)
