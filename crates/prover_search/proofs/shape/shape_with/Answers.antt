use Rattle.std.proofs.Common.{refl, sym, ap, ◌∙◌, arith}
use Rattle.stt_core.specs.Lambda.{name, witness, falsity, negation, implication, choice, description, bound, constant, applied}
use Rattle.stt_core.specs.View.{the_head, the_type}
use Rattle.prover_search.specs.Internal.Working.{shape_of}
use Rattle.prover_search.proofs.ShapedLaws.{other-head, equation-pair, equation-others, quantified-single, quantified-others}
use Rattle.prover_search.proofs.shape.shape_with.Goals as goal

pub returns-in-Bound : goal.returns-in-Bound
returns-in-Bound c = λ ts e. other-head (bound c.in-Bound.field-0) refl (λ t. refl) (λ t u. refl) ts ∙ sym (ap (λ h. shape_of (applied (the_head h) ts)) c.in-Bound.is)

pub returns-in-Name : goal.returns-in-Name
returns-in-Name c = λ ts e. other-head (constant (name c.in-Name.field-0)) refl (λ t. refl) (λ t u. refl) ts ∙ sym (ap (λ h. shape_of (applied (the_head h) ts)) c.in-Name.is)

pub returns-in-Wit : goal.returns-in-Wit
returns-in-Wit c = λ ts e. other-head (constant (witness c.in-Wit.field-0)) refl (λ t. refl) (λ t u. refl) ts ∙ sym (ap (λ h. shape_of (applied (the_head h) ts)) c.in-Wit.is)

pub returns-in-False : goal.returns-in-False
returns-in-False c = λ ts e. other-head (constant falsity) refl (λ t. refl) (λ t u. refl) ts ∙ sym (ap (λ h. shape_of (applied (the_head h) ts)) c.in-False.is)

pub returns-in-Not : goal.returns-in-Not
returns-in-Not c = λ ts e. other-head (constant negation) refl (λ t. refl) (λ t u. refl) ts ∙ sym (ap (λ h. shape_of (applied (the_head h) ts)) c.in-Not.is)

pub returns-in-Imp : goal.returns-in-Imp
returns-in-Imp c = λ ts e. other-head (constant implication) refl (λ t. refl) (λ t u. refl) ts ∙ sym (ap (λ h. shape_of (applied (the_head h) ts)) c.in-Imp.is)

pub returns-in-Choice : goal.returns-in-Choice
returns-in-Choice c = λ ts e. other-head (constant (choice (the_type c.in-Choice.field-0))) refl (λ t. refl) (λ t u. refl) ts ∙ sym (ap (λ h. shape_of (applied (the_head h) ts)) c.in-Choice.is)

pub returns-in-Desc : goal.returns-in-Desc
returns-in-Desc c = λ ts e. other-head (constant (description (the_type c.in-Desc.field-0))) refl (λ t. refl) (λ t u. refl) ts ∙ sym (ap (λ h. shape_of (applied (the_head h) ts)) c.in-Desc.is)

pub returns-then-count-eq1 : goal.returns-then-count-eq1
returns-then-count-eq1 c = λ ts e. quantified-single (the_type c.in-All.field-0) ts (omega (arith, e, c.if-count-eq1.true)) ∙ sym (ap (λ h. shape_of (applied (the_head h) ts)) c.in-All.is)

pub returns-else-count-eq1 : goal.returns-else-count-eq1
returns-else-count-eq1 c = λ ts e. quantified-others (the_type c.in-All.field-0) ts (λ n. absurd (omega (arith, e, n, c.if-count-eq1.false))) ∙ sym (ap (λ h. shape_of (applied (the_head h) ts)) c.in-All.is)

pub returns-then-count-eq2 : goal.returns-then-count-eq2
returns-then-count-eq2 c = λ ts e. c.equation_shape.ensures ∙ equation-pair (the_type c.in-Eq.ty) ts (omega (arith, e, c.if-count-eq2.true)) ∙ sym (ap (λ h. shape_of (applied (the_head h) ts)) c.in-Eq.is)

pub returns-else-count-eq2 : goal.returns-else-count-eq2
returns-else-count-eq2 c = λ ts e. equation-others (the_type c.in-Eq.ty) ts (λ n. absurd (omega (arith, e, n, c.if-count-eq2.false))) ∙ sym (ap (λ h. shape_of (applied (the_head h) ts)) c.in-Eq.is)
