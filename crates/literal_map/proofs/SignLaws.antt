-- Formulas that aren't negations.
use Rattle.std.proofs.Common.{◌≡◌, ℕ, List, [], ◌∷◌, map, None, false, refl, ap, ◌∙◌}
use Rattle.stt_core.specs.Lambda.{name, witness, falsity, negation, implication, all, equality, choice, description, Lambda, bound, constant, lam, app, applied}
use Rattle.stt_core.proofs.SpineLaws.{IsAtom}
use Rattle.stt_core.specs.View.{the_head}
use Rattle.stt_core.proofs.HeadLaws.{atom_head}
use Rattle.tableau_calculus.specs.Literals.{plus, as_literal, is_negated}
use Rattle.tableau_calculus.proofs.LiteralLaws.{literal_cases}
use Rattle.term_bank.specs.Shape.{spine}
use Rattle.term_bank.specs.Terms.{term_at, shape_term}
use Rattle.term_bank.specs.NodeView.{the_shape}
use Rattle.term_bank.specs.declared.node.Node.{Node}
use Rattle.term_bank.specs.declared.node.Node.TheVariants.{Lam, App}
use Rattle.literal_map.specs.Internal.Denied.{IsDenied}

two_arguments : (f s t : Lambda) (us : List Lambda) → is_negated (applied (app (app f s) t) us) ≡ false
two_arguments f s t [] = refl
two_arguments f s t (u ∷ us) = two_arguments (app f s) t u us

one_argument : (h t : Lambda) → (h ≡ constant negation → ⊥) → is_negated (app h t) ≡ false
one_argument (bound k) t none = refl
one_argument (lam a s) t none = refl
one_argument (app s u) t none = refl
one_argument (constant (name k)) t none = refl
one_argument (constant (witness k)) t none = refl
one_argument (constant falsity) t none = refl
one_argument (constant negation) t none = absurd (none refl)
one_argument (constant implication) t none = refl
one_argument (constant (all a)) t none = refl
one_argument (constant (equality a)) t none = refl
one_argument (constant (choice a)) t none = refl
one_argument (constant (description a)) t none = refl

no_argument : (h : Lambda) → IsAtom h → is_negated h ≡ false
no_argument (bound k) o = refl
no_argument (constant c) o = refl
no_argument (lam a s) o = absurd o
no_argument (app s u) o = absurd o

not_denied : (ts : List Lambda) (n : Node) → IsDenied (the_shape n) None → is_negated (shape_term ts (the_shape n)) ≡ false
not_denied ts (Lam a i) none = refl
not_denied ts (App h is) none = go (the_head h) is (atom_head h) none
  where
    go : (k : Lambda) (js : List ℕ) → IsAtom k → IsDenied (spine k js) None → is_negated (applied k (map (term_at ts) js)) ≡ false
    go k [] o none = no_argument k o
    go k (i ∷ []) o none = one_argument k (term_at ts i) (λ e. none i (ap (λ x. spine x (i ∷ [])) e))
    go k (i ∷ j ∷ js) o none = two_arguments k (term_at ts i) (term_at ts j) (map (term_at ts) js)

pub unsigned_node : (ts : List Lambda) (t : Lambda) (n : Node) → t ≡ shape_term ts (the_shape n) → IsDenied (the_shape n) None → is_negated t ≡ false
unsigned_node ts t n e none = ap is_negated e ∙ not_denied ts n none

pub unsigned_literal : (t : Lambda) → is_negated t ≡ false → plus t ≡ as_literal t
unsigned_literal t = literal_cases (λ t l. is_negated t ≡ false → plus t ≡ l) (λ s k h. cc) (λ t k h. refl) t
