-- Atoms of formulas' normal forms.
use Rattle.std.specs.Prelude.{◌≡◌, ◌<◌, ℕ, Bool, false, List, [], length}
use Rattle.std.proofs.Common.{sym, ap, ◌∙◌, subst}
use Rattle.stt_core.specs.Lambda.{Lambda}
use Rattle.stt_core.specs.Typing.{Scope, IsScope}
use Rattle.stt_core.specs.Canonical.{IsCanonical}
use Rattle.stt_core.specs.SimpleType.{formula}
use Rattle.stt_core.specs.TypedProblem.{IsFormula}
use Rattle.tableau_calculus.specs.Literals.{as_literal, is_negated, IsLiteral}
use Rattle.tableau_calculus.proofs.LiteralLaws.{as_literal-is_literal}
use Rattle.term_bank.specs.Content.{Content, HasTerm, Grows, content_scope}
use Rattle.term_bank.specs.Terms.{term_at}
use Rattle.term_bank.proofs.GrowLaws.{grown_scope, has_at}
use Rattle.literal_map.specs.Atoms.{IsAtom}
use Rattle.bank_normal.specs.Forms.{forms_in, AreForms}
use Rattle.bank_normal.specs.declared.forms.FormId.{FormId}
use Rattle.delta_normal.specs.Forms.{normal_form_by}
use Rattle.delta_normal.proofs.FormLaws.{canonical-by}

-- the atom of the literal of a formula's normal form, where names stand for forms, is one of the bank
pub form-atom : (a b : Content) (fs : List FormId) (n id : ℕ) (p : Bool) (t : Lambda) → Grows a b → IsScope (content_scope a) → IsFormula (content_scope a) t → AreForms a fs → HasTerm b n (normal_form_by (content_scope a) (forms_in a.terms fs) [] t) → id < length b.terms → is_negated (term_at b.terms id) ≡ false → record { positive = p; atom = term_at b.terms id } ≡ as_literal (term_at b.terms n) → IsAtom b id
form-atom a b fs n id p t grows scope typed forms has within unsigned is =
    let u = normal_form_by (content_scope a) (forms_in a.terms fs) [] t in
    let l = subst (IsLiteral (content_scope a)) (sym (is ∙ ap as_literal (has_at b n u has))) (as_literal-is_literal (content_scope a) u (canonical-by (content_scope a) scope [] (forms_in a.terms fs) formula t tt forms.canonical typed)) in
    let C : Scope → Type 0 = λ s. IsCanonical s [] formula (term_at b.terms id) in
    record { within = within; is_formula = subst C (sym (grown_scope a b grows)) l.formula; unsigned = unsigned }
