-- Normal forms that are worked out and compared as shared terms.
use Rattle.std.proofs.Common.{◌≡◌, ◌↔◌, ◌<◌, ℕ, List, [], Bool, length, ap, ap₂, ◌∙◌}
use Rattle.std.specs.Prelude.{IsTrue}
use Rattle.stt_core.specs.Lambda.{Lambda}
use Rattle.stt_core.specs.Typing.{Scope, IsScope}
use Rattle.stt_core.specs.ScopeView.{the_scope}
use Rattle.stt_core.specs.TypedName.{TypedName}
use Rattle.stt_core.specs.declared.signature.Signature.{Signature}
use Rattle.normal_forms.specs.Normal.{normal_form}
use Rattle.term_bank.specs.Content.{Content, content_scope, HasTerm, Grows}
use Rattle.term_bank.specs.Terms.{term_at}
use Rattle.term_bank.proofs.GrowLaws.{grown_scope, grown_term, has_at, has_within}
use Rattle.conv_laws.specs.Steps.{HaveOneType, AreConvertible}
use Rattle.conv_laws.proofs.Exactly.{tested}

-- what a bank without terms declares
pub start_scope : (b : Content) (bases : List (List ℕ)) (consts : List TypedName) (sig : Signature) → b ≡ record { bases = bases; consts = consts; witnesses = []; terms = [] } → bases ≡ sig.bases → consts ≡ sig.consts → content_scope b ≡ the_scope sig []
start_scope b bases consts sig e f g =
    ap content_scope e ∙ ap₂ (λ (bs : List (List ℕ)) (cs : List TypedName). content_scope (record { bases = bs; consts = cs; witnesses = []; terms = [] })) f g

-- a term that came before is still there
pub still_within : (b c : Content) (i : ℕ) (t : Lambda) → Grows b c → HasTerm b i t → i < length c.terms
still_within b c i t g h = has_within c i t (grown_term b c i t g h)

-- the answer of a comparison of two normal forms in a bank
pub compared_in_bank : (scope : Scope) (over : IsScope scope) (s t : Lambda) (b c d : Content) (i j : ℕ) (r : Bool) → HaveOneType scope [] s t → content_scope b ≡ scope → Grows b c → Grows c d
    → HasTerm c i (normal_form (content_scope b) [] s) → HasTerm d j (normal_form (content_scope c) [] t) → (IsTrue r ↔ term_at d.terms i ≡ term_at d.terms j) → IsTrue r ↔ AreConvertible scope [] s t
compared_in_bank scope over s t b c d i j r h e g k m n q =
    let first = has_at d i (normal_form (content_scope b) [] s) (grown_term c d i (normal_form (content_scope b) [] s) k m) ∙ ap (λ x. normal_form x [] s) e in
    let second = has_at d j (normal_form (content_scope c) [] t) n ∙ ap (λ x. normal_form x [] t) (grown_scope b c g ∙ e) in
    tested scope over s t (term_at d.terms i) (term_at d.terms j) r h first second q
