-- What holds of every normaliser, and of names that stand for terms of a bank.
use Rattle.std.specs.Prelude.{◌≡◌, List, [], ◌∷◌, ◌++◌, slice_get, Some}
use Rattle.stt_core.specs.SimpleType.{SimpleType}
use Rattle.stt_core.specs.Lambda.{Lambda}
use Rattle.stt_core.specs.Typing.{IsScope, type_of}
use Rattle.term_bank.specs.Content.{Content, content_scope, Grows, HasTerm}
use Rattle.delta_normal.specs.Forms.{normal_form_by}
use Rattle.bank_normal.specs.Forms.{forms_in, AreForms}
use Rattle.bank_normal.specs.Right.{IsRightNormaliser}
use Rattle.bank_normal.specs.declared.forms.FormId.{FormId}
use Rattle.bank_normal.specs.declared.normaliser.Normaliser.{Normaliser}

-- what a normaliser knows stays right when the bank grows
abbrev pub MemosStayRight : Type 0
MemosStayRight = (n : Normaliser) (old new : Content) → Grows old new → IsRightNormaliser n old → IsRightNormaliser n new

-- names stand for the same terms when the bank grows
abbrev pub FormsStay : Type 0
FormsStay =
    (old new : Content) (fs : List FormId)
    → Grows old new
    → AreForms old fs
    → AreForms new fs × (forms_in new.terms fs ≡ forms_in old.terms fs)

-- A further name may stand for the form, by the earlier names, of a closed term of its type.
abbrev pub FormFollows : Type 0
FormFollows =
    (old new : Content) (fs : List FormId) (f : FormId) (t : Lambda) (a : SimpleType)
    → IsScope (content_scope old)
    → Grows old new
    → AreForms old fs
    → slice_get (content_scope old).names f.place ≡ Some a
    → type_of (content_scope old) [] t ≡ Some a
    → HasTerm new f.id (normal_form_by (content_scope old) (forms_in old.terms fs) [] t)
    → AreForms new (fs ++ f ∷ [])
