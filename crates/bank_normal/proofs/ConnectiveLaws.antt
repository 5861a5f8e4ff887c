-- Connectives, quantifiers and equations with all their arguments are formulas.
use Rattle.std.proofs.Common.{◌≡◌, ℕ, List, Some, sym, ap, subst, ◌∙◌, length}
use Rattle.std.proofs.lemmas.Option.{same_Some}
use Rattle.stt_core.specs.SimpleType.{SimpleType, formula}
use Rattle.stt_core.specs.Lambda.{Lambda, all, applied, IsLeaf}
use Rattle.stt_core.specs.Typing.{Scope, type_of}
use Rattle.normal_forms.specs.Normal.{eta, apply_each, normal_form}
use Rattle.normal_forms.specs.Internal.Applying.{IsApplicable, result_after}
use Rattle.term_bank.specs.Content.{Content, HasTerm}
use Rattle.bank_normal.specs.Fits.{IsNeutralOf}
use Rattle.bank_normal.specs.Internal.Connectives.{MakesFormula}
use Rattle.bank_normal.proofs.NormalLaws.{head_neutral, head_made}

-- a head of one type
of_type : (n : ℕ) (x a : SimpleType) → Some x ≡ Some a → result_after n x ≡ formula → result_after n a ≡ formula
of_type n x a e f = subst (λ b. result_after n b ≡ formula) (same_Some x a e) f

module _ (scope : Scope) (ctx : List SimpleType) (t h : Lambda) (us : List Lambda) (n : ℕ) (leaf : IsLeaf t) (r : IsApplicable scope ctx t us) (is : h ≡ t) (l : n ≡ length us) (makes : MakesFormula h n) where
  typed : type_of scope ctx h ≡ Some r.term.type
  typed = ap (type_of scope ctx) is ∙ r.term.has_type

  result : formula ≡ result_after n r.term.type
  result = sym (makes scope ctx r.term.type typed)

  pub formula_neutral : IsNeutralOf scope formula (applied h us)
  formula_neutral = head_neutral scope ctx t h r.term.type formula us n leaf r is (sym typed) l result

  pub formula_made : (e : Content) (id : ℕ) → HasTerm e id (eta formula (applied h us)) → HasTerm e id (apply_each (normal_form scope ctx t) us)
  formula_made e id = head_made scope ctx e id t h r.term.type formula us n leaf r is (sym typed) l result
