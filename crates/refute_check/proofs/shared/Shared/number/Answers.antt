use Rattle.std.proofs.Common.{◌∙◌, [], refl, ap, sym, subst}
use Rattle.std.proofs.lemmas.Result.{IfOk-from_err}
use Rattle.stt_core.specs.SimpleType.{formula}
use Rattle.stt_core.specs.Canonical.{IsCanonical}
use Rattle.tableau_calculus.specs.Literals.{Literal, as_literal, IsLiteral}
use Rattle.tableau_calculus.proofs.ListLaws.{untrue}
use Rattle.term_bank.specs.Content.{content_scope}
use Rattle.term_bank.proofs.GrowLaws.{grown_scope, has_at, has_within}
use Rattle.bank_normal.proofs.RightLaws.{right_grown}
use Rattle.literal_map.proofs.SignLaws.{unsigned_literal}
use Rattle.literal_map.proofs.StayLaws.{atoms_stay}
use Rattle.refute_check.specs.declared.shared.Shared.{Shared}
use Rattle.refute_check.proofs.SharedLaws.{extends_itself, extends_good}
use Rattle.refute_check.proofs.shared.Shared.number.Goals as goal

pub returns-in_err-is_literal-clause-number : goal.returns-in_err-is_literal-clause-number
returns-in_err-is_literal-clause-number c = IfOk-from_err _ _ c.from_residual.ensures.0

pub returns-in_err-is_literal-clause-extends : goal.returns-in_err-is_literal-clause-extends
returns-in_err-is_literal-clause-extends c = IfOk-from_err _ _ c.from_residual.ensures.0

pub returns-in_err-is_literal-clause-good : goal.returns-in_err-is_literal-clause-good
returns-in_err-is_literal-clause-good c = IfOk-from_err _ _ c.from_residual.ensures.0

pub returns-then-not-branch-clause-number : goal.returns-then-not-branch-clause-number
returns-then-not-branch-clause-number c = λ h. untrue (c.in_ok-is_literal.ensures.1 h) c.if-not-branch.true

pub returns-then-not-branch-clause-extends : goal.returns-then-not-branch-clause-extends
returns-then-not-branch-clause-extends c = extends_itself c.args.self.now

pub returns-then-not-branch-clause-good : goal.returns-then-not-branch-clause-good
returns-then-not-branch-clause-good c = c.requires.good

pub import-requires : goal.import-requires
import-requires c =
    let is = c.in_ok-is_literal.ensures.0 c.if-not-branch.false in
    record { ctx = []; type = formula; canonical = subst (IsCanonical (content_scope c.args.self.now.bank) [] formula) (sym (ap (λ (l : Literal). l.atom) c.lit.view_is)) is.formula }

pub returns-in_err-id-clause-number : goal.returns-in_err-id-clause-number
returns-in_err-id-clause-number c = IfOk-from_err _ _ c.from_residual-in_err-id.ensures.0

pub returns-in_err-id-clause-extends : goal.returns-in_err-id-clause-extends
returns-in_err-id-clause-extends c = IfOk-from_err _ _ c.from_residual-in_err-id.ensures.0

pub returns-in_err-id-clause-good : goal.returns-in_err-id-clause-good
returns-in_err-id-clause-good c = IfOk-from_err _ _ c.from_residual-in_err-id.ensures.0

pub lit_of-requires-clause-within : goal.lit_of-requires-clause-within
lit_of-requires-clause-within c = has_within c.import.new.self c.in_ok-id.id c.lit.inside.atom c.in_ok-id.ensures.term

pub lit_of-requires-clause-formula : goal.lit_of-requires-clause-formula
lit_of-requires-clause-formula c =
    let b = c.import.new.self in
    let is = c.in_ok-is_literal.ensures.0 c.if-not-branch.false in
    let at = has_at b c.in_ok-id.id c.lit.inside.atom c.in_ok-id.ensures.term ∙ ap (λ (l : Literal). l.atom) c.lit.view_is in
    subst (IsCanonical (content_scope b) [] formula) (sym at)
    (subst (λ s. IsCanonical s [] formula c.args.lit.now.atom) (sym (grown_scope c.args.self.now.bank b c.in_ok-id.ensures.grows)) is.formula)

pub lit_of-requires-clause-atoms : goal.lit_of-requires-clause-atoms
lit_of-requires-clause-atoms c = atoms_stay c.args.self.now.bank c.import.new.self c.in_ok-id.ensures.grows c.args.self.now.lits c.requires.good.atoms

pub returns-in_err-atom-clause-number : goal.returns-in_err-atom-clause-number
returns-in_err-atom-clause-number c = IfOk-from_err _ _ c.from_residual-in_err-atom.ensures.0

pub returns-in_err-atom-clause-extends : goal.returns-in_err-atom-clause-extends
returns-in_err-atom-clause-extends c = IfOk-from_err _ _ c.from_residual-in_err-atom.ensures.0

pub returns-in_err-atom-clause-good : goal.returns-in_err-atom-clause-good
returns-in_err-atom-clause-good c = IfOk-from_err _ _ c.from_residual-in_err-atom.ensures.0

pub returns-clause-number : goal.returns-clause-number
returns-clause-number c =
    let b = c.import.new.self in
    let l = c.args.lit.now in
    let is = c.in_ok-is_literal.ensures.0 c.if-not-branch.false in
    let at = has_at b c.in_ok-id.id c.lit.inside.atom c.in_ok-id.ensures.term ∙ ap (λ (k : Literal). k.atom) c.lit.view_is in
    let atom = ap (λ (k : Literal). k.atom) (c.in_ok-atom.ensures.literal ∙ ap as_literal at ∙ sym (unsigned_literal l.atom is.unsigned)) in (
      subst (λ s. IsLiteral s l) (sym (grown_scope c.args.self.now.bank b c.in_ok-id.ensures.grows)) is,
      c.in_ok-atom.ensures.number,
      ap (λ a. record { positive = c.lit.inside.positive; atom = a }) atom ∙ ap (λ (k : Literal). record { positive = k.positive; atom = l.atom }) c.lit.view_is,
    )

pub returns-clause-extends : goal.returns-clause-extends
returns-clause-extends c = record { bank = c.in_ok-id.ensures.grows; lits = c.in_ok-atom.ensures.begins; witnesses = refl }

pub returns-clause-good : goal.returns-clause-good
returns-clause-good c =
    let old = c.args.self.now in
    let new : Shared = record { bank = c.import.new.self; normal = old.normal; lits = c.lit_of.new.self; witnesses = old.witnesses; types = old.types } in
    extends_good old new (record { bank = c.in_ok-id.ensures.grows; lits = c.in_ok-atom.ensures.begins; witnesses = refl }) c.requires.good
    (right_grown old.normal old.bank c.import.new.self c.in_ok-id.ensures.grows c.requires.good.normal) c.in_ok-atom.ensures.atoms refl
