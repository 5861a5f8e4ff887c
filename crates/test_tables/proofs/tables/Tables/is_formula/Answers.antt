use Rattle.std.proofs.Common.{[], sym, subst, ◌∙◌}
use Rattle.stt_core.specs.Canonical.{IsCanonical}
use Rattle.stt_core.specs.SimpleType.{formula}
use Rattle.stt_core.specs.View.{the_type}
use Rattle.stt_core.proofs.TypeLaws.{same_type-true}
use Rattle.term_bank.specs.Content.{content_scope}
use Rattle.term_bank.specs.Terms.{term_at}
use Rattle.test_tables.proofs.tables.Tables.is_formula.Goals as goal

pub returns-clause-formula : goal.returns-clause-formula
returns-clause-formula c = λ h.
    let b = c.args.self.now.bank in
    subst (λ a. IsCanonical (content_scope b) [] a (term_at b.terms c.args.id)) (same_type-true (the_type c.in_ok-ty.field-0) formula (sym c.same.ensures ∙ h)) c.in_ok-ty.ensures
