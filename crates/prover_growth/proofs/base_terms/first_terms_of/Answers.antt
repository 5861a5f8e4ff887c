use Rattle.std.proofs.Common.{sym, ap, ◌∙◌}
use Rattle.stt_core.specs.SimpleType.{base}
use Rattle.search_spec.specs.Terms.{first_terms}
use Rattle.prover_growth.proofs.base_terms.first_terms_of.Goals as goal

pub returns-then-n-eq0-clause-terms : goal.returns-then-n-eq0-clause-terms
returns-then-n-eq0-clause-terms c = c.in_ok-first_formulas.ensures.terms ∙ ap (λ n. first_terms (base n)) (sym c.if-n-eq0.true)
