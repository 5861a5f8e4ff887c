use Rattle.std.proofs.Common.{Some, ap, ◌∙◌}
use Rattle.stt_core.specs.SimpleType.{base}
use Rattle.stt_core.specs.Lambda.{falsity, constant, lam}
use Rattle.term_bank.specs.Content.{content_scope}
use Rattle.term_bank.proofs.GrowLaws.{has_at, has_within}
use Rattle.prover_growth.proofs.BasisLaws.{basis-by-terms, grows-by-terms}
use Rattle.prover_growth.proofs.BaseTermLaws.{function-typed}
use Rattle.prover_growth.proofs.base_terms.empty_predicate.Goals as goal

pub intern_lam-requires-clause-within : goal.intern_lam-requires-clause-within
intern_lam-requires-clause-within c = has_within c.args.basis.now.bank c.args.bottom (constant falsity) c.requires.falsity

pub intern_lam-requires-clause-typed : goal.intern_lam-requires-clause-typed
intern_lam-requires-clause-typed c = function-typed (content_scope c.args.basis.now.bank) c.args.basis.now.bank c.args.bottom (base c.args.n) c.requires.declared c.requires.falsity

pub returns-clause-term : goal.returns-clause-term
returns-clause-term c = c.in_ok-intern_lam.ensures.term ∙ ap (λ t. Some (lam (base c.args.n) t)) (has_at c.args.basis.now.bank c.args.bottom (constant falsity) c.requires.falsity)

pub returns-clause-good : goal.returns-clause-good
returns-clause-good c = basis-by-terms c.args.basis.now c.intern_lam.new.self c.intern_lam.ensures.grows c.requires.good

pub returns-clause-grows : goal.returns-clause-grows
returns-clause-grows c = grows-by-terms c.args.basis.now c.intern_lam.new.self c.intern_lam.ensures.grows
