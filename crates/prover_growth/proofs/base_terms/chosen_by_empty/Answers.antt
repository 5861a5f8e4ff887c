use Rattle.std.proofs.Common.{Some, ap, ◌∙◌}
use Rattle.stt_core.specs.SimpleType.{base}
use Rattle.stt_core.specs.Lambda.{falsity, choice, constant, lam, app}
use Rattle.term_bank.specs.Content.{content_scope}
use Rattle.term_bank.proofs.GrowLaws.{has_at}
use Rattle.prover_growth.proofs.BasisLaws.{basis-by-terms, grows-by-terms}
use Rattle.prover_growth.proofs.BaseTermLaws.{choice-typed, one-place}
use Rattle.prover_growth.proofs.base_terms.chosen_by_empty.Goals as goal

pub intern_app-requires-clause-within : goal.intern_app-requires-clause-within
intern_app-requires-clause-within c = one-place c.args.basis.now.bank c.args.empty (lam (base c.args.n) (constant falsity)) c.requires.empty

pub intern_app-requires-clause-typed : goal.intern_app-requires-clause-typed
intern_app-requires-clause-typed c = choice-typed (content_scope c.args.basis.now.bank) c.args.basis.now.bank c.args.empty c.args.n c.requires.declared c.requires.empty

pub returns-clause-term : goal.returns-clause-term
returns-clause-term c = c.in_ok-intern_app.ensures.term ∙ ap (λ t. Some (app (constant (choice (base c.args.n))) t)) (has_at c.args.basis.now.bank c.args.empty (lam (base c.args.n) (constant falsity)) c.requires.empty)

pub returns-clause-good : goal.returns-clause-good
returns-clause-good c = basis-by-terms c.args.basis.now c.intern_app.new.self c.intern_app.ensures.grows c.requires.good

pub returns-clause-grows : goal.returns-clause-grows
returns-clause-grows c = grows-by-terms c.args.basis.now c.intern_app.new.self c.intern_app.ensures.grows
