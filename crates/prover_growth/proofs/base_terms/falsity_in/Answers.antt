use Rattle.term_bank.specs.Content.{content_scope}
use Rattle.prover_growth.proofs.BasisLaws.{basis-by-terms, grows-by-terms}
use Rattle.prover_growth.proofs.BaseTermLaws.{falsity-typed}
use Rattle.prover_growth.proofs.base_terms.falsity_in.Goals as goal

pub intern_app-requires-clause-typed : goal.intern_app-requires-clause-typed
intern_app-requires-clause-typed c = falsity-typed (content_scope c.args.basis.now.bank)

pub returns-clause-good : goal.returns-clause-good
returns-clause-good c = basis-by-terms c.args.basis.now c.intern_app.new.self c.intern_app.ensures.grows c.requires.good

pub returns-clause-grows : goal.returns-clause-grows
returns-clause-grows c = grows-by-terms c.args.basis.now c.intern_app.new.self c.intern_app.ensures.grows
