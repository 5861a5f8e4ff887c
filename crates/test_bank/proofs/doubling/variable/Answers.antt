use Rattle.std.proofs.Common.{[], ◌∷◌}
use Rattle.stt_core.specs.SimpleType.{base}
use Rattle.stt_core.specs.Lambda.{bound}
use Rattle.test_bank.proofs.RowLaws.{variable-canonical, of_grown}
use Rattle.test_bank.proofs.doubling.variable.Goals as goal

pub intern_app-requires-clause-typed : goal.intern_app-requires-clause-typed
intern_app-requires-clause-typed c = record { ctx = base 1 ∷ []; type = base 1; canonical = variable-canonical c.args.bank.now }

pub returns-clause-individual : goal.returns-clause-individual
returns-clause-individual c =
    of_grown c.args.bank.now c.intern_app.new.self (base 1 ∷ []) (base 1) c.in_ok-id.id (bound 0) c.intern_app.ensures.grows
    (variable-canonical c.args.bank.now) c.in_ok-id.ensures.term
