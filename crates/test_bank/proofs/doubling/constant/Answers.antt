use Rattle.std.proofs.Common.{[]}
use Rattle.stt_core.specs.SimpleType.{base}
use Rattle.stt_core.specs.Lambda.{constant, name}
use Rattle.test_bank.proofs.RowLaws.{constant-canonical, of_grown}
use Rattle.test_bank.proofs.doubling.constant.Goals as goal

pub intern_app-requires-clause-typed : goal.intern_app-requires-clause-typed
intern_app-requires-clause-typed c = record { ctx = []; type = base 1; canonical = constant-canonical c.args.bank.now c.requires.names }

pub returns-clause-individual : goal.returns-clause-individual
returns-clause-individual c =
    of_grown c.args.bank.now c.intern_app.new.self [] (base 1) c.in_ok-id.id (constant (name 0)) c.intern_app.ensures.grows
    (constant-canonical c.args.bank.now c.requires.names) c.in_ok-id.ensures.term
