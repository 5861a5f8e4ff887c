use Rattle.stt_core.specs.SimpleType.{base}
use Rattle.term_bank.specs.Terms.{term_at}
use Rattle.stt_core.specs.Lambda.{app, constant, name}
use Rattle.test_bank.proofs.RowLaws.{doubled-canonical, of_grown}
use Rattle.test_bank.proofs.doubling.double.Goals as goal

pub intern_app-requires-clause-typed : goal.intern_app-requires-clause-typed
intern_app-requires-clause-typed c =
    let i = c.requires.individual in
    record { ctx = i.ctx; type = base 1; canonical = doubled-canonical c.args.bank.now c.requires.names i.ctx (term_at c.args.bank.now.terms c.args.term) i.typed.canonical }

pub returns-clause-individual : goal.returns-clause-individual
returns-clause-individual c = λ ctx o.
    let t = term_at c.args.bank.now.terms c.args.term in
    of_grown c.args.bank.now c.intern_app.new.self ctx (base 1) c.in_ok-id.id (app (app (constant (name 2)) t) t) c.intern_app.ensures.grows
    (doubled-canonical c.args.bank.now c.requires.names ctx t o.canonical) c.in_ok-id.ensures.term
