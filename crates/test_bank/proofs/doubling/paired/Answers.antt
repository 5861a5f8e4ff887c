use Rattle.std.proofs.Common.{[]}
use Rattle.stt_core.specs.SimpleType.{base}
use Rattle.stt_core.specs.Lambda.{app, constant, name}
use Rattle.term_bank.specs.Terms.{term_at}
use Rattle.test_bank.proofs.RowLaws.{paired-canonical, of_grown}
use Rattle.test_bank.proofs.doubling.paired.Goals as goal

pub intern_app-requires-clause-typed : goal.intern_app-requires-clause-typed
intern_app-requires-clause-typed c =
    let b = c.args.bank.now in
    record { ctx = []; type = base 1; canonical = paired-canonical b c.requires.names [] (term_at b.terms c.args.first) (term_at b.terms c.args.second) c.requires.first.canonical c.requires.second.canonical }

pub returns-clause-individual : goal.returns-clause-individual
returns-clause-individual c =
    let b = c.args.bank.now in
    let s = term_at b.terms c.args.first in
    let t = term_at b.terms c.args.second in
    of_grown b c.intern_app.new.self [] (base 1) c.in_ok-id.id (app (app (constant (name 2)) s) t) c.intern_app.ensures.grows
    (paired-canonical b c.requires.names [] s t c.requires.first.canonical c.requires.second.canonical) c.in_ok-id.ensures.term
