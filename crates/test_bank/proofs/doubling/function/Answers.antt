use Rattle.std.proofs.Common.{[]}
use Rattle.stt_core.specs.SimpleType.{base, arrow}
use Rattle.stt_core.specs.Lambda.{lam}
use Rattle.term_bank.specs.Terms.{term_at}
use Rattle.test_bank.proofs.RowLaws.{function-canonical, of_grown}
use Rattle.test_bank.proofs.doubling.function.Goals as goal

pub intern_lam-requires-clause-typed : goal.intern_lam-requires-clause-typed
intern_lam-requires-clause-typed c =
    record { ctx = []; type = arrow (base 1) (base 1); canonical = function-canonical c.args.bank.now (term_at c.args.bank.now.terms c.args.body) c.requires.body.canonical }

pub returns-clause-function : goal.returns-clause-function
returns-clause-function c =
    let t = term_at c.args.bank.now.terms c.args.body in
    of_grown c.args.bank.now c.intern_lam.new.self [] (arrow (base 1) (base 1)) c.in_ok-id.id (lam (base 1) t) c.intern_lam.ensures.grows
    (function-canonical c.args.bank.now t c.requires.body.canonical) c.in_ok-id.ensures.term
