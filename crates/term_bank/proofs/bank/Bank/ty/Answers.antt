use Rattle.term_bank.specs.Content.{content_scope}
use Rattle.term_bank.specs.Terms.{term_at}
use Rattle.term_bank.proofs.ClosedLaws.{closed_missing}
use Rattle.term_bank.proofs.TypeLaws.{closed_typed}
use Rattle.term_bank.proofs.bank.Bank.ty.Goals as goal

pub type_under-requires-clause-typed : goal.type_under-requires-clause-typed
type_under-requires-clause-typed c =
    let t = term_at c.args.self.now.terms c.args.id in
    closed_typed (content_scope c.args.self.now) t c.node-node.ensures.typed (closed_missing t c.requires.closed)
