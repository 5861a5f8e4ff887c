use Rattle.std.proofs.Common.{sym, ap, subst}
use Rattle.std.specs.Option.{IsSome}
use Rattle.term_bank.proofs.SoundLaws.{within_entries, node_is}
use Rattle.term_bank.proofs.bank.Bank.node.Goals as goal

pub unreachable-requires : goal.unreachable-requires
unreachable-requires c = let s = c.get_index.ensures.found.1 (within_entries c.self.inside.nodes.entries c.args.self.now.terms c.args.id (ap (λ b. b.terms) c.self.view_is) c.requires) in let e = subst IsSome c.in-None.is s in cc

pub returns-clause-term : goal.returns-clause-term
returns-clause-term c = node_is _ c.self.inside.nodes.entries c.self.invariant.nodes c.args.self.now.terms c.args.id (c.in-Some.node.now, c.in-Some.field-0-1.now) (ap (λ b. b.terms) c.self.view_is) (sym c.in-Some.ensures.entry)

pub returns-clause-below : goal.returns-clause-below
returns-clause-below c = c.self.invariant.nodes.below c.args.id (c.in-Some.node.now, c.in-Some.field-0-1.now) (sym c.in-Some.ensures.entry)
