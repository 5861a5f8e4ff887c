use Rattle.std.proofs.Common.{sym}
use Rattle.term_bank.proofs.AddLaws.{entries_after}
use Rattle.term_bank.proofs.CopyLaws.{not_copied, copied-next}
use Rattle.term_bank.proofs.copy.copy_nodes.Goals as goal

pub unreachable-requires-in-Some-get_index_of : goal.unreachable-requires-in-Some-get_index_of
unreachable-requires-in-Some-get_index_of c =
    not_copied c.args.nodes.now.entries c.loop-i.copy.entries c.loop-i.i (c.in-Some.node.now, c.in-Some.marks.now) c.in_ok-node.node c.in-Some-get_index_of.field-0
    c.len-i-end.ensures.unique c.loop-i.invariant (sym c.in-Some.ensures.entry) c.in_ok-node.ensures c.in-Some-get_index_of.ensures.index

pub loop-i-preserved : goal.loop-i-preserved
loop-i-preserved c =
    let added = entries_after c.loop-i.copy c.in_ok-node.node c.in-Some.marks.now c.in-None.ensures.found c.insert.new.self.entries c.in_ok-insert-in-None.ensures.entries in
    copied-next c.args.nodes.now.entries c.loop-i.copy.entries c.insert.new.self.entries c.loop-i.i (c.in-Some.node.now, c.in-Some.marks.now) c.in_ok-node.node
    c.loop-i.invariant (sym c.in-Some.ensures.entry) c.in_ok-node.ensures added
