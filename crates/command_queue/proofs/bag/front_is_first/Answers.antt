use Rattle.std.proofs.Common.{◌∙◌, sym, subst, Option, heap_items}
use Rattle.command_queue.specs.declared.entry.Entry.{Entry}
use Rattle.command_queue.specs.Internal.Inside.{LeavesFirst}
use Rattle.command_queue.proofs.BagLaws.{before-top}
use Rattle.command_queue.proofs.bag.front_is_first.Goals as goal

pub returns-in-Some-peek-clause-first : goal.returns-in-Some-peek-clause-first
returns-in-Some-peek-clause-first g c = λ h.
    let P : Option (Entry g.row.C.Denot) → Type 0 = λ o. LeavesFirst o (heap_items c.args.heap.now) in
    subst P (sym c.in-Some.is)
    (before-top c.in-Some.front c.in-Some-peek.top.now _ (sym c.leaves_before.ensures ∙ h) (c.in-Some-peek.ensures.greatest c.requires.heap_order))
