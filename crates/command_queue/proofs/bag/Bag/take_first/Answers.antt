use Rattle.std.proofs.Common.{List, ◌∷◌, ◌++◌, ap, subst, heap_items}
use Rattle.std.specs.List.Sorted.{IsPermutation}
use Rattle.command_queue.specs.declared.entry.Entry.{Entry}
use Rattle.command_queue.specs.Internal.Inside.{Held, in_front}
use Rattle.command_queue.proofs.BagLaws.{leaves-heap}
use Rattle.command_queue.proofs.bag.Bag.take_first.Goals as goal

pub returns-clause-permutation : goal.returns-clause-permutation
returns-clause-permutation g c =
    let P : List (Entry g.row.C.Denot) → Type 0 = λ xs. IsPermutation xs (c.in_ok-entry.entry ∷ (in_front c.self.inside.front ++ heap_items c.pop.new.self)) in
    subst P (ap (λ (h : Held g.row.C.Denot). h.items) c.self.view_is) (leaves-heap c.self.inside.front c.in_ok-entry.entry _ (heap_items c.pop.new.self) c.in_ok-entry.ensures.permutation)
