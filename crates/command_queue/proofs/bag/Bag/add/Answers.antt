use Rattle.std.proofs.Common.{◌≡◌, ◌+◌, List, ◌∷◌, ◌++◌, sym, ap, subst, arith, heap_items, heap_len}
use Rattle.std.specs.List.Sorted.{IsPermutation}
use Rattle.std.specs.BinaryHeap.{IsHeap}
use Rattle.command_queue.specs.declared.entry.Entry.{Entry}
use Rattle.command_queue.specs.Internal.Inside.{Held, heap_order, in_front}
use Rattle.command_queue.proofs.BagLaws.{joins-heap}
use Rattle.command_queue.proofs.bag.Bag.add.Goals as goal

pub invariant_of-self-2 : goal.invariant_of-self-2
invariant_of-self-2 g c =
    let ordered = subst (IsHeap (heap_order {C = g.row.C.Denot})) (sym c.in_ok-make_room.ensures.items) c.self.invariant.0 in
    let longer : heap_len c.push.new.self ≡ heap_len c.make_room.new.heap + 1 = rw c.unwrap.ensures at c.push.ensures.len in
    ((rw c.unwrap.ensures at c.push.ensures.heap_order) ordered, omega (arith, longer, c.push.ensures.capacity, c.in_ok-make_room.ensures.ok, c.count.ensures.count, c.count.ensures.few))

pub returns-clause-permutation : goal.returns-clause-permutation
returns-clause-permutation g c =
    let moved : IsPermutation (c.args.entry ∷ heap_items c.make_room.new.heap) (heap_items c.push.new.self) = rw c.unwrap.ensures at c.push.ensures.permutation in
    let P : List (Entry g.row.C.Denot) → Type 0 = λ xs. IsPermutation (c.args.entry ∷ xs) (in_front c.self.inside.front ++ heap_items c.push.new.self) in
    let Q : List (Entry g.row.C.Denot) → Type 0 = λ xs. P (in_front c.self.inside.front ++ xs) in
    subst P (ap (λ (h : Held g.row.C.Denot). h.items) c.self.view_is)
    (subst Q c.in_ok-make_room.ensures.items (joins-heap c.self.inside.front c.args.entry _ _ moved))
