use Rattle.std.proofs.Common.{◌≡◌, take}
use Rattle.head_offers.specs.Internal.Marks.{with_marks}
use Rattle.head_offers.proofs.marks.mark_all.Given as goal

-- the first numbers are marked
abbrev pub invariant-loop-i : goal.invariant-loop-i
invariant-loop-i l = l.marks.items ≡ with_marks (take l.i l.ids) l.fn.marks.items
