use Rattle.std.proofs.Common.{take}
use Rattle.std.specs.List.{list_any}
use Rattle.sat_base.specs.Literal.{mentions_variable}
use Rattle.plain_tableau.specs.Internal.Due.{IsNotedMore}
use Rattle.plain_tableau.proofs.noting.note_lists.Given as goal

abbrev pub invariant-loop-i : goal.invariant-loop-i
invariant-loop-i l = IsNotedMore (λ v. list_any (λ a. mentions_variable a v) (take l.i l.lists)) l.fn.place l.fn.noted.items l.noted.items
