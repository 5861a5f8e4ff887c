use Rattle.std.proofs.Common.{take}
use Rattle.sat_base.specs.Literal.{mentions_variable}
use Rattle.plain_tableau.specs.Internal.Due.{IsNotedMore}
use Rattle.plain_tableau.proofs.noting.note_literals.Given as goal

abbrev pub invariant-loop-i : goal.invariant-loop-i
invariant-loop-i l = IsNotedMore (mentions_variable (take l.i l.lits)) l.fn.place l.fn.noted.items l.noted.items
