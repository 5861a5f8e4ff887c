use Rattle.std.proofs.Common.{◌<◌, length}
use Rattle.bank_normal.proofs.expanded.within_binders.Given as goal

abbrev pub invariant-loop : goal.invariant-loop
invariant-loop l = l.inner < length l.bank.terms
