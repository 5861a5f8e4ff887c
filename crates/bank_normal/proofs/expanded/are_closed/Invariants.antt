use Rattle.std.proofs.Common.{◌≡◌, ℕ, map, take}
use Rattle.stt_core.specs.Lift.{lift_by}
use Rattle.term_bank.specs.Terms.{term_at}
use Rattle.bank_normal.proofs.expanded.are_closed.Given as goal

abbrev pub invariant-loop-i : goal.invariant-loop-i
invariant-loop-i l = (by : ℕ) → map (lift_by by 0) (take l.i (map (term_at l.bank.terms) l.ids)) ≡ take l.i (map (term_at l.bank.terms) l.ids)
