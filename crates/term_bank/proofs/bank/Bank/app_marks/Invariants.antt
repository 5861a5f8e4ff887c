use Rattle.std.proofs.Common.{map, take}
use Rattle.stt_core.specs.Lambda.{applied}
use Rattle.stt_core.specs.View.{the_head}
use Rattle.term_bank.specs.Terms.{term_at}
use Rattle.term_bank.specs.Internal.MarksView.{AreMarksOf}
use Rattle.term_bank.proofs.bank.Bank.app_marks.Given as goal

abbrev pub invariant-loop-i : goal.invariant-loop-i
invariant-loop-i l = AreMarksOf (applied (the_head l.head) (map (term_at l.self.terms) (take l.i l.args))) l.marks
