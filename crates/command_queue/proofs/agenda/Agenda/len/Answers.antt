use Rattle.std.proofs.Common.{◌∙◌, ap, sym, subst, length}
use Rattle.command_queue.specs.Queue.{Queue, AreNumbered}
use Rattle.command_queue.proofs.OrderLaws.{length-in_order}
use Rattle.command_queue.proofs.HeapLaws.{HoldsPushed-AreNumbered}
use Rattle.command_queue.proofs.agenda.Agenda.len.Goals as goal

pub returns-clause-len : goal.returns-clause-len
returns-clause-len g c =
    c.len.ensures ∙ sym (length-in_order _) ∙ ap (λ (q : Queue g.row.C.Denot g.row.R.Denot). length q.entries) c.self.view_is

pub returns-clause-numbered : goal.returns-clause-numbered
returns-clause-numbered g c =
    subst (λ (q : Queue g.row.C.Denot g.row.R.Denot). AreNumbered q.entries q.pushes) c.self.view_is (HoldsPushed-AreNumbered _ _ c.self.invariant.0)
