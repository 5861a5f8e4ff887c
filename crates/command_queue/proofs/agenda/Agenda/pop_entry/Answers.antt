use Rattle.std.proofs.Common.{◌∙◌, sym, ap, arith}
use Rattle.command_queue.specs.Queue.{Queue}
use Rattle.command_queue.proofs.OrderLaws.{in_order-pop}
use Rattle.command_queue.proofs.HeapLaws.{not_empty, HoldsPushed-pop, top_is_first, top_has_own_number, top_was_taken}
use Rattle.command_queue.proofs.agenda.Agenda.pop_entry.Goals as goal

pub invariant_of-self-2 : goal.invariant_of-self-2
invariant_of-self-2 g c =
    (HoldsPushed-pop _ _ _ _ c.self.invariant.0 c.in_ok-entry.ensures.permutation, c.self.invariant.1, c.self.invariant.2)

pub returns-clause-empty : goal.returns-clause-empty
returns-clause-empty g c =
    let entries_are = ap (λ (q : Queue g.row.C.Denot g.row.R.Denot). q.entries) c.self.view_is in
    (λ e. absurd (cc), λ e. absurd (not_empty c.in_ok-entry.entry _ _ c.in_ok-entry.ensures.permutation (entries_are ∙ e)))

pub returns-clause-first : goal.returns-clause-first
returns-clause-first g c =
    let held = c.self.invariant.0 in
    let moved = c.in_ok-entry.ensures.permutation in
    let stands = in_order-pop c.in_ok-entry.entry _ _ moved held.distinct in
    let pushes_are = ap (λ (q : Queue g.row.C.Denot g.row.R.Denot). q.pushes) c.self.view_is in
    record {
      before = stands.before;
      behind = stands.behind;
      stands = sym (ap (λ (q : Queue g.row.C.Denot g.row.R.Denot). q.entries) c.self.view_is) ∙ stands.all_are;
      leaves = stands.others_are;
      least = top_is_first _ _ _ held.distinct moved c.in_ok-entry.ensures.first;
      others = top_has_own_number _ _ _ held.distinct moved;
      taken = let was = top_was_taken _ _ _ _ held moved in omega (arith, was, pushes_are);
      pushes = pushes_are;
      spare =
          let was = ap (λ (q : Queue g.row.C.Denot g.row.R.Denot). q.spare) c.self.view_is in
          omega (arith, was, c.in_ok-entry.ensures.spare);
      rule = ap (λ (q : Queue g.row.C.Denot g.row.R.Denot). q.rule) c.self.view_is;
    }
