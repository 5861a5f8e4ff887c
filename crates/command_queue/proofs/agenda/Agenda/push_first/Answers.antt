use Rattle.std.proofs.Common.{◌+◌, ◌∙◌, refl, ap, ap₂, List, [], ◌∷◌, ◌++◌, arith}
use Rattle.command_queue.specs.declared.entry.Entry.{Entry}
use Rattle.command_queue.specs.Queue.{Queue}
use Rattle.command_queue.proofs.HeapLaws.{HoldsPushed-push, joins_last, same_entry}
use Rattle.command_queue.proofs.agenda.Agenda.push_first.Goals as goal

pub invariant_of-self-2 : goal.invariant_of-self-2
invariant_of-self-2 g c =
    (HoldsPushed-push _ _ _ _ _ c.self.invariant.0 refl c.requires.some c.in_ok-add.ensures.permutation, c.self.invariant.1, c.self.invariant.2)

pub returns-clause-ok : goal.returns-clause-ok
returns-clause-ok g c =
    let rule_is = ap (λ (q : Queue g.row.C.Denot g.row.R.Denot). q.rule) c.self.view_is in
    let pushes_are = ap (λ (q : Queue g.row.C.Denot g.row.R.Denot). q.pushes) c.self.view_is in
    let spare_is = ap (λ (q : Queue g.row.C.Denot g.row.R.Denot). q.spare) c.self.view_is in
    let due_is = c.weigh-due.ensures (g.R.DueRule.due c.self.inside.rule) c.self.invariant.2 ∙ ap (λ (r : g.row.R.Denot). g.R.DueRule.due r c.args.command c.args.now) rule_is in
    let entries_are = ap (λ (q : Queue g.row.C.Denot g.row.R.Denot). q.entries) c.self.view_is in
    record {
      entries =
          joins_last _ _ _ c.self.invariant.0 c.in_ok-add.ensures.permutation
          ∙ ap₂ (λ (es : List (Entry g.row.C.Denot)) (e : Entry g.row.C.Denot). es ++ e ∷ []) entries_are (same_entry _ _ _ _ c.args.command due_is pushes_are);
      pushes = ap (λ n. n + c.args.numbers) pushes_are;
      spare = omega (arith, spare_is, c.in_ok-add.ensures.spare);
      rule = rule_is;
    }
