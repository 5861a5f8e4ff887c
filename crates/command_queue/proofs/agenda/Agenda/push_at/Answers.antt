use Rattle.std.proofs.Common.{◌≢◌, ◌<◌, ◌∙◌, sym, ap, subst, arith}
use Rattle.std.specs.List.{All}
use Rattle.std.proofs.lemmas.List.Elements.{All-from_recursion}
use Rattle.command_queue.specs.declared.entry.Entry.{Entry}
use Rattle.command_queue.specs.Queue.{Queue}
use Rattle.command_queue.specs.Internal.Inside.{entries_in_order}
use Rattle.command_queue.proofs.HeapLaws.{HoldsPushed-push_at, joins_at}
use Rattle.command_queue.proofs.agenda.Agenda.push_at.Goals as goal

pub invariant_of-self-2 : goal.invariant_of-self-2
invariant_of-self-2 g c =
    let free : All (λ (e : Entry g.row.C.Denot). e.number ≢ c.args.entry.number) (entries_in_order c.self.inside.bag.items) =
    subst (λ (q : Queue g.row.C.Denot g.row.R.Denot). All (λ (e : Entry g.row.C.Denot). e.number ≢ c.args.entry.number) q.entries) (sym c.self.view_is) c.requires.free in
    let taken : c.args.entry.number < c.self.inside.pushes =
    subst (λ (q : Queue g.row.C.Denot g.row.R.Denot). c.args.entry.number < q.pushes) (sym c.self.view_is) c.requires.taken in
    (HoldsPushed-push_at _ _ _ _ c.self.invariant.0 taken free c.in_ok-add_likely.ensures.permutation, c.self.invariant.1, c.self.invariant.2)

pub returns-clause-ok : goal.returns-clause-ok
returns-clause-ok g c =
    let free : All (λ (e : Entry g.row.C.Denot). e.number ≢ c.args.entry.number) (entries_in_order c.self.inside.bag.items) =
    subst (λ (q : Queue g.row.C.Denot g.row.R.Denot). All (λ (e : Entry g.row.C.Denot). e.number ≢ c.args.entry.number) q.entries) (sym c.self.view_is) c.requires.free in
    let joined = joins_at _ _ _ _ c.self.invariant.0 free c.in_ok-add_likely.ensures.permutation in
    record {
      before = joined.stands.before;
      behind = joined.stands.behind;
      stood = sym (ap (λ (q : Queue g.row.C.Denot g.row.R.Denot). q.entries) c.self.view_is) ∙ joined.stands.others_are;
      stands = joined.stands.all_are;
      below = All-from_recursion _ _ joined.below;
      above = All-from_recursion _ _ joined.above;
      pushes = ap (λ (q : Queue g.row.C.Denot g.row.R.Denot). q.pushes) c.self.view_is;
      spare =
          let was = ap (λ (q : Queue g.row.C.Denot g.row.R.Denot). q.spare) c.self.view_is in
          omega (arith, was, c.in_ok-add_likely.ensures.spare);
      rule = ap (λ (q : Queue g.row.C.Denot g.row.R.Denot). q.rule) c.self.view_is;
    }
