use Rattle.std.proofs.Common.{◌≢◌, arith, sym, subst}
use Rattle.std.specs.List.{All}
use Rattle.std.proofs.lemmas.List.Elements.{All-nil}
use Rattle.command_queue.specs.declared.entry.Entry.{Entry}
use Rattle.test_calls.specs.declared.agenda.Job.{Job}
use Rattle.command_queue.proofs.AgendaLaws.{All-added, All-added_at, All-taken}
use Rattle.test_calls.proofs.agenda.write_loop.Goals as goal

abbrev IsFree : Entry Job → Type 0
IsFree e = e.number ≢ 2

pub push_at-requires-2-clause-free : goal.push_at-requires-2-clause-free
push_at-requires-2-clause-free g c =
    let none = subst (All IsFree) (sym c.new-agenda.ensures.empty) (All-nil IsFree) in
    let loop = c.in_ok-push_first.ensures.ok in
    let first = All-added IsFree _ _ none loop (omega (arith, c.new-agenda.ensures.pushes)) in
    let both = All-added IsFree _ _ first c.in_ok-push.ensures.ok (omega (arith, c.new-agenda.ensures.pushes, loop.pushes)) in
    let left = All-taken IsFree _ _ both c.in-Some.ensures.first in
    let more = All-added_at IsFree _ _ left c.in_ok-push_at.ensures.ok (omega arith) in
    All-taken IsFree _ _ more c.in-Some-pop_entry.ensures.first
