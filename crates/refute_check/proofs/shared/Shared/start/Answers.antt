use Rattle.std.proofs.Common.{sym, subst}
use Rattle.problem_start.specs.Unfolds.{unfolded_if, start_literals}
use Rattle.refute_check.specs.Internal.Shared.{AreNumbersOf}
use Rattle.refute_check.proofs.StartLaws.{start_in}
use Rattle.refute_check.proofs.shared.Shared.start.Goals as goal

pub set_by-requires-clause-numbers : goal.set_by-requires-clause-numbers
set_by-requires-clause-numbers c =
    (subst (AreNumbersOf c.start_list.new.self (start_literals (unfolded_if c.args.unfolds c.args.problem.now))) (sym c.as_slice.ensures.value) c.in_ok-list.ensures.numbers).numbers

pub returns-clause-set : goal.returns-clause-set
returns-clause-set c =
    let s = c.start_list.new.self in
    let ls = start_literals (unfolded_if c.args.unfolds c.args.problem.now) in
    (start_in s ls c.in_ok-set_by.field-0 c.as_slice.result.now (subst (AreNumbersOf s ls) (sym c.as_slice.ensures.value) c.in_ok-list.ensures.numbers) c.in_ok-set_by.ensures.set c.in_ok-set_by.ensures.numbered).0

pub returns-clause-numbered : goal.returns-clause-numbered
returns-clause-numbered c =
    let s = c.start_list.new.self in
    let ls = start_literals (unfolded_if c.args.unfolds c.args.problem.now) in
    (start_in s ls c.in_ok-set_by.field-0 c.as_slice.result.now (subst (AreNumbersOf s ls) (sym c.as_slice.ensures.value) c.in_ok-list.ensures.numbers) c.in_ok-set_by.ensures.set c.in_ok-set_by.ensures.numbered).1
