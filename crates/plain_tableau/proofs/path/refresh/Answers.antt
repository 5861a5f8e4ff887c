use Rattle.std.proofs.Common.{◌≡◌, ◌<◌, ◌≤◌, ◌+◌, ℕ, length, take, slice_index_or, sym, subst, arith}
use Rattle.std.proofs.lemmas.List.{take_more, take_all}
use Rattle.plain_tableau.specs.Internal.Due.{IsInside}
use Rattle.plain_tableau.proofs.NotedLaws.{Knows, knows_more, inside_more}
use Rattle.plain_tableau.proofs.path.refresh.Goals as goal

pub loop-i-preserved : goal.loop-i-preserved
loop-i-preserved c =
    let t = c.args.steps.now in
    let used = c.args.used.now in
    let b = c.args.branch.now.keys in
    let places = c.args.places.now in
    let i = c.loop-i.i in
    let place = slice_index_or places i 0 in
    let more = take_more places i 0 c.loop-i-test.true in
    record {
      right = subst (λ ps. Knows t used b ps c.args.due.now c.set.new.self) (sym more) (knows_more t used b place c.in_ok-is_due.is_due c.loop-i.due c.set.new.self c.in_ok-is_due.ensures c.in_ok-set.ensures (take i places) c.args.due.now c.loop-i.invariant.right);
      inside = λ inside. inside_more t used b place c.in_ok-is_due.is_due c.loop-i.due c.set.new.self c.in_ok-is_due.ensures c.in_ok-set.ensures (c.requires.places i 0 c.loop-i-test.true) (c.loop-i.invariant.inside inside);
    }

pub returns-clause-right : goal.returns-clause-right
returns-clause-right c =
    let places = c.args.places.now in
    subst (λ ps. Knows c.args.steps.now c.args.used.now c.args.branch.now.keys ps c.args.due.now c.loop-i.due) (take_all c.loop-i.i places c.loop-i-test.false) c.loop-i.invariant.right
