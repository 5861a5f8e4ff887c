use Rattle.std.proofs.Common.{◌≤◌, ◌+◌, ◌-◌, length, arith}
use Rattle.sat_core.proofs.CountingLaws.{counted_resolved}
use Rattle.sat_core.proofs.analysis.resolve_marks.Goals as goal

pub overflow_sub-result : goal.overflow_sub-result
overflow_sub-result c =
    (counted_resolved c.args.trail.now c.args.marks.now.marked c.unmark.new.self.marked c.mark_others.new.marks.marked c.args.own c.args.start c.args.late c.in_ok-more.more c.len-len.ensures.right
    c.requires.own_late c.requires.own_marked c.unmark.ensures.marks c.requires.counted c.in_ok-more.ensures.counted).0

pub overflow_add-result : goal.overflow_add-result
overflow_add-result c =
    let counts = counted_resolved c.args.trail.now c.args.marks.now.marked c.unmark.new.self.marked c.mark_others.new.marks.marked c.args.own c.args.start c.args.late c.in_ok-more.more c.len-len.ensures.right
    c.requires.own_late c.requires.own_marked c.unmark.ensures.marks c.requires.counted c.in_ok-more.ensures.counted in
    let short : c.args.late - 1 + c.in_ok-more.more ≤ length c.args.trail.now.steps = counts.2 in
    omega (arith, c.len-len.ensures.number, c.len-len.type_inv)

pub returns-clause-counted : goal.returns-clause-counted
returns-clause-counted c =
    let counts = counted_resolved c.args.trail.now c.args.marks.now.marked c.unmark.new.self.marked c.mark_others.new.marks.marked c.args.own c.args.start c.args.late c.in_ok-more.more c.len-len.ensures.right
    c.requires.own_late c.requires.own_marked c.unmark.ensures.marks c.requires.counted c.in_ok-more.ensures.counted in
    let positive : 1 ≤ c.args.late = counts.0 in
    (counts.1, omega arith)
