use Rattle.std.proofs.Common.{◌<◌, arith}
use Rattle.tableau_calculus.proofs.ListLaws.{untrue}
use Rattle.tableau_calculus.proofs.FailureLaws.{last_refused, none_refused, ends_within}
use Rattle.stt_tableau.proofs.accepts.check_last.Goals as goal

pub returns-then-count-eq0-clause-refused : goal.returns-then-count-eq0-clause-refused
returns-then-count-eq0-clause-refused c = λ scope table right.
    none_refused scope c.args.start.now c.args.refutation.now c.len-rows.result c.len-rows.ensures.len table right (omega (arith, c.len-count.ensures.len, c.if-count-eq0.true))

pub returns-then-is_within-clause-last : goal.returns-then-is_within-clause-last
returns-then-is_within-clause-last c =
    let some : 0 < c.len-count.result = omega (arith, c.if-count-eq0.false) in
    ends_within c.args.start.now c.args.refutation.now.lines c.len-count.result c.at.result.now c.len-count.ensures.len some c.at.ensures (c.is_within.ensures.0 c.if-is_within.true)

pub returns-else-is_within-clause-refused : goal.returns-else-is_within-clause-refused
returns-else-is_within-clause-refused c = λ scope table right.
    let some : 0 < c.len-count.result = omega (arith, c.if-count-eq0.false) in
    last_refused scope c.args.start.now c.args.refutation.now c.len-rows.result c.len-rows.ensures.len table right c.len-count.result c.at.result.now c.len-count.ensures.len some c.at.ensures (λ h. untrue (c.is_within.ensures.1 h) c.if-is_within.false)
