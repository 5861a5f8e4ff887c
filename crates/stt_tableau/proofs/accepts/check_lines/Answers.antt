use Rattle.std.proofs.Common.{◌<◌, length, [], take, subst, arith}
use Rattle.stt_core.specs.ScopeView.{the_scope}
use Rattle.tableau_calculus.specs.Witnesses.{with_rows}
use Rattle.tableau_calculus.specs.Internal.Answers.{LineAnswer}
use Rattle.tableau_calculus.proofs.FailureLaws.{element, line_refused, lines-more}
use Rattle.stt_tableau.proofs.accepts.check_lines.Goals as goal

pub returns-in-Some-clause-refused : goal.returns-in-Some-clause-refused
returns-in-Some-clause-refused c = λ start.
    let scope = the_scope c.args.sig.now [] in
    let rows = c.args.refutation.now.witnesses in
    let lines = c.args.refutation.now.lines in
    let below : c.loop-i.i < length lines = omega (arith, c.loop-i-test.true, c.len-i-end.ensures.len) in
    let line = element lines c.loop-i.i below in
    line_refused scope start c.args.refutation.now c.len.result c.loop-i.i line.0 c.in-Some.why c.len.ensures.len line.1 c.requires.table c.loop-i.invariant
    (subst (LineAnswer (with_rows scope rows) rows (take c.loop-i.i lines) line.0) c.in-Some.is (c.in_ok-why.ensures line.0 line.1))

pub loop-i-preserved : goal.loop-i-preserved
loop-i-preserved c =
    let scope = the_scope c.args.sig.now [] in
    let rows = c.args.refutation.now.witnesses in
    let lines = c.args.refutation.now.lines in
    let below : c.loop-i.i < length lines = omega (arith, c.loop-i-test.true, c.len-i-end.ensures.len) in
    let line = element lines c.loop-i.i below in
    lines-more (with_rows scope rows) rows lines c.loop-i.i line.0 line.1 c.loop-i.invariant
    (subst (LineAnswer (with_rows scope rows) rows (take c.loop-i.i lines) line.0) c.in_default.is (c.in_ok-why.ensures line.0 line.1))
