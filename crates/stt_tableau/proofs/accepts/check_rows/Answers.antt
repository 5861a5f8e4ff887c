use Rattle.std.proofs.Common.{◌<◌, None, length, [], take, subst, arith}
use Rattle.stt_core.specs.View.{the_type}
use Rattle.stt_core.specs.ScopeView.{the_scope}
use Rattle.tableau_calculus.specs.Witnesses.{Row}
use Rattle.tableau_calculus.specs.Internal.Answers.{RowAnswer}
use Rattle.tableau_calculus.proofs.FailureLaws.{element, row_refused, types-more, table-more}
use Rattle.stt_tableau.proofs.accepts.check_rows.Goals as goal

pub returns-in-Some-clause-refused : goal.returns-in-Some-clause-refused
returns-in-Some-clause-refused c = λ start.
    let scope = the_scope c.args.sig.now [] in
    let rows = c.args.refutation.now.witnesses in
    let below : c.loop-i.i < length rows = omega (arith, c.loop-i-test.true, c.len-i-end.ensures.len) in
    let row = element rows c.loop-i.i below in
    row_refused scope start c.args.refutation.now c.loop-i.i row.0 c.in-Some.why row.1 c.loop-i.invariant.1
    (subst (RowAnswer scope (take c.loop-i.i rows) row.0) c.in-Some.is (c.in_ok-why.ensures row.0 row.1))

pub loop-i-preserved : goal.loop-i-preserved
loop-i-preserved c =
    let scope = the_scope c.args.sig.now [] in
    let rows = c.args.refutation.now.witnesses in
    let row = c.at.result.now in
    let q : Row = record { type = the_type c.behind-rows.inside.ty; predicate = c.behind-rows.inside.predicate } in
    let right : RowAnswer scope (take c.loop-i.i rows) row None = subst (RowAnswer scope (take c.loop-i.i rows) row) c.in_default.is (c.in_ok-why.ensures row c.at.ensures) in (
      types-more rows c.loop-i.i row q c.loop-i.types c.push.new.self (the_type c.in_ok-ty.ty) c.at.ensures c.loop-i.invariant.0 c.behind-rows.view_is c.in_ok-ty.ensures c.in_ok-push.ensures.ok,
      table-more scope rows c.loop-i.i row c.at.ensures c.loop-i.invariant.1 right.0 right.1,
    )
