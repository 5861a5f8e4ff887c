use Rattle.std.proofs.Common.{[], sym, subst, arith}
use Rattle.tableau_calculus.specs.Accepted.{AreRightLines, EndsWithin}
use Rattle.tableau_calculus.specs.Witnesses.{IsTable}
use Rattle.rebuild_spec.specs.NeededRows.{rows_for_lines}
use Rattle.tableau_calculus.proofs.Soundness.{accepted_closes_start}
use Rattle.rebuild_spec.specs.Trees.{at_result}
use Rattle.rebuild_spec.specs.Laws.{RebuiltIsAccepted}
use Rattle.rebuild_spec.proofs.LinesLaws.{rebuilt_right, rebuilt_ends}
use Rattle.rebuild_spec.proofs.TrimLaws.{lines_kept, table_kept}
use Rattle.rebuild_spec.proofs.law.rebuilt_is_accepted.Goals as goal

accepted : RebuiltIsAccepted
accepted = λ scope start input refutation given is.
    let n = rows_for_lines input.rows refutation.lines in
    let place = at_result is.number in
    let right = subst (AreRightLines scope input.rows) (sym is.lines) (rebuilt_right scope start input given place is.last is.stands) in
    let kept = lines_kept scope input.rows n given.table [] refutation.lines (omega arith) right in
    record {
      table = subst (IsTable scope) (sym is.rows) (table_kept scope input.rows n given.table);
      lines = subst (λ rows. AreRightLines scope rows refutation.lines) (sym is.rows) kept;
      last = subst (EndsWithin start) (sym is.lines) (rebuilt_ends scope start input given place is.last is.stands);
    }

pub returns-clause-accepted : goal.returns-clause-accepted
returns-clause-accepted c = accepted

pub returns-clause-closed : goal.returns-clause-closed
returns-clause-closed c = λ scope start input refutation given is. accepted_closes_start scope start refutation (accepted scope start input refutation given is)
