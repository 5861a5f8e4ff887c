use Rattle.std.proofs.Common.{subst}
use Rattle.tableau_calculus.specs.declared.refutation.Refutation.{Refutation}
use Rattle.refute_print.specs.Named.{names_of, named_refutation}
use Rattle.outside.specs.Writing.{Stopped}
use Rattle.outside.proofs.Writes.{on_err, stopped_first, stopped_later}
use Rattle.refute_share.proofs.Writes.{took_after, stopped_after, took_same, stopped_same}
use Rattle.refute_share.proofs.LineTexts.{text_parts}
use Rattle.refute_share.proofs.write_whole.write_lines_of.Goals as goal

pub returns-in_err-write_version-clause-stopped : goal.returns-in_err-write_version-clause-stopped
returns-in_err-write_version-clause-stopped g c =
    let names = names_of c.args.sig.now.bases c.args.sig.now.consts in
    on_err c.from_residual.result
    (subst (λ x. Stopped g.S.Sink.tells g.S.Sink.written g.S.Sink.faults c.args.sink.now c.write_version.new.sink x) (text_parts (named_refutation names c.args.taken.now c.args.refutation.now))
    (stopped_first _ _ c.in_err-write_version.ensures.stopped))

pub returns-in_err-write_definitions-clause-stopped : goal.returns-in_err-write_definitions-clause-stopped
returns-in_err-write_definitions-clause-stopped g c =
    let names = names_of c.args.sig.now.bases c.args.sig.now.consts in
    on_err c.from_residual-in_err-write_definitions.result
    (subst (λ x. Stopped g.S.Sink.tells g.S.Sink.written g.S.Sink.faults c.args.sink.now c.write_definitions.new.sink x) (text_parts (named_refutation names c.args.taken.now c.args.refutation.now))
    (stopped_later _ _ c.in_ok-write_version.ensures.took (stopped_first _ _ c.in_err-write_definitions.ensures.stopped)))

pub returns-in_err-write_rows-clause-stopped : goal.returns-in_err-write_rows-clause-stopped
returns-in_err-write_rows-clause-stopped g c =
    let names = names_of c.args.sig.now.bases c.args.sig.now.consts in
    let whole : Refutation = record { witnesses = c.refutation.inside.witnesses; lines = c.refutation.inside.lines } in
    rw (← c.refutation.view_is) (on_err c.from_residual-in_err-write_rows.result
    (subst (λ x. Stopped g.S.Sink.tells g.S.Sink.written g.S.Sink.faults c.args.sink.now c.write_rows.new.sink x) (text_parts (named_refutation names c.args.taken.now whole))
    (stopped_later _ _ c.in_ok-write_version.ensures.took (stopped_later _ _ c.in_ok-write_definitions.ensures.took (stopped_first _ _ c.in_err-write_rows.ensures.stopped)))))

pub returns-clause-took : goal.returns-clause-took
returns-clause-took g c =
    let names = names_of c.args.sig.now.bases c.args.sig.now.consts in
    let whole : Refutation = record { witnesses = c.refutation.inside.witnesses; lines = c.refutation.inside.lines } in
    let r = c.write_lines.result in
    rw (← c.refutation.view_is) (took_same _ _ _ _ _ r _ _ (text_parts (named_refutation names c.args.taken.now whole))
    (took_after _ _ _ _ _ r _ _ c.in_ok-write_version.ensures.took (took_after _ _ _ _ _ r _ _ c.in_ok-write_definitions.ensures.took (took_after _ _ _ _ _ r _ _ c.in_ok-write_rows.ensures.took c.write_lines.ensures.took))))

pub returns-clause-stopped : goal.returns-clause-stopped
returns-clause-stopped g c =
    let names = names_of c.args.sig.now.bases c.args.sig.now.consts in
    let whole : Refutation = record { witnesses = c.refutation.inside.witnesses; lines = c.refutation.inside.lines } in
    let r = c.write_lines.result in
    rw (← c.refutation.view_is) (stopped_same _ _ _ _ _ r _ _ (text_parts (named_refutation names c.args.taken.now whole))
    (stopped_after _ _ _ _ _ r _ _ c.in_ok-write_version.ensures.took (stopped_after _ _ _ _ _ r _ _ c.in_ok-write_definitions.ensures.took (stopped_after _ _ _ _ _ r _ _ c.in_ok-write_rows.ensures.took c.write_lines.ensures.stopped))))
