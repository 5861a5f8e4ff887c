use Rattle.std.proofs.Common.{subst}
use Rattle.refute_print.specs.Named.{names_of, name_numbered}
use Rattle.outside.specs.Writing.{Took, Stopped}
use Rattle.outside.proofs.Writes.{on_err}
use Rattle.refute_print.proofs.LineTexts.{version_line-none, version_line-some}
use Rattle.refute_print.proofs.write_whole.write_version.Goals as goal

pub returns-in_err-write-in-empty-clause-stopped : goal.returns-in_err-write-in-empty-clause-stopped
returns-in_err-write-in-empty-clause-stopped g c =
    let names = names_of c.args.sig.now.bases c.args.sig.now.consts in
    on_err c.from_residual.result
    (subst (λ x. Stopped g.S.Sink.tells g.S.Sink.written g.S.Sink.faults c.args.sink.now c.write.new.sink x) (version_line-none (name_numbered names.constants) c.args.taken.now c.in-empty.len_below)
    c.in_err-write-in-empty.ensures.stopped)

pub returns-in_ok-write-in-empty-clause-took : goal.returns-in_ok-write-in-empty-clause-took
returns-in_ok-write-in-empty-clause-took g c =
    let names = names_of c.args.sig.now.bases c.args.sig.now.consts in
    subst (λ x. Took g.S.Sink.tells g.S.Sink.written g.S.Sink.faults c.args.sink.now c.write.new.sink x) (version_line-none (name_numbered names.constants) c.args.taken.now c.in-empty.len_below)
    c.in_ok-write-in-empty.ensures.took

pub returns-in_err-write-in-len1-up-clause-stopped : goal.returns-in_err-write-in-len1-up-clause-stopped
returns-in_err-write-in-len1-up-clause-stopped g c =
    let names = names_of c.args.sig.now.bases c.args.sig.now.consts in
    on_err c.from_residual-in_err-write-in-len1-up.result
    (subst (λ x. Stopped g.S.Sink.tells g.S.Sink.written g.S.Sink.faults c.args.sink.now c.write-in-len1-up.new.sink x) (version_line-some (name_numbered names.constants) c.args.taken.now c.in-len1-up.len_at_least)
    c.in_err-write-in-len1-up.ensures.stopped)

pub returns-in_ok-write-in-len1-up-clause-took : goal.returns-in_ok-write-in-len1-up-clause-took
returns-in_ok-write-in-len1-up-clause-took g c =
    let names = names_of c.args.sig.now.bases c.args.sig.now.consts in
    subst (λ x. Took g.S.Sink.tells g.S.Sink.written g.S.Sink.faults c.args.sink.now c.write-in-len1-up.new.sink x) (version_line-some (name_numbered names.constants) c.args.taken.now c.in-len1-up.len_at_least)
    c.in_ok-write-in-len1-up.ensures.took
