use Rattle.std.proofs.Common.{subst, ◌++◌, codes, decimal}
use Rattle.refute_print.specs.Text.{term_text}
use Rattle.refute_print.specs.Named.{names_of, named_term}
use Rattle.outside.specs.Writing.{Stopped}
use Rattle.outside.proofs.Writes.{on_err, stopped_first}
use Rattle.refute_print.proofs.Writes.{took_after, stopped_after, took_same, stopped_same}
use Rattle.refute_print.proofs.LineTexts.{numbered_before}
use Rattle.refute_print.proofs.write_rule.write_instance.Goals as goal

pub returns-in_err-write_numbered-clause-stopped : goal.returns-in_err-write_numbered-clause-stopped
returns-in_err-write_numbered-clause-stopped g c =
    on_err c.from_residual.result
    (subst (λ x. Stopped g.S.Sink.tells g.S.Sink.written g.S.Sink.faults c.args.sink.now c.write_numbered.new.sink x) (numbered_before (codes "All+(") (decimal c.args.place) (codes ";") (term_text (named_term (names_of c.args.sig.now.bases c.args.sig.now.consts) c.args.term.now) ++ codes ")"))
    (stopped_first _ _ c.in_err-write_numbered.ensures.stopped))

pub returns-clause-took : goal.returns-clause-took
returns-clause-took g c =
    took_same _ _ _ _ _ c.write_term_between.result _ _ (numbered_before (codes "All+(") (decimal c.args.place) (codes ";") (term_text (named_term (names_of c.args.sig.now.bases c.args.sig.now.consts) c.args.term.now) ++ codes ")")) (took_after _ _ _ _ _ c.write_term_between.result _ _ c.in_ok-write_numbered.ensures.took c.write_term_between.ensures.took)

pub returns-clause-stopped : goal.returns-clause-stopped
returns-clause-stopped g c =
    stopped_same _ _ _ _ _ c.write_term_between.result _ _ (numbered_before (codes "All+(") (decimal c.args.place) (codes ";") (term_text (named_term (names_of c.args.sig.now.bases c.args.sig.now.consts) c.args.term.now) ++ codes ")")) (stopped_after _ _ _ _ _ c.write_term_between.result _ _ c.in_ok-write_numbered.ensures.took c.write_term_between.ensures.stopped)
