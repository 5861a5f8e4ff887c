use Rattle.std.proofs.Common.{◌++◌, sym, subst, ◌∙◌, codes, arith}
use Rattle.stt_core.specs.View.{the_head}
use Rattle.stt_core.proofs.SizeLaws.{node_count-at, node_count-spine}
use Rattle.refute_print.specs.Text.{term_text}
use Rattle.refute_print.specs.Named.{names_of, named_term}
use Rattle.refute_print.specs.Internal.Pieces.{argument_text}
use Rattle.outside.specs.Writing.{Took, Stopped}
use Rattle.refute_share.proofs.Lists.{flat_map-all_texts, all_texts-whole}
use Rattle.refute_share.proofs.TermTexts.{argument_named, pieces_named, applied_text-some, argument_text-applied, leaf_head, whole_text}
use Rattle.outside.proofs.Writes.{on_err, stopped_first, stopped_later}
use Rattle.refute_share.proofs.Writes.{took_more, stopped_at, took_after, stopped_after, took_same, stopped_same}
use Rattle.refute_share.proofs.write_term.+term.Goals as goal

pub write_arguments-write_argument-requires : goal.write_arguments-write_argument-requires
write_arguments-write_argument-requires g t c κs within =
    let smaller = node_count-at c.args.args.now c.loop-i.i c.at.result.now c.at.ensures in
    (omega (arith, c.decreases, smaller), (within, argument_named (names_of c.args.sig.now.bases c.args.sig.now.consts) c.args.args.now c.loop-i.i _ c.at.ensures c.requires))

pub write_arguments-loop-i-preserved : goal.write_arguments-loop-i-preserved
write_arguments-loop-i-preserved g t c =
    took_more (λ k u. argument_text (names_of c.args.sig.now.bases c.args.sig.now.consts) u) c.args.args.now c.loop-i.i _ c.at.ensures c.loop-i.invariant c.in_ok-write_argument.ensures.took

pub write_arguments-returns-clause-took : goal.write_arguments-returns-clause-took
write_arguments-returns-clause-took g t c =
    let names = names_of c.args.sig.now.bases c.args.sig.now.consts in
    subst (λ x. Took g.S.Sink.tells g.S.Sink.written g.S.Sink.faults c.args.sink.now c.loop-i.sink x)
    (all_texts-whole (λ k u. argument_text names u) c.args.args.now c.loop-i.i (omega arith) ∙ flat_map-all_texts (argument_text names) 0 c.args.args.now) c.loop-i.invariant

pub write_arguments-returns-in_err-write_argument-clause-stopped : goal.write_arguments-returns-in_err-write_argument-clause-stopped
write_arguments-returns-in_err-write_argument-clause-stopped g t c =
    let names = names_of c.args.sig.now.bases c.args.sig.now.consts in
    on_err c.from_residual.result
    (subst (λ x. Stopped g.S.Sink.tells g.S.Sink.written g.S.Sink.faults c.args.sink.now c.write_argument.new.sink x) (flat_map-all_texts (argument_text names) 0 c.args.args.now)
    (stopped_at (λ k u. argument_text names u) c.args.args.now c.loop-i.i _ c.at.ensures c.loop-i.invariant c.in_err-write_argument.ensures.stopped))

pub write_term-write_binders-requires : goal.write_term-write_binders-requires
write_term-write_binders-requires g t c =
    let i = c.nf.inside in
    (pieces_named (names_of c.args.sig.now.bases c.args.sig.now.consts) i.binders (the_head i.head) i.args c.args.nf.now c.nf.view_is c.requires).0

pub write_term-write_applied-requires : goal.write_term-write_applied-requires
write_term-write_applied-requires g t c κs within =
    let i = c.nf.inside in
    let named = pieces_named (names_of c.args.sig.now.bases c.args.sig.now.consts) i.binders (the_head i.head) i.args c.args.nf.now c.nf.view_is c.requires in
    let smaller = node_count-spine i.binders (the_head i.head) i.args c.args.nf.now c.nf.view_is in
    (omega (arith, c.decreases, smaller), (within, named.1))

pub write_term-returns-in_err-write_binders-clause-stopped : goal.write_term-returns-in_err-write_binders-clause-stopped
write_term-returns-in_err-write_binders-clause-stopped g t c =
    let i = c.nf.inside in
    let names = names_of c.args.sig.now.bases c.args.sig.now.consts in
    on_err c.from_residual.result
    (subst (λ x. Stopped g.S.Sink.tells g.S.Sink.written g.S.Sink.faults c.args.sink.now c.write_binders.new.sink x) (whole_text names i.binders (the_head i.head) i.args c.args.nf.now (leaf_head i.head) c.nf.view_is)
    (stopped_first _ _ c.in_err-write_binders.ensures.stopped))

pub write_applied-returns-in_err-write_opened_head-clause-stopped : goal.write_applied-returns-in_err-write_opened_head-clause-stopped
write_applied-returns-in_err-write_opened_head-clause-stopped g t c =
    let names = names_of c.args.sig.now.bases c.args.sig.now.consts in
    on_err c.from_residual.result
    (subst (λ x. Stopped g.S.Sink.tells g.S.Sink.written g.S.Sink.faults c.args.sink.now c.write_opened_head.new.sink x) (applied_text-some names (the_head c.args.head.now) c.args.args.now (λ e. c.if-len-eq0.false (c.len.ensures ∙ e)))
    (stopped_first (codes "(" ++ term_text (named_term names (the_head c.args.head.now))) _ c.in_err-write_opened_head.ensures.stopped))

pub write_applied-returns-in_err-write_arguments-clause-stopped : goal.write_applied-returns-in_err-write_arguments-clause-stopped
write_applied-returns-in_err-write_arguments-clause-stopped g t c =
    let names = names_of c.args.sig.now.bases c.args.sig.now.consts in
    on_err c.from_residual-in_err-write_arguments.result
    (subst (λ x. Stopped g.S.Sink.tells g.S.Sink.written g.S.Sink.faults c.args.sink.now c.write_arguments.new.sink x) (applied_text-some names (the_head c.args.head.now) c.args.args.now (λ e. c.if-len-eq0.false (c.len.ensures ∙ e)))
    (stopped_later (codes "(" ++ term_text (named_term names (the_head c.args.head.now))) _ c.in_ok-write_opened_head.ensures.took (stopped_first _ (codes ")") c.in_err-write_arguments.ensures.stopped)))

pub write_argument-write_spaced_head-requires : goal.write_argument-write_spaced_head-requires
write_argument-write_spaced_head-requires g t c =
    let i = c.arg.inside in
    (pieces_named (names_of c.args.sig.now.bases c.args.sig.now.consts) i.binders (the_head i.head) i.args c.args.arg.now c.arg.view_is c.requires).1.0

pub write_argument-write_arguments-requires : goal.write_argument-write_arguments-requires
write_argument-write_arguments-requires g t c κs within =
    let i = c.arg.inside in
    let named = pieces_named (names_of c.args.sig.now.bases c.args.sig.now.consts) i.binders (the_head i.head) i.args c.args.arg.now c.arg.view_is c.requires in
    let smaller = node_count-spine i.binders (the_head i.head) i.args c.args.arg.now c.arg.view_is in
    (omega (arith, c.decreases, smaller), (within, named.1.1))

pub write_argument-returns-in_err-write_spaced_head-clause-stopped : goal.write_argument-returns-in_err-write_spaced_head-clause-stopped
write_argument-returns-in_err-write_spaced_head-clause-stopped g t c =
    let i = c.arg.inside in
    let names = names_of c.args.sig.now.bases c.args.sig.now.consts in
    on_err c.from_residual.result
    (subst (λ x. Stopped g.S.Sink.tells g.S.Sink.written g.S.Sink.faults c.args.sink.now c.write_spaced_head.new.sink x) (argument_text-applied names i.binders (the_head i.head) i.args c.args.arg.now (leaf_head i.head) (sym c.len.ensures ∙ c.if-len-eq0.true) (λ e. omega (arith, c.if-len-gt0.true, c.len-then-len-eq0.ensures, e)) c.arg.view_is)
    (stopped_first (codes " (" ++ term_text (named_term names (the_head i.head))) _ c.in_err-write_spaced_head.ensures.stopped))

pub write_argument-returns-in_err-write_arguments-clause-stopped : goal.write_argument-returns-in_err-write_arguments-clause-stopped
write_argument-returns-in_err-write_arguments-clause-stopped g t c =
    let i = c.arg.inside in
    let names = names_of c.args.sig.now.bases c.args.sig.now.consts in
    on_err c.from_residual-in_err-write_arguments.result
    (subst (λ x. Stopped g.S.Sink.tells g.S.Sink.written g.S.Sink.faults c.args.sink.now c.write_arguments.new.sink x) (argument_text-applied names i.binders (the_head i.head) i.args c.args.arg.now (leaf_head i.head) (sym c.len.ensures ∙ c.if-len-eq0.true) (λ e. omega (arith, c.if-len-gt0.true, c.len-then-len-eq0.ensures, e)) c.arg.view_is)
    (stopped_later (codes " (" ++ term_text (named_term names (the_head i.head))) _ c.in_ok-write_spaced_head.ensures.took (stopped_first _ (codes ")") c.in_err-write_arguments.ensures.stopped)))

pub write_term-returns-clause-took : goal.write_term-returns-clause-took
write_term-returns-clause-took g t c =
    let i = c.nf.inside in
    let names = names_of c.args.sig.now.bases c.args.sig.now.consts in
    took_same _ _ _ _ _ c.write_applied.result _ _ (whole_text names i.binders (the_head i.head) i.args c.args.nf.now (leaf_head i.head) c.nf.view_is) (took_after _ _ _ _ _ c.write_applied.result _ _ c.in_ok-write_binders.ensures.took c.write_applied.ensures.took)

pub write_term-returns-clause-stopped : goal.write_term-returns-clause-stopped
write_term-returns-clause-stopped g t c =
    let i = c.nf.inside in
    let names = names_of c.args.sig.now.bases c.args.sig.now.consts in
    stopped_same _ _ _ _ _ c.write_applied.result _ _ (whole_text names i.binders (the_head i.head) i.args c.args.nf.now (leaf_head i.head) c.nf.view_is) (stopped_after _ _ _ _ _ c.write_applied.result _ _ c.in_ok-write_binders.ensures.took c.write_applied.ensures.stopped)

pub write_applied-returns-in_ok-write_arguments-clause-took : goal.write_applied-returns-in_ok-write_arguments-clause-took
write_applied-returns-in_ok-write_arguments-clause-took g t c =
    let names = names_of c.args.sig.now.bases c.args.sig.now.consts in
    took_same _ _ _ _ _ c.write.result _ _ (applied_text-some names (the_head c.args.head.now) c.args.args.now (λ e. c.if-len-eq0.false (c.len.ensures ∙ e)))
    (took_after _ _ _ _ _ c.write.result (codes "(" ++ term_text (named_term names (the_head c.args.head.now))) _ c.in_ok-write_opened_head.ensures.took (took_after _ _ _ _ _ c.write.result _ (codes ")") c.in_ok-write_arguments.ensures.took c.write.ensures.took))

pub write_applied-returns-in_ok-write_arguments-clause-stopped : goal.write_applied-returns-in_ok-write_arguments-clause-stopped
write_applied-returns-in_ok-write_arguments-clause-stopped g t c =
    let names = names_of c.args.sig.now.bases c.args.sig.now.consts in
    stopped_same _ _ _ _ _ c.write.result _ _ (applied_text-some names (the_head c.args.head.now) c.args.args.now (λ e. c.if-len-eq0.false (c.len.ensures ∙ e)))
    (stopped_after _ _ _ _ _ c.write.result (codes "(" ++ term_text (named_term names (the_head c.args.head.now))) _ c.in_ok-write_opened_head.ensures.took (stopped_after _ _ _ _ _ c.write.result _ (codes ")") c.in_ok-write_arguments.ensures.took c.write.ensures.stopped))

pub write_argument-returns-in_ok-write_arguments-clause-took : goal.write_argument-returns-in_ok-write_arguments-clause-took
write_argument-returns-in_ok-write_arguments-clause-took g t c =
    let i = c.arg.inside in
    let names = names_of c.args.sig.now.bases c.args.sig.now.consts in
    took_same _ _ _ _ _ c.write.result _ _ (argument_text-applied names i.binders (the_head i.head) i.args c.args.arg.now (leaf_head i.head) (sym c.len.ensures ∙ c.if-len-eq0.true) (λ e. omega (arith, c.if-len-gt0.true, c.len-then-len-eq0.ensures, e)) c.arg.view_is)
    (took_after _ _ _ _ _ c.write.result (codes " (" ++ term_text (named_term names (the_head i.head))) _ c.in_ok-write_spaced_head.ensures.took (took_after _ _ _ _ _ c.write.result _ (codes ")") c.in_ok-write_arguments.ensures.took c.write.ensures.took))

pub write_argument-returns-in_ok-write_arguments-clause-stopped : goal.write_argument-returns-in_ok-write_arguments-clause-stopped
write_argument-returns-in_ok-write_arguments-clause-stopped g t c =
    let i = c.arg.inside in
    let names = names_of c.args.sig.now.bases c.args.sig.now.consts in
    stopped_same _ _ _ _ _ c.write.result _ _ (argument_text-applied names i.binders (the_head i.head) i.args c.args.arg.now (leaf_head i.head) (sym c.len.ensures ∙ c.if-len-eq0.true) (λ e. omega (arith, c.if-len-gt0.true, c.len-then-len-eq0.ensures, e)) c.arg.view_is)
    (stopped_after _ _ _ _ _ c.write.result (codes " (" ++ term_text (named_term names (the_head i.head))) _ c.in_ok-write_spaced_head.ensures.took (stopped_after _ _ _ _ _ c.write.result _ (codes ")") c.in_ok-write_arguments.ensures.took c.write.ensures.stopped))

pub write_argument-returns-in_err-write-clause-stopped : goal.write_argument-returns-in_err-write-clause-stopped
write_argument-returns-in_err-write-clause-stopped g t c = on_err c.from_residual-in_err-write.result (stopped_first (codes " ") _ c.in_err-write.ensures.stopped)

pub write_argument-returns-in_ok-write-clause-took : goal.write_argument-returns-in_ok-write-clause-took
write_argument-returns-in_ok-write-clause-took g t c =
    took_after _ _ _ _ _ c.write_term.result (codes " ") _ c.in_ok-write.ensures.took c.write_term.ensures.took

pub write_argument-returns-in_ok-write-clause-stopped : goal.write_argument-returns-in_ok-write-clause-stopped
write_argument-returns-in_ok-write-clause-stopped g t c =
    stopped_after _ _ _ _ _ c.write_term.result (codes " ") _ c.in_ok-write.ensures.took c.write_term.ensures.stopped
