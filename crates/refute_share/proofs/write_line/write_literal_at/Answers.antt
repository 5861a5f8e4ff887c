use Rattle.std.proofs.Common.{◌++◌, ap, subst, ◌∙◌, append_assoc}
use Rattle.refute_print.specs.Text.{sign_text, term_text}
use Rattle.refute_print.specs.Named.{names_of, named_term}
use Rattle.refute_print.specs.Internal.Pieces.{comma_before, literal_piece}
use Rattle.outside.specs.Writing.{Stopped}
use Rattle.outside.proofs.Writes.{on_err, stopped_first}
use Rattle.refute_share.proofs.Writes.{took_after, stopped_after, took_same, stopped_same}
use Rattle.refute_share.proofs.write_line.write_literal_at.Goals as goal

pub returns-in_err-write-clause-stopped : goal.returns-in_err-write-clause-stopped
returns-in_err-write-clause-stopped g c =
    let names = names_of c.args.sig.now.bases c.args.sig.now.consts in
    let atom = c.lit.inside.atom.value in
    on_err c.from_residual.result
    (subst (λ x. Stopped g.S.Sink.tells g.S.Sink.written g.S.Sink.faults c.args.sink.now c.write.new.sink x) (ap (λ x. x ++ term_text (named_term names atom)) c.before_atom.ensures ∙ append_assoc (comma_before c.args.place) (sign_text c.lit.inside.positive) (term_text (named_term names atom)) ∙ ap (literal_piece names c.args.place) c.lit.view_is)
    (stopped_first c.before_atom.result.now (term_text (named_term names atom)) c.in_err-write.ensures.stopped))

pub returns-clause-took : goal.returns-clause-took
returns-clause-took g c =
    let names = names_of c.args.sig.now.bases c.args.sig.now.consts in
    let atom = c.lit.inside.atom.value in
    took_same _ _ _ _ _ c.write_term.result _ _ (ap (λ t. c.before_atom.result.now ++ term_text (named_term names t)) c.deref.ensures ∙ ap (λ x. x ++ term_text (named_term names atom)) c.before_atom.ensures ∙ append_assoc (comma_before c.args.place) (sign_text c.lit.inside.positive) (term_text (named_term names atom)) ∙ ap (literal_piece names c.args.place) c.lit.view_is)
    (took_after _ _ _ _ _ c.write_term.result c.before_atom.result.now (term_text (named_term names c.deref.result.now)) c.in_ok-write.ensures.took c.write_term.ensures.took)

pub returns-clause-stopped : goal.returns-clause-stopped
returns-clause-stopped g c =
    let names = names_of c.args.sig.now.bases c.args.sig.now.consts in
    let atom = c.lit.inside.atom.value in
    stopped_same _ _ _ _ _ c.write_term.result _ _ (ap (λ t. c.before_atom.result.now ++ term_text (named_term names t)) c.deref.ensures ∙ ap (λ x. x ++ term_text (named_term names atom)) c.before_atom.ensures ∙ append_assoc (comma_before c.args.place) (sign_text c.lit.inside.positive) (term_text (named_term names atom)) ∙ ap (literal_piece names c.args.place) c.lit.view_is)
    (stopped_after _ _ _ _ _ c.write_term.result c.before_atom.result.now (term_text (named_term names c.deref.result.now)) c.in_ok-write.ensures.took c.write_term.ensures.stopped)
