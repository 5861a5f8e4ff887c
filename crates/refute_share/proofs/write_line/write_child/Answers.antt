use Rattle.std.proofs.Common.{◌++◌, decimal, sym, ap, ap₂, ◌∙◌, append-nil}
use Rattle.refute_print.specs.Internal.Pieces.{child_piece}
use Rattle.refute_share.proofs.Writes.{took_same, stopped_same}
use Rattle.refute_share.proofs.write_line.write_child.Goals as goal

pub returns-in-Closed-clause-took : goal.returns-in-Closed-clause-took
returns-in-Closed-clause-took g c =
    took_same _ _ _ _ _ c.write.result _ _ (c.closed_child.ensures ∙ ap (child_piece c.args.place) (sym c.in-Closed.is)) c.write.ensures.took

pub returns-in-Closed-clause-stopped : goal.returns-in-Closed-clause-stopped
returns-in-Closed-clause-stopped g c =
    stopped_same _ _ _ _ _ c.write.result _ _ (c.closed_child.ensures ∙ ap (child_piece c.args.place) (sym c.in-Closed.is)) c.write.ensures.stopped

pub returns-in-Line-clause-took : goal.returns-in-Line-clause-took
returns-in-Line-clause-took g c =
    took_same _ _ _ _ _ c.write_numbered.result _ _ (ap₂ (λ x y. x ++ y) c.comma.ensures (append-nil (decimal c.in-Line.k)) ∙ ap (child_piece c.args.place) (sym c.in-Line.is)) c.write_numbered.ensures.took

pub returns-in-Line-clause-stopped : goal.returns-in-Line-clause-stopped
returns-in-Line-clause-stopped g c =
    stopped_same _ _ _ _ _ c.write_numbered.result _ _ (ap₂ (λ x y. x ++ y) c.comma.ensures (append-nil (decimal c.in-Line.k)) ∙ ap (child_piece c.args.place) (sym c.in-Line.is)) c.write_numbered.ensures.stopped
