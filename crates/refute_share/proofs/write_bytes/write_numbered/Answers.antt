use Rattle.std.proofs.Common.{[], ◌++◌, ap₂, ◌∙◌, append-nil}
use Rattle.refute_share.proofs.Writes.{took_by, stopped_by, took_same, stopped_same}
use Rattle.refute_share.proofs.write_bytes.write_numbered.Goals as goal

pub returns-clause-took : goal.returns-clause-took
returns-clause-took g c =
    let w = c.write_pieces.ensures in
    took_same _ _ _ _ _ c.write_pieces.result _ _ (ap₂ (λ x y. c.args.before.now ++ (x ++ y)) (c.as_bytes-digits.ensures.value ∙ c.format.ensures.text) (append-nil c.args.after.now))
    (took_by _ _ _ _ _ c.write_pieces.result (c.args.before.now ++ (c.as_bytes-digits.result.now ++ (c.args.after.now ++ []))) w.appended w.quiet w.telling)

pub returns-clause-stopped : goal.returns-clause-stopped
returns-clause-stopped g c =
    let w = c.write_pieces.ensures in
    stopped_same _ _ _ _ _ c.write_pieces.result _ _ (ap₂ (λ x y. c.args.before.now ++ (x ++ y)) (c.as_bytes-digits.ensures.value ∙ c.format.ensures.text) (append-nil c.args.after.now))
    (stopped_by _ _ _ _ _ c.write_pieces.result (c.args.before.now ++ (c.as_bytes-digits.result.now ++ (c.args.after.now ++ []))) w.failed w.cause w.later w.telling)
