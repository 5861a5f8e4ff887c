use Rattle.std.proofs.Common.{◌<◌, ◌&&◌, not, length, sym, ap, subst, ◌∙◌}
use Rattle.std.proofs.lemmas.List.{length-map}
use Rattle.sat_base.specs.Literal.{same_var}
use Rattle.sat_core.specs.Internal.Marks.{MarkState, is_marked}
use Rattle.sat_core.proofs.MarkLaws.{one_unstamped}
use Rattle.sat_core.proofs.marks.Marks.unmark.Goals as goal

pub returns-clause-marks : goal.returns-clause-marks
returns-clause-marks c =
    let inside = c.self.inside in
    let made : c.args.var.0 < length inside.stamps.items = subst (λ n. c.args.var.0 < n) (ap (λ (m : MarkState). length m.marked) (sym c.self.view_is) ∙ length-map inside.stamps.items _) c.requires in
    λ v. one_unstamped inside.stamps.items inside.epoch c.args.var.0 c.self.invariant.begun made v.0
    ∙ ap (λ (m : MarkState). is_marked m.marked v && not (same_var v c.args.var)) c.self.view_is
