use Rattle.std.proofs.Common.{◌<◌, ◌||◌, length, sym, ap, subst, ◌∙◌}
use Rattle.std.proofs.lemmas.List.{length-map}
use Rattle.sat_base.specs.Literal.{same_var}
use Rattle.sat_core.specs.Internal.Marks.{MarkState, is_marked}
use Rattle.sat_core.proofs.MarkLaws.{one_stamped}
use Rattle.sat_core.proofs.marks.Marks.mark.Goals as goal

pub returns-clause-ok : goal.returns-clause-ok
returns-clause-ok c =
    let inside = c.self.inside in
    let made : c.args.var.0 < length inside.stamps.items = subst (λ n. c.args.var.0 < n) (ap (λ (m : MarkState). length m.marked) (sym c.self.view_is) ∙ length-map inside.stamps.items _) c.requires in
    λ v. one_stamped inside.stamps.items inside.epoch c.args.var.0 made v.0
    ∙ ap (λ (m : MarkState). is_marked m.marked v || same_var v c.args.var) c.self.view_is
