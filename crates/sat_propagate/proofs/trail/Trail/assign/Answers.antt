use Rattle.std.proofs.Common.{◌≡◌, ◌<◌, List, true, false, length, set, length-set, sym, ap, subst, ◌∙◌, arith}
use Rattle.std.proofs.lemmas.List.{length-map}
use Rattle.sat_base.specs.Literal.{mentions_variable}
use Rattle.sat_propagate.specs.Internal.Trail.{TrailState, literals}
use Rattle.sat_propagate.specs.declared.trail.Cell.{Cell}
use Rattle.sat_propagate.proofs.TableLaws.{inside_assigned, inside_read, values_assigned}
use Rattle.sat_propagate.proofs.trail.Trail.assign.Goals as goal

pub invariant_of-self-2 : goal.invariant_of-self-2
invariant_of-self-2 c =
    let inside = c.self.inside in
    let place_is : c.len-place.result ≡ length inside.steps.items = omega arith in
    let made : c.args.literal.var.0 < length inside.cells.items = subst (λ n. c.args.literal.var.0 < n) (ap (λ (t : TrailState). length t.phases) (sym c.self.view_is) ∙ length-map inside.cells.items (λ (cell : Cell). cell.positive)) c.requires.made in
    let absent : mentions_variable (literals inside.steps.items) c.args.literal.var ≡ false = ap (λ (t : TrailState). mentions_variable (literals t.steps) c.args.literal.var) c.self.view_is ∙ c.requires.undecided in
    let cells : List Cell = set inside.cells.items c.args.literal.var.0 (record { assigned = true; positive = c.args.literal.positive; place = c.len-place.result }) in
    let after =
    inside_read inside.cells.items inside.steps.items c.push.new.self.items inside.starts.items c.args.literal c.args.reason c.len-place.result place_is c.in_ok-push.ensures.items
    (inside_assigned inside.cells.items inside.steps.items inside.starts.items c.args.literal c.args.reason c.self.invariant.inside made absent) in
    record {
      valued = values_assigned inside.values c.set.new.self inside.cells.items cells inside.steps.items c.push.new.self.items c.args.literal c.args.reason c.self.invariant.inside.tabled after.tabled c.in_ok-push.ensures.items c.self.invariant.valued c.set.ensures
          (length-set inside.cells.items c.args.literal.var.0 (record { assigned = true; positive = c.args.literal.positive; place = c.len-place.result }));
      inside = after;
    }

pub set-requires : goal.set-requires
set-requires c =
    let made : c.args.literal.var.0 < length c.self.inside.cells.items = subst (λ n. c.args.literal.var.0 < n) (ap (λ (t : TrailState). length t.phases) (sym c.self.view_is) ∙ length-map c.self.inside.cells.items (λ (cell : Cell). cell.positive)) c.requires.made in
    let count = c.self.invariant.valued.made in
    omega arith
