use Rattle.std.proofs.Common.{◌≡◌, ◌<◌, ◌++◌, ◌∷◌, [], ℕ, List, None, true, false, length, map, set, length-set, refl, sym, ap, subst, ◌∙◌, arith}
use Rattle.std.proofs.lemmas.List.{length-map}
use Rattle.sat_base.specs.Literal.{mentions_variable}
use Rattle.sat_propagate.specs.Internal.Trail.{TrailState, literals, IsTrailInside}
use Rattle.sat_propagate.specs.declared.trail.Step.{Step}
use Rattle.sat_propagate.specs.declared.trail.Cell.{Cell}
use Rattle.sat_propagate.proofs.TableLaws.{inside_assigned, inside_read, inside_started, values_assigned}
use Rattle.sat_propagate.proofs.trail.Trail.decide.Goals as goal

pub invariant_of-self-2 : goal.invariant_of-self-2
invariant_of-self-2 c =
    let inside = c.self.inside in
    let steps = inside.steps.items in
    let last : Step = record { literal = c.args.literal; reason = None } in
    let place_is : c.len-place.result ≡ length steps = omega arith in
    let made : c.args.literal.var.0 < length inside.cells.items = subst (λ n. c.args.literal.var.0 < n) (ap (λ (t : TrailState). length t.phases) (sym c.self.view_is) ∙ length-map inside.cells.items (λ (cell : Cell). cell.positive)) c.requires.made in
    let absent : mentions_variable (literals steps) c.args.literal.var ≡ false = ap (λ (t : TrailState). mentions_variable (literals t.steps) c.args.literal.var) c.self.view_is ∙ c.requires.undecided in
    let cells : List Cell = set inside.cells.items c.args.literal.var.0 (record { assigned = true; positive = c.args.literal.positive; place = c.len-place.result }) in
    let started_read : c.push_reserved.new.self.items ≡ inside.starts.items ++ c.len-place.result ∷ [] = cc in
    let started_is : c.push_reserved.new.self.items ≡ inside.starts.items ++ length steps ∷ [] = started_read ∙ ap (λ (n : ℕ). inside.starts.items ++ n ∷ []) place_is in
    let read = inside_read inside.cells.items steps (steps ++ last ∷ []) inside.starts.items c.args.literal None c.len-place.result place_is refl
    (inside_assigned inside.cells.items steps inside.starts.items c.args.literal None c.self.invariant.inside made absent) in
    let after : IsTrailInside cells (record { steps = c.push.new.self.items; starts = c.push_reserved.new.self.items; phases = map (λ (cell : Cell). cell.positive) cells }) =
    subst (λ (list : List Step). IsTrailInside cells (record { steps = list; starts = c.push_reserved.new.self.items; phases = map (λ (cell : Cell). cell.positive) cells })) (sym c.in_ok-push.ensures.items)
    (subst (λ (list : List ℕ). IsTrailInside cells (record { steps = steps ++ last ∷ []; starts = list; phases = map (λ (cell : Cell). cell.positive) cells })) (sym started_is)
    (inside_started cells steps inside.starts.items last (map (λ (cell : Cell). cell.positive) cells) c.self.invariant.inside.right.within read)) in
    record {
      valued = values_assigned inside.values c.set.new.self inside.cells.items cells steps c.push.new.self.items c.args.literal None c.self.invariant.inside.tabled after.tabled c.in_ok-push.ensures.items c.self.invariant.valued c.set.ensures
          (length-set inside.cells.items c.args.literal.var.0 (record { assigned = true; positive = c.args.literal.positive; place = c.len-place.result }));
      inside = after;
    }

pub set-requires : goal.set-requires
set-requires c =
    let made : c.args.literal.var.0 < length c.self.inside.cells.items = subst (λ n. c.args.literal.var.0 < n) (ap (λ (t : TrailState). length t.phases) (sym c.self.view_is) ∙ length-map c.self.inside.cells.items (λ (cell : Cell). cell.positive)) c.requires.made in
    let count = c.self.invariant.valued.made in
    omega arith
