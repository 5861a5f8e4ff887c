use Rattle.std.proofs.Common.{◌≡◌, List, ◌++◌, ◌∷◌, [], map, sym, ap, ◌∙◌, subst}
use Rattle.sat_propagate.specs.Internal.Trail.{open_cell, IsTrailWhole}
use Rattle.sat_propagate.specs.declared.trail.Cell.{Cell}
use Rattle.sat_propagate.proofs.TableLaws.{inside_variable, values_variable}
use Rattle.sat_propagate.proofs.trail.Trail.add_variable.Goals as goal

pub invariant_of-self-2 : goal.invariant_of-self-2
invariant_of-self-2 c =
    let inside = c.self.inside in
    let read : c.push_reserved.new.self.items ≡ inside.cells.items ++ open_cell ∷ [] = c.push_reserved.ensures.items ∙ ap (λ (cells : List Cell). cells ++ open_cell ∷ []) c.reserve.ensures.items in
    subst (λ (cells : List Cell). IsTrailWhole c.add_variable.new.self cells (record { steps = inside.steps.items; starts = inside.starts.items; phases = map (λ (cell : Cell). cell.positive) cells }))
    (sym read) (record {
      valued = values_variable inside.values c.add_variable.new.self inside.cells.items c.self.invariant.valued c.in_ok-add_variable.ensures.ok c.in_ok-add_variable.ensures.longer;
      inside = inside_variable inside.cells.items inside.steps.items inside.starts.items c.self.invariant.inside;
    })
