use Rattle.std.proofs.Common.{◌≡◌, sym, ap, ◌∙◌, arith}
use Rattle.std.proofs.lemmas.List.{get_or_past}
use Rattle.std.specs.List.{slice_get}
use Rattle.sat_base.specs.Literal.{mentions_variable}
use Rattle.sat_propagate.specs.Internal.Trail.{TrailState, literals, cell_of}
use Rattle.sat_propagate.proofs.TableLaws.{found_there, found_nowhere}
use Rattle.sat_propagate.proofs.trail.Trail.find.Goals as goal

pub returns-in-Some-clause-some : goal.returns-in-Some-clause-some
returns-in-Some-clause-some c =
    let inside = c.self.inside in
    let read : cell_of inside.cells.items c.args.var ≡ c.in-Some.cell.now = grind (arith, c.in-Some.ensures.lookup, c.deref.ensures.value) in
    let found = found_there inside.cells.items inside.steps.items c.args.var c.self.invariant.inside.tabled (ap (λ cell. cell.assigned) read ∙ c.if-cell.true) in
    (found.0, ap (λ (t : TrailState). slice_get t.steps c.in-Some.cell.now.place) (sym c.self.view_is) ∙ ap (λ cell. slice_get inside.steps.items cell.place) (sym read) ∙ found.1, found.2)

pub returns-in_default-clause-none : goal.returns-in_default-clause-none
returns-in_default-clause-none c =
    let inside = c.self.inside in
    let read : cell_of inside.cells.items c.args.var ≡ c.in-Some.cell.now = grind (arith, c.in-Some.ensures.lookup, c.deref.ensures.value) in
    ap (λ (t : TrailState). mentions_variable (literals t.steps) c.args.var) (sym c.self.view_is)
    ∙ found_nowhere inside.cells.items inside.steps.items c.args.var c.self.invariant.inside.tabled (ap (λ cell. cell.assigned) read ∙ c.if-cell.false)

pub returns-in_default-2-clause-none : goal.returns-in_default-2-clause-none
returns-in_default-2-clause-none c =
    let inside = c.self.inside in
    ap (λ (t : TrailState). mentions_variable (literals t.steps) c.args.var) (sym c.self.view_is)
    ∙ found_nowhere inside.cells.items inside.steps.items c.args.var c.self.invariant.inside.tabled
    (grind (arith, get_or_past, c.get.ensures.lookup, c.in_default.is, c.deref.ensures.value))
