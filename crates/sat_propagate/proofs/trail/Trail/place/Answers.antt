use Rattle.std.proofs.Common.{◌≡◌, ◌<◌, true, length, sym, ap, ◌∙◌, arith}
use Rattle.sat_base.specs.Literal.{mentions_variable}
use Rattle.sat_propagate.specs.Internal.Trail.{TrailState, literals, cell_of, open_cell}
use Rattle.std.specs.List.{slice_get}
use Rattle.sat_propagate.specs.declared.trail.Cell.{Cell}
use Rattle.sat_propagate.proofs.TableLaws.{made_if_mentioned, get_or-any}
use Rattle.sat_propagate.proofs.trail.Trail.place.Goals as goal

pub index-requires : goal.index-requires
index-requires c =
    let inside = c.self.inside in
    let there : mentions_variable (literals inside.steps.items) c.args.var ≡ true = ap (λ (t : TrailState). mentions_variable (literals t.steps) c.args.var) c.self.view_is ∙ c.requires in
    let made : c.args.var.0 < length inside.cells.items = made_if_mentioned inside.cells.items inside.steps.items c.args.var c.self.invariant.inside.tabled there in
    omega arith

pub returns-clause-place : goal.returns-clause-place
returns-clause-place c =
    let inside = c.self.inside in
    let there : mentions_variable (literals inside.steps.items) c.args.var ≡ true = ap (λ (t : TrailState). mentions_variable (literals t.steps) c.args.var) c.self.view_is ∙ c.requires in
    let made : c.args.var.0 < length inside.cells.items = made_if_mentioned inside.cells.items inside.steps.items c.args.var c.self.invariant.inside.tabled there in
    let read : c.index.result.now ≡ cell_of inside.cells.items c.args.var = c.index.ensures ∙ get_or-any inside.cells.items c.args.var.0 _ open_cell made in
    λ i step at same.
    ap (λ (cell : Cell). cell.place) (read ∙ ap (cell_of inside.cells.items) (sym same))
    ∙ c.self.invariant.inside.tabled.places i step (ap (λ (t : TrailState). slice_get t.steps i) c.self.view_is ∙ at)
