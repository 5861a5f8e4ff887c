use Rattle.std.proofs.Common.{◌≡◌, ◌<◌, ◌≤◌, ℕ, List, Some, false, length, take, map, get_or, set, length-set, refl, sym, ap, subst, ◌∙◌, arith}
use Rattle.std.specs.List.{slice_get}
use Rattle.std.proofs.lemmas.Option.{slice_get-get_or}
use Rattle.sat_propagate.specs.Internal.Trail.{TrailState, open_cell, IsTrailInside}
use Rattle.sat_propagate.specs.declared.trail.Step.{Step}
use Rattle.sat_propagate.specs.declared.trail.Cell.{Cell}
use Rattle.sat_propagate.proofs.TableLaws.{IsUndone, undone_start, undone_next, inside_back, values_undone, gone_cell, get_or-any, var_in_table}
use Rattle.sat_propagate.proofs.trail.Trail.back_to.Goals as goal

pub loop-i-init : goal.loop-i-init
loop-i-init c = record {
  valued = c.self.invariant.valued;
  undone = undone_start c.self.inside.cells.items c.self.inside.steps.items c.index-start.result.now c.self.invariant.inside.tabled;
  steps = refl;
  starts = refl;
}

pub index_mut-cell-requires : goal.index_mut-cell-requires
index_mut-cell-requires c =
    let inside = c.self.inside in
    let inside_it : c.loop-i.i < length inside.steps.items = omega (arith, c.loop-i-test.true, c.len-i-end.ensures) in
    let at : slice_get inside.steps.items c.loop-i.i ≡ Some c.index-step.result.now =
    slice_get-get_or inside.steps.items c.loop-i.i c.index-step.result.now inside_it
    ∙ ap Some (ap (λ (list : List Step). get_or list c.loop-i.i c.index-step.result.now) (sym c.loop-i.invariant.steps) ∙ sym c.index-step.ensures) in
    let made : c.index-step.result.now.literal.var.0 < length c.loop-i.self-inside.cells.items =
    var_in_table inside.cells.items c.loop-i.self-inside.cells.items inside.steps.items c.loop-i.i c.index-step.result.now c.self.invariant.inside.right.over c.loop-i.invariant.undone.phases at in
    omega arith

pub loop-i-preserved : goal.loop-i-preserved
loop-i-preserved c =
    let inside = c.self.inside in
    let cells = c.loop-i.self-inside.cells.items in
    let step : Step = c.index-step.result.now in
    let inside_it : c.loop-i.i < length inside.steps.items = omega (arith, c.loop-i-test.true, c.len-i-end.ensures) in
    let at : slice_get inside.steps.items c.loop-i.i ≡ Some step =
    slice_get-get_or inside.steps.items c.loop-i.i step inside_it
    ∙ ap Some (ap (λ (list : List Step). get_or list c.loop-i.i step) (sym c.loop-i.invariant.steps) ∙ sym c.index-step.ensures) in
    let made : step.literal.var.0 < length cells = var_in_table inside.cells.items cells inside.steps.items c.loop-i.i step c.self.invariant.inside.right.over c.loop-i.invariant.undone.phases at in
    let old : Cell = c.index_mut-cell.result.now in
    let written : List Cell = set cells step.literal.var.0 (record { assigned = false; positive = old.positive; place = old.place }) in
    let next = undone_next inside.cells.items cells inside.steps.items c.index-start.result.now c.loop-i.i step old c.loop-i.invariant.undone c.self.invariant.inside.right.once c.loop-i.auto.i at made
    (c.index_mut-cell.ensures.value ∙ get_or-any cells step.literal.var.0 _ open_cell made) in
    record {
      valued = values_undone c.loop-i.self-inside.values c.set.new.self inside.cells.items cells written inside.steps.items c.index-start.result.now c.loop-i.i step c.loop-i.invariant.undone next at
          (gone_cell cells step.literal old.positive old.place made) c.loop-i.invariant.valued c.set.ensures (length-set cells step.literal.var.0 (record { assigned = false; positive = old.positive; place = old.place }));
      undone = next;
      steps = c.loop-i.invariant.steps;
      starts = c.loop-i.invariant.starts;
    }

pub invariant_of-self : goal.invariant_of-self
invariant_of-self c =
    let inside = c.self.inside in
    let start : ℕ = c.index-start.result.now in
    let levels_in : c.args.levels < length inside.starts.items = subst (λ n. c.args.levels < n) (ap (λ (t : TrailState). length t.starts) (sym c.self.view_is)) c.requires in
    let start_is : start ≡ get_or inside.starts.items c.args.levels 0 = c.index-start.ensures ∙ get_or-any inside.starts.items c.args.levels _ 0 levels_in in
    let short : start ≤ length inside.steps.items = let below = c.self.invariant.inside.right.within c.args.levels 0 levels_in in omega arith in
    let end_is : c.loop-i.i ≡ length inside.steps.items = let end : c.len-i-end.result ≡ length inside.steps.items = omega (arith, c.len-i-end.ensures) in let most : c.loop-i.i ≤ c.len-i-end.result = c.loop-i.auto.i-end (omega arith) in omega (arith, c.loop-i-test.false) in
    let cells = c.loop-i.self-inside.cells.items in
    record {
      valued = c.loop-i.invariant.valued;
      inside =
          subst (λ (list : List Step). IsTrailInside cells (record { steps = list; starts = c.truncate-2.new.self.items; phases = map (λ (cell : Cell). cell.positive) cells }))
          (sym (c.truncate.ensures.items ∙ ap (take start) c.loop-i.invariant.steps))
          (subst (λ (list : List ℕ). IsTrailInside cells (record { steps = take start inside.steps.items; starts = list; phases = map (λ (cell : Cell). cell.positive) cells }))
          (sym (c.truncate-2.ensures.items ∙ ap (take c.args.levels) c.loop-i.invariant.starts))
          (inside_back inside.cells.items cells inside.steps.items inside.starts.items c.args.levels start
          (subst (λ (n : ℕ). IsUndone inside.cells.items cells inside.steps.items start n) end_is c.loop-i.invariant.undone) c.self.invariant.inside.right levels_in start_is short));
    }

pub returns-clause-steps : goal.returns-clause-steps
returns-clause-steps c =
    let inside = c.self.inside in
    let levels_in : c.args.levels < length inside.starts.items = subst (λ n. c.args.levels < n) (ap (λ (t : TrailState). length t.starts) (sym c.self.view_is)) c.requires in
    let start_is : c.index-start.result.now ≡ get_or inside.starts.items c.args.levels 0 = c.index-start.ensures ∙ get_or-any inside.starts.items c.args.levels _ 0 levels_in in
    c.truncate.ensures.items ∙ ap (take c.index-start.result.now) c.loop-i.invariant.steps
    ∙ ap (λ (n : ℕ). take n inside.steps.items) start_is
    ∙ ap (λ (t : TrailState). take (get_or t.starts c.args.levels 0) t.steps) c.self.view_is

pub returns-clause-starts : goal.returns-clause-starts
returns-clause-starts c =
    c.truncate-2.ensures.items ∙ ap (take c.args.levels) c.loop-i.invariant.starts ∙ ap (λ (t : TrailState). take c.args.levels t.starts) c.self.view_is

pub set-requires : goal.set-requires
set-requires c =
    let inside = c.self.inside in
    let inside_it : c.loop-i.i < length inside.steps.items = omega (arith, c.loop-i-test.true, c.len-i-end.ensures) in
    let at : slice_get inside.steps.items c.loop-i.i ≡ Some c.index-step.result.now =
    slice_get-get_or inside.steps.items c.loop-i.i c.index-step.result.now inside_it
    ∙ ap Some (ap (λ (list : List Step). get_or list c.loop-i.i c.index-step.result.now) (sym c.loop-i.invariant.steps) ∙ sym c.index-step.ensures) in
    let made : c.index-step.result.now.literal.var.0 < length c.loop-i.self-inside.cells.items =
    var_in_table inside.cells.items c.loop-i.self-inside.cells.items inside.steps.items c.loop-i.i c.index-step.result.now c.self.invariant.inside.right.over c.loop-i.invariant.undone.phases at in
    let count = c.loop-i.invariant.valued.made in
    omega arith
