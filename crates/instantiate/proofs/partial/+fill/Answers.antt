use Rattle.std.proofs.Common.{length, refl, ap, sym, ◌∙◌, ◌≡◌, ◌≤◌, Option, List, arith}
use Rattle.std.proofs.lemmas.List.{length-set}
use Rattle.std.proofs.lemmas.Option.{slice_get_read}
use Rattle.stt_core.specs.View.{the_head}
use Rattle.search_spec.specs.Partial.{Partial, head as the_leaf}
use Rattle.instantiate.specs.PartialView.{the_partial_node, applications}
use Rattle.instantiate.specs.Internal.PartialSizes.{partial_node_counts}
use Rattle.instantiate.specs.Internal.Holes.{filling, filling_all}
use Rattle.instantiate.proofs.HoleLaws.{node_count-at}
use Rattle.instantiate.proofs.FillLaws.{filling-spine, at-later, drop-later, filled-later, filler-later, filled-whole, filler-whole}
use Rattle.instantiate.proofs.partial.+fill.Goals as goal

pub Partial::fill-returns-in-App-clause-filled : goal.Partial::fill-returns-in-App-clause-filled
Partial::fill-returns-in-App-clause-filled t c =
    let leaf = the_leaf (the_head c.in-App.field-0) in
    let whole : applications leaf c.in-App.args ≡ c.args.self.now = ap the_partial_node (sym c.in-App.is) ∙ c.self.view_is in
    ap (applications leaf) c.fill-in-App.ensures.filled
    ∙ ap (λ (x : Partial × Option Partial). x.0) (sym (filling-spine c.args.filler.now (the_head c.in-App.field-0) c.in-App.args) ∙ ap (filling c.args.filler.now) whole)

pub Partial::fill-returns-in-App-clause-left : goal.Partial::fill-returns-in-App-clause-left
Partial::fill-returns-in-App-clause-left t c =
    let leaf = the_leaf (the_head c.in-App.field-0) in
    let whole : applications leaf c.in-App.args ≡ c.args.self.now = ap the_partial_node (sym c.in-App.is) ∙ c.self.view_is in
    c.fill-in-App.ensures.left
    ∙ ap (λ (x : Partial × Option Partial). x.1) (sym (filling-spine c.args.filler.now (the_head c.in-App.field-0) c.in-App.args) ∙ ap (filling c.args.filler.now) whole)

pub Partials::fill-fill-requires : goal.Partials::fill-fill-requires
Partials::fill-fill-requires t c =
    let xs = c.loop-i.self-inside.items.items in
    let ys = c.self.inside.items.items in
    let p = c.index_mut-partial.result.now in
    let at = slice_get_read xs (length xs) c.loop-i.i p refl (omega (arith, c.loop-i-test.true, c.len-i-end.ensures, c.loop-i.invariant.count, c.self.inside.items.ok.0)) c.index_mut-partial.ensures.value in
    let here = at-later c.loop-i.filler (filling c.loop-i.filler p).1 xs ys c.loop-i.i p (filling c.loop-i.filler p).0 c.loop-i.invariant.later at refl refl in
    let size = ap partial_node_counts c.self.view_is in
    (omega (arith, node_count-at ys c.loop-i.i p here, size), tt)

pub Partials::fill-loop-i-preserved : goal.Partials::fill-loop-i-preserved
Partials::fill-loop-i-preserved t c =
    let xs = c.loop-i.self-inside.items.items in
    let ys = c.self.inside.items.items in
    let p = c.index_mut-partial.result.now in
    let at = slice_get_read xs (length xs) c.loop-i.i p refl (omega (arith, c.loop-i-test.true, c.len-i-end.ensures, c.loop-i.invariant.count, c.self.inside.items.ok.0)) c.index_mut-partial.ensures.value in
    let e = c.fill.ensures in
    let i = c.loop-i.invariant in
    let x = c.fill.new.self in
    let f = c.loop-i.filler in
    let g = c.fill.new.filler in
    record {
      count = length-set xs c.loop-i.i x ∙ i.count;
      later = drop-later f g xs ys c.loop-i.i p x i.later at e.filled e.left;
      filled = filled-later f g xs ys c.loop-i.i p x i.later at e.filled e.left ∙ i.filled;
      left = filler-later f g xs ys c.loop-i.i p x i.later at e.filled e.left ∙ i.left;
    }

pub Partials::fill-returns-clause-filled : goal.Partials::fill-returns-clause-filled
Partials::fill-returns-clause-filled t c =
    let xs = c.loop-i.self-inside.items.items in
    let ys = c.self.inside.items.items in
    let passed : length ys ≤ c.loop-i.i = omega (arith, c.loop-i-test.false, c.len-i-end.ensures, c.self.inside.items.ok.0) in
    filled-whole c.loop-i.filler c.args.filler.now xs ys c.loop-i.i passed c.loop-i.invariant.count c.loop-i.invariant.filled
    ∙ ap (λ (zs : List Partial). (filling_all c.args.filler.now zs).0) c.self.view_is

pub Partials::fill-returns-clause-left : goal.Partials::fill-returns-clause-left
Partials::fill-returns-clause-left t c =
    let xs = c.loop-i.self-inside.items.items in
    let ys = c.self.inside.items.items in
    let passed : length ys ≤ c.loop-i.i = omega (arith, c.loop-i-test.false, c.len-i-end.ensures, c.self.inside.items.ok.0) in
    filler-whole c.loop-i.filler c.args.filler.now xs ys c.loop-i.i passed c.loop-i.invariant.count c.loop-i.invariant.left
    ∙ ap (λ (zs : List Partial). (filling_all c.args.filler.now zs).1) c.self.view_is
