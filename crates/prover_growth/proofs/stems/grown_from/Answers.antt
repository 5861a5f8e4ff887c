use Rattle.std.proofs.Common.{unwrap_or, ap, ap₂, sym, ◌∙◌}
use Rattle.stt_core.specs.SimpleType.{SimpleType}
use Rattle.stt_core.specs.Lambda.{Lambda}
use Rattle.search_spec.specs.Partial.{Partial, head, with_filling, with_holes}
use Rattle.prover_state.specs.Internal.Heads.{the_hole_head}
use Rattle.prover_state.specs.Internal.Names.{sketch_at}
use Rattle.prover_state.specs.Internal.Standing.{scope_by, sketches_in}
use Rattle.prover_state.proofs.FilledHoles.{filled-taken}
use Rattle.prover_growth.proofs.stems.grown_from.Goals as goal

pub returns : goal.returns
returns c =
    let t = c.args.tables.now in
    let x = sketch_at (sketches_in t) c.args.parent in
    let u = the_hole_head c.args.head in
    c.in_ok-with_head.ensures
    ∙ ap₂ (λ (a : SimpleType) (h : Lambda). unwrap_or (with_filling (with_holes a (head h)) c.args.before) c.args.before) (c.in_ok-ty.ensures c.requires.takes) c.head_of.ensures
    ∙ ap (λ (p : Partial). unwrap_or (with_filling (with_holes c.requires.takes.type (head u)) p) p) c.requires.before
    ∙ ap (λ o. unwrap_or o x.partial) (sym (filled-taken (scope_by t.basis) u x c.requires.takes))
