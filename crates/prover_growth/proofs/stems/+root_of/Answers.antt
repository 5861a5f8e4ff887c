use Rattle.std.proofs.Common.{length, slice_get, Some, sym, ap, ◌∙◌, arith}
use Rattle.stt_core.specs.View.{the_type}
use Rattle.search_spec.specs.State.{Sketch}
use Rattle.prover_state.proofs.SketchLaws.{stems-length, sketch-blank, parent-before, sketch-grown}
use Rattle.prover_growth.proofs.stems.+root_of.Goals as goal

pub stem_at-requires : goal.stem_at-requires
stem_at-requires d c =
    let t = c.args.tables.now in
    let q = c.requires.right.0 in
    let r = c.requires.right.1 in
    let n = stems-length t q r 0 in
    let e = ap length c.as_slice.ensures.value in
    omega (arith, n, e, c.requires.number)

pub root_of-requires : goal.root_of-requires
root_of-requires d c =
    let t = c.args.tables.now in
    let q = c.requires.right.0 in
    let r = c.requires.right.1 in
    let at = ap (λ xs. slice_get xs c.args.p) (sym c.as_slice.ensures.value) ∙ c.stem_at.ensures ∙ ap Some c.in-Grown.is in
    let k = parent-before t q r c.args.p c.in-Grown.parent c.in-Grown.head at in
    (omega (arith, k), (c.requires.right, omega (arith, k, c.requires.number)))

pub returns-in-Blank : goal.returns-in-Blank
returns-in-Blank d c =
    let t = c.args.tables.now in
    let q = c.requires.right.0 in
    let r = c.requires.right.1 in
    let at = ap (λ xs. slice_get xs c.args.p) (sym c.as_slice.ensures.value) ∙ c.stem_at.ensures ∙ ap Some c.in-Blank.is in
    ap the_type c.deref.ensures ∙ ap (λ (s : Sketch). s.type) (sym (sketch-blank t q r c.args.p c.in-Blank.ty at))

pub returns-in-Grown : goal.returns-in-Grown
returns-in-Grown d c =
    let t = c.args.tables.now in
    let q = c.requires.right.0 in
    let r = c.requires.right.1 in
    let at = ap (λ xs. slice_get xs c.args.p) (sym c.as_slice.ensures.value) ∙ c.stem_at.ensures ∙ ap Some c.in-Grown.is in
    c.root_of.ensures ∙ ap (λ (s : Sketch). s.type) (sym (sketch-grown t q r c.args.p c.in-Grown.parent c.in-Grown.head at))
