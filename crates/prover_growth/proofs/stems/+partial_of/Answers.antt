use Rattle.std.proofs.Common.{length, slice_get, Some, sym, ap, ◌∙◌, arith}
use Rattle.stt_core.specs.View.{the_type}
use Rattle.search_spec.specs.Partial.{blank_partial}
use Rattle.search_spec.specs.State.{Sketch}
use Rattle.prover_state.proofs.SketchLaws.{stems-length, sketch-blank, parent-before, parent-takes, sketch-grown}
use Rattle.prover_growth.proofs.stems.+partial_of.Goals as goal

pub stem_at-requires : goal.stem_at-requires
stem_at-requires d c =
    let t = c.args.tables.now in
    let q = c.requires.right.0 in
    let r = c.requires.right.1 in
    let n = stems-length t q r 0 in
    let e = ap length c.as_slice.ensures.value in
    omega (arith, n, e, c.requires.number)

pub partial_of-requires : goal.partial_of-requires
partial_of-requires d c =
    let t = c.args.tables.now in
    let q = c.requires.right.0 in
    let r = c.requires.right.1 in
    let at = ap (λ xs. slice_get xs c.args.p) (sym c.as_slice.ensures.value) ∙ c.stem_at.ensures ∙ ap Some c.in-Grown.is in
    let k = parent-before t q r c.args.p c.in-Grown.parent c.in-Grown.head at in
    (omega (arith, k), (c.requires.right, omega (arith, k, c.requires.number)))

pub returns-in_ok-of_type-in-Blank : goal.returns-in_ok-of_type-in-Blank
returns-in_ok-of_type-in-Blank d c =
    let t = c.args.tables.now in
    let q = c.requires.right.0 in
    let r = c.requires.right.1 in
    let at = ap (λ xs. slice_get xs c.args.p) (sym c.as_slice.ensures.value) ∙ c.stem_at.ensures ∙ ap Some c.in-Blank.is in
    c.in_ok-of_type-in-Blank.ensures ∙ ap (λ a. blank_partial (the_type a)) c.deref.ensures ∙ ap (λ (s : Sketch). s.partial) (sym (sketch-blank t q r c.args.p c.in-Blank.ty at))

pub grown_from-requires-clause-number : goal.grown_from-requires-clause-number
grown_from-requires-clause-number d c =
    let t = c.args.tables.now in
    let q = c.requires.right.0 in
    let r = c.requires.right.1 in
    let at = ap (λ xs. slice_get xs c.args.p) (sym c.as_slice.ensures.value) ∙ c.stem_at.ensures ∙ ap Some c.in-Grown.is in
    let k = parent-before t q r c.args.p c.in-Grown.parent c.in-Grown.head at in
    omega (arith, k, c.requires.number)

pub grown_from-requires-clause-takes : goal.grown_from-requires-clause-takes
grown_from-requires-clause-takes d c =
    let t = c.args.tables.now in
    let q = c.requires.right.0 in
    let r = c.requires.right.1 in
    let at = ap (λ xs. slice_get xs c.args.p) (sym c.as_slice.ensures.value) ∙ c.stem_at.ensures ∙ ap Some c.in-Grown.is in
    parent-takes t q r c.args.p c.in-Grown.parent c.in-Grown.head at

pub returns-in_ok-grown_from-in-Grown : goal.returns-in_ok-grown_from-in-Grown
returns-in_ok-grown_from-in-Grown d c =
    let t = c.args.tables.now in
    let q = c.requires.right.0 in
    let r = c.requires.right.1 in
    let at = ap (λ xs. slice_get xs c.args.p) (sym c.as_slice.ensures.value) ∙ c.stem_at.ensures ∙ ap Some c.in-Grown.is in
    c.in_ok-grown_from-in-Grown.ensures ∙ ap (λ (s : Sketch). s.partial) (sym (sketch-grown t q r c.args.p c.in-Grown.parent c.in-Grown.head at))
