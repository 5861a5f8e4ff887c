use Rattle.std.proofs.Common.{[], ◌∷◌, ◌++◌, List, sym, ap, subst, ◌∙◌, arith}
use Rattle.stt_core.specs.View.{the_type}
use Rattle.search_spec.specs.Partial.{Hole}
use Rattle.prover_state.specs.declared.stem.Stem.{Stem}
use Rattle.prover_state.specs.Internal.Heads.{the_hole_head, sketch_of, IsStem}
use Rattle.prover_state.specs.Internal.Holes.{holes_in, blank_hole}
use Rattle.prover_state.specs.Internal.Names.{sketch_at}
use Rattle.prover_state.specs.Internal.Standing.{scope_by, sketches_in}
use Rattle.prover_state.proofs.FilledHoles.{holes-blank}
use Rattle.prover_state.proofs.HoleLaws.{holes-at, holes-length}
use Rattle.prover_growth.specs.Internal.Stems.{IsStemType}
use Rattle.prover_growth.proofs.TakingLaws.{holes-after}
use Rattle.prover_growth.proofs.parking.push_holes.Goals as goal

pub returns-in_ok-push_blank-in-Blank-clause-holes : goal.returns-in_ok-push_blank-in-Blank-clause-holes
returns-in_ok-push_blank-in-Blank-clause-holes c =
    let t = c.args.tables.now in
    let Typed : Stem → Type 0 = λ s. IsStemType (scope_by t.basis) (sketches_in t) s (the_type c.args.ty.now) in
    let Of : Stem → List Hole = λ s. holes_in [] (sketch_of (scope_by t.basis) (sketches_in t) s).partial in
    let type = subst Typed c.in-Blank.is c.requires.typed in
    c.in_ok-push_blank-in-Blank.ensures
    ∙ ap (λ hs. t.open_holes ++ hs ∷ []) (ap (λ a. blank_hole [] a ∷ []) type ∙ sym (holes-blank [] (the_type c.in-Blank.field-0.value)) ∙ ap Of (sym c.in-Blank.is))

pub push_grown-requires : goal.push_grown-requires
push_grown-requires c =
    let t = c.args.tables.now in
    let n = holes-length t c.requires.right.0 c.requires.right.1 in
    let k = (subst (IsStem (scope_by t.basis) (sketches_in t)) c.in-Grown.is c.requires.stem).0 in
    omega (arith, n, k)

pub returns-in_ok-push_grown-in-Grown-clause-holes : goal.returns-in_ok-push_grown-in-Grown-clause-holes
returns-in_ok-push_grown-in-Grown-clause-holes c =
    let t = c.args.tables.now in
    let q = c.requires.right.0 in
    let r = c.requires.right.1 in
    let p = c.in-Grown.parent in
    let u = the_hole_head c.in-Grown.head in
    let stem = subst (IsStem (scope_by t.basis) (sketches_in t)) c.in-Grown.is c.requires.stem in
    let Typed : Stem → Type 0 = λ s. IsStemType (scope_by t.basis) (sketches_in t) s (the_type c.args.ty.now) in
    let type = subst Typed c.in-Grown.is c.requires.typed in
    let Of : Stem → List Hole = λ s. holes_in [] (sketch_of (scope_by t.basis) (sketches_in t) s).partial in
    c.in_ok-push_grown-in-Grown.ensures (holes_in [] (sketch_at (sketches_in t) p).partial) (holes-at t q r p stem.0)
    ∙ ap (λ hs. t.open_holes ++ hs ∷ []) (sym (holes-after t q r p stem.0 u stem.1 (the_type c.args.ty.now) (type stem.1)) ∙ ap Of (sym c.in-Grown.is))
