use Rattle.std.proofs.Common.{ℕ, ap, subst, sym, ◌∙◌, arith}
use Rattle.stt_core.specs.Lambda.{Lambda}
use Rattle.stt_core.specs.View.{the_type}
use Rattle.instantiate.specs.Internal.Blanks.{term_of}
use Rattle.instantiate.proofs.SearchLaws.{sketch_takes}
use Rattle.search_spec.specs.Commands.{with_command, growth_by}
use Rattle.search_spec.specs.State.{grow}
use Rattle.search_spec.specs.Terms.{with_opening}
use Rattle.search_spec.specs.TypedState.{GrowsSketch}
use Rattle.prover_state.specs.declared.stem.Stem.TheVariants.{Grown}
use Rattle.prover_state.specs.declared.tables.Tables.{Tables}
use Rattle.prover_state.specs.Internal.Heads.{the_hole_head, IsStem}
use Rattle.prover_state.specs.Internal.Names.{sketch_at}
use Rattle.prover_state.specs.Internal.Standing.{scope_by, setting_by, sketches_in, the_state}
use Rattle.prover_state.proofs.HoleLaws.{holes-length}
use Rattle.prover_growth.specs.Internal.Stems.{IsStemType}
use Rattle.prover_growth.proofs.OpeningLaws.{same-grows}
use Rattle.prover_growth.proofs.TakingLaws.{further, last-is, no-hole-left, hole-left, whole-term, carried-last, carried-open}
use Rattle.prover_growth.proofs.filling.fill.Goals as goal

pub taken_type-requires-clause-takes : goal.taken_type-requires-clause-takes
taken_type-requires-clause-takes g c =
    let t = c.args.core.now.tables in
    let x = sketch_at (sketches_in t) c.args.parent in
    let G : Lambda → Type 0 = λ u. GrowsSketch (scope_by t.basis) x u in
    let u = the_hole_head c.numbered_head-filler.result in
    sketch_takes (scope_by t.basis) x u (subst G (sym c.numbered_head-filler.ensures) c.requires.fits)

pub is_last-requires : goal.is_last-requires
is_last-requires g c =
    let n = holes-length c.args.core.now.tables c.args.core.now.plan c.requires.right in
    omega (arith, n, c.requires.numbers.0)

pub fill_last-requires-clause-grows : goal.fill_last-requires-clause-grows
fill_last-requires-clause-grows g c =
    let t = c.args.core.now.tables in
    let x = sketch_at (sketches_in t) c.args.parent in
    let G : Lambda → Type 0 = λ u. GrowsSketch (scope_by t.basis) x u in
    subst G (sym c.numbered_head-filler.ensures) c.requires.fits

pub fill_last-requires-clause-last : goal.fill_last-requires-clause-last
fill_last-requires-clause-last g c =
    let t = c.args.core.now.tables in
    let q = c.args.core.now.plan in
    let r = c.requires.right in
    let p = c.args.parent in
    let x = sketch_at (sketches_in t) p in
    let G : Lambda → Type 0 = λ u. GrowsSketch (scope_by t.basis) x u in
    let u = the_hole_head c.numbered_head-filler.result in
    let takes = sketch_takes (scope_by t.basis) x u (subst G (sym c.numbered_head-filler.ensures) c.requires.fits) in
    let e = last-is t q r p c.requires.numbers.0 u takes (the_type c.in_ok-ty.ty) (c.in_ok-ty.ensures takes) c.is_last.result c.is_last.ensures in
    no-hole-left t q r p c.requires.numbers.0 u takes (sym e ∙ c.if-is_last.true)

pub returns-then-is_last-clause-state : goal.returns-then-is_last-clause-state
returns-then-is_last-clause-state g c =
    let t = c.args.core.now.tables in
    let q = c.args.core.now.plan in
    let r = c.requires.right in
    let p = c.args.parent in
    let x = sketch_at (sketches_in t) p in
    let G : Lambda → Type 0 = λ u. GrowsSketch (scope_by t.basis) x u in
    let u = the_hole_head c.numbered_head-filler.result in
    let takes = sketch_takes (scope_by t.basis) x u (subst G (sym c.numbered_head-filler.ensures) c.requires.fits) in
    let e = last-is t q r p c.requires.numbers.0 u takes (the_type c.in_ok-ty.ty) (c.in_ok-ty.ensures takes) c.is_last.result c.is_last.ensures in
    let last = no-hole-left t q r p c.requires.numbers.0 u takes (sym e ∙ c.if-is_last.true) in
    let after = (further t q r p c.requires.numbers.0 u takes).partial in
    c.in_ok-fill_last.ensures.state
    ∙ carried-last (setting_by t q) (the_state t q) x u (term_of after) (whole-term after last)
    ∙ ap (λ h. with_command (setting_by t q) (grow x h) (the_state t q)) c.numbered_head-filler.ensures

pub open_stem-requires-clause-stem : goal.open_stem-requires-clause-stem
open_stem-requires-clause-stem g c =
    let t = c.args.core.now.tables in
    let x = sketch_at (sketches_in t) c.args.parent in
    let G : Lambda → Type 0 = λ u. GrowsSketch (scope_by t.basis) x u in
    let u = the_hole_head c.numbered_head-filler.result in
    let S : ℕ → Type 0 = λ k. IsStem (scope_by t.basis) (sketches_in t) (Grown k c.numbered_head-filler.result) in
    subst S (sym c.in_ok-number.ensures) (c.requires.numbers.0, sketch_takes (scope_by t.basis) x u (subst G (sym c.numbered_head-filler.ensures) c.requires.fits))

pub open_stem-requires-clause-typed : goal.open_stem-requires-clause-typed
open_stem-requires-clause-typed g c =
    let t = c.args.core.now.tables in
    let T : ℕ → Type 0 = λ k. IsStemType (scope_by t.basis) (sketches_in t) (Grown k c.numbered_head-filler.result) (the_type c.in_ok-ty.ty) in
    subst T (sym c.in_ok-number.ensures) (λ takes. c.in_ok-ty.ensures takes)

pub returns-clause-state : goal.returns-clause-state
returns-clause-state g c =
    let t = c.args.core.now.tables in
    let q = c.args.core.now.plan in
    let r = c.requires.right in
    let p = c.args.parent in
    let x = sketch_at (sketches_in t) p in
    let G : Lambda → Type 0 = λ u. GrowsSketch (scope_by t.basis) x u in
    let u = the_hole_head c.numbered_head-filler.result in
    let takes = sketch_takes (scope_by t.basis) x u (subst G (sym c.numbered_head-filler.ensures) c.requires.fits) in
    let e = last-is t q r p c.requires.numbers.0 u takes (the_type c.in_ok-ty.ty) (c.in_ok-ty.ensures takes) c.is_last.result c.is_last.ensures in
    c.in_ok-open_stem.ensures.state
    ∙ ap (λ k. with_opening (setting_by t q) (growth_by (scope_by t.basis) u (sketch_at (sketches_in t) k)) (the_state t q)) c.in_ok-number.ensures
    ∙ carried-open (setting_by t q) (the_state t q) x u (hole-left t q r p c.requires.numbers.0 u takes (sym e ∙ c.if-is_last.false))
    ∙ ap (λ h. with_command (setting_by t q) (grow x h) (the_state t q)) c.numbered_head-filler.ensures

pub returns-clause-basis : goal.returns-clause-basis
returns-clause-basis g c =
    let t = c.args.core.now.tables in
    same-grows t.basis c.open_stem.new.core.tables.basis (ap (λ (v : Tables). v.basis) c.in_ok-open_stem.ensures.tables)
