use Rattle.std.proofs.Common.{sym, ap, subst, ◌∙◌}
use Rattle.stt_core.specs.View.{the_type}
use Rattle.search_spec.specs.State.{Sketch}
use Rattle.prover_state.specs.declared.stem.Stem.{Stem}
use Rattle.prover_state.specs.Internal.Heads.{sketch_of, IsStem}
use Rattle.prover_state.specs.Internal.Standing.{scope_by, sketches_in}
use Rattle.prover_growth.proofs.ParkingLaws.{roots-blank, roots-grown}
use Rattle.prover_growth.proofs.parking.push_root.Goals as goal

pub returns-in_ok-push-in-Blank-clause-roots : goal.returns-in_ok-push-in-Blank-clause-roots
returns-in_ok-push-in-Blank-clause-roots c =
    let t = c.args.tables.now in
    let Of : Stem → Sketch = sketch_of (scope_by t.basis) (sketches_in t) in
    roots-blank (sketches_in t) (Of c.args.stem.now) t.roots c.requires.roots c.push.new.self (the_type c.in_ok-root-in-Blank.root) (c.in_ok-root-in-Blank.ensures ∙ ap the_type c.deref.ensures ∙ ap (λ s. (Of s).type) (sym c.in-Blank.is)) c.in_ok-push-in-Blank.ensures.ok

pub returns-in-Grown-clause-roots : goal.returns-in-Grown-clause-roots
returns-in-Grown-clause-roots c =
    let t = c.args.tables.now in
    let Of : Stem → Sketch = sketch_of (scope_by t.basis) (sketches_in t) in
    let stem = subst (IsStem (scope_by t.basis) (sketches_in t)) c.in-Grown.is c.requires.stem in
    roots-grown (sketches_in t) (Of c.args.stem.now) t.roots c.requires.roots c.in-Grown.parent stem.0 (ap (λ s. (Of s).type) c.in-Grown.is)
