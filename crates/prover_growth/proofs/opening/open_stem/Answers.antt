use Rattle.std.proofs.Common.{◌≡◌, [], ◌∷◌, length, ap, ◌∙◌, arith, length-append}
use Rattle.prover_state.specs.declared.tables.Tables.{Tables}
use Rattle.prover_state.specs.Internal.Heads.{sketch_of}
use Rattle.prover_state.specs.Internal.Standing.{scope_by, sketches_in}
use Rattle.prover_state.proofs.SketchLaws.{stems-length}
use Rattle.prover_growth.proofs.ParkingLaws.{opened-newest}
use Rattle.prover_growth.proofs.opening.open_stem.Goals as goal

pub push_heads-requires-clause-number : goal.push_heads-requires-clause-number
push_heads-requires-clause-number g c =
    let t = c.args.core.now.tables in
    let x = sketch_of (scope_by t.basis) (sketches_in t) c.args.stem in
    let e = ap length c.in_ok-park.ensures.sketches in
    let n = length-append (sketches_in t) (x ∷ []) in
    let k = stems-length t c.args.core.now.plan c.requires.right 0 in
    omega (arith, e, n, k, c.len-p.ensures)

pub returns-clause-state : goal.returns-clause-state
returns-clause-state g c =
    let t = c.args.core.now.tables in
    let core = c.park.new.core in
    let place : c.len-p.result ≡ length t.stems.items = omega (arith, c.len-p.ensures) in
    c.in_ok-push_heads.ensures.state
    ∙ opened-newest t c.args.core.now.plan c.requires.right c.args.stem c.requires.stem core.tables core.plan c.len-p.result c.in_ok-park.ensures.sketches (ap (λ (u : Tables). u.basis) c.in_ok-park.ensures.tables) c.park.ensures.plan place c.in_ok-park.ensures.state
