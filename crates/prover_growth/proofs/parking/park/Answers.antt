use Rattle.std.proofs.Common.{◌≡◌, length, refl, sym, subst, arith}
use Rattle.std.specs.List.{list_any}
use Rattle.stt_core.specs.SimpleType.{SimpleType, same_type}
use Rattle.prover_state.specs.declared.tables.Tables.{Tables}
use Rattle.prover_state.specs.Internal.Heads.{IsStem}
use Rattle.prover_state.specs.Internal.Standing.{scope_by, sketches_in}
use Rattle.prover_growth.proofs.ParkingLaws.{within-later, sketches-written, state-written, right-written}
use Rattle.prover_growth.proofs.parking.park.Goals as goal

pub push_root-requires-clause-stem : goal.push_root-requires-clause-stem
push_root-requires-clause-stem g c =
    let S : Tables → Type 0 = λ u. IsStem (scope_by u.basis) (sketches_in u) c.args.stem in
    subst S (sym c.push_holes.ensures.tables) c.requires.stem

pub push_root-requires-clause-roots : goal.push_root-requires-clause-roots
push_root-requires-clause-roots g c =
    let R : Tables → Type 0 = λ u. (a : SimpleType) → list_any (λ p. same_type a p.type) (sketches_in u) ≡ list_any (same_type a) u.roots in
    subst R (sym c.push_holes.ensures.tables) c.requires.right.roots

pub list_hole-requires : goal.list_hole-requires
list_hole-requires g c =
    let t = c.args.core.now.tables in
    let q = c.args.core.now.plan in
    let t1 = c.push_holes.new.tables in
    let t2 = c.push_root.new.tables in
    let place : c.len-p.result ≡ length t.stems.items = omega (arith, c.len-p.ensures) in
    let three : Tables = record t2 { holes = t.holes } in
    within-later t q c.requires.right c.args.stem c.requires.stem t1 t2 three c.push_holes.ensures.tables c.push_root.ensures.tables refl c.len-p.result place c.in_ok-push_holes.ensures.holes

pub returns-clause-state : goal.returns-clause-state
returns-clause-state g c =
    let t = c.args.core.now.tables in
    let q = c.args.core.now.plan in
    let t1 = c.push_holes.new.tables in
    let t2 = c.push_root.new.tables in
    let t3 = c.list_hole.new.tables in
    let place : c.len-p.result ≡ length t.stems.items = omega (arith, c.len-p.ensures) in
    state-written t q c.requires.right c.args.stem c.requires.stem t1 t2 t3 c.push_holes.ensures.tables c.push_root.ensures.tables c.list_hole.ensures.tables c.len-p.result place c.in_ok-push_holes.ensures.holes c.push.new.self c.in_ok-push.ensures.items

pub returns-clause-sketches : goal.returns-clause-sketches
returns-clause-sketches g c =
    let t = c.args.core.now.tables in
    let q = c.args.core.now.plan in
    let t1 = c.push_holes.new.tables in
    let t2 = c.push_root.new.tables in
    let t3 = c.list_hole.new.tables in
    let place : c.len-p.result ≡ length t.stems.items = omega (arith, c.len-p.ensures) in
    sketches-written t q c.requires.right c.args.stem c.requires.stem t1 t2 t3 c.push_holes.ensures.tables c.push_root.ensures.tables c.list_hole.ensures.tables c.len-p.result place c.in_ok-push_holes.ensures.holes c.push.new.self c.in_ok-push.ensures.items

pub returns-clause-right : goal.returns-clause-right
returns-clause-right g c =
    let t = c.args.core.now.tables in
    let q = c.args.core.now.plan in
    let t1 = c.push_holes.new.tables in
    let t2 = c.push_root.new.tables in
    let t3 = c.list_hole.new.tables in
    let place : c.len-p.result ≡ length t.stems.items = omega (arith, c.len-p.ensures) in
    right-written t q c.requires.right c.args.stem c.requires.stem t1 t2 t3 c.push_holes.ensures.tables c.push_root.ensures.tables c.list_hole.ensures.tables c.len-p.result place c.in_ok-push_holes.ensures.holes c.push.new.self c.in_ok-push.ensures.items c.in_ok-list_hole.ensures.listed c.in_ok-push_root.ensures.roots
