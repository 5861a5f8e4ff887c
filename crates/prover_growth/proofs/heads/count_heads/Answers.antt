use Rattle.std.proofs.Common.{[], Some, None, ◌∙◌, arith}
use Rattle.search_spec.specs.Partial.{first_hole}
use Rattle.head_offers.specs.Offering.{the_offers}
use Rattle.prover_state.specs.Internal.Names.{sketch_at}
use Rattle.prover_state.specs.Internal.Standing.{scope_by, sketches_in}
use Rattle.prover_state.proofs.HoleLaws.{holes-length}
use Rattle.prover_growth.proofs.HeadCounts.{count-heads, count-none, first-base-at, count-at}
use Rattle.prover_growth.proofs.heads.count_heads.Goals as goal

pub first_base-requires : goal.first_base-requires
first_base-requires c = let n = holes-length c.args.tables.now c.requires.right.0 c.requires.right.1 in omega (arith, n, c.requires.number)

pub count_variables-variables-requires : goal.count_variables-variables-requires
count_variables-variables-requires c = let n = holes-length c.args.tables.now c.requires.right.0 c.requires.right.1 in omega (arith, n, c.requires.number)

pub returns-in_ok-plus-in-Some : goal.returns-in_ok-plus-in-Some
returns-in_ok-plus-in-Some c =
    let t = c.args.tables.now in
    let q = c.requires.right.0 in
    let r = c.requires.right.1 in
    let o = first_hole [] (sketch_at (sketches_in t) c.args.p).partial in
    let found = first-base-at t q r c.args.p c.requires.number (Some c.in-Some.base) (λ holes at. c.in-Some.ensures holes at) in
    let many = count-at t q r c.args.p c.requires.number c.count_variables-variables.result c.count_variables-variables.ensures in
    c.in_ok-plus-in-Some.ensures
    ∙ count-heads (the_offers t.offers) (scope_by t.basis) o c.in-Some.base c.count_variables-variables.result c.in_ok-constants-in-Some.constants c.in_ok-given-in-Some.given c.in_ok-logical-in-Some.logical found many
    c.in_ok-constants-in-Some.ensures c.in_ok-given-in-Some.ensures c.in_ok-logical-in-Some.ensures

pub returns-in-None : goal.returns-in-None
returns-in-None c =
    let t = c.args.tables.now in
    let o = first_hole [] (sketch_at (sketches_in t) c.args.p).partial in
    count-none (the_offers t.offers) (scope_by t.basis) o (first-base-at t c.requires.right.0 c.requires.right.1 c.args.p c.requires.number None c.in-None.ensures)
