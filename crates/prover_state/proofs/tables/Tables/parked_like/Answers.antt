use Rattle.std.proofs.Common.{ap, ◌∙◌, arith}
use Rattle.stt_core.specs.SimpleType.{base}
use Rattle.instantiate.specs.Listing.{ids_of}
use Rattle.prover_state.proofs.HoleLaws.{base-at, holes-length}
use Rattle.prover_state.proofs.tables.Tables.parked_like.Goals as goal

pub base-requires : goal.base-requires
base-requires c = let n = holes-length c.args.self.now c.requires.right.0 c.requires.right.1 in omega (arith, n, c.requires.number)

pub returns : goal.returns
returns c =
    let t = c.args.self.now in
    c.under.ensures ∙ ap (λ n. ids_of (base n) t.holes) (base-at t c.requires.right.0 c.requires.right.1 c.args.p c.requires.number c.base.result c.base.ensures)
