use Rattle.std.proofs.Common.{◌≤◌, ◌-◌, length, arith}
use Rattle.std.proofs.lemmas.Option.{slice_get-get_or}
use Rattle.prover_state.proofs.FittingLaws.{equality-at, quantifier-at, quantifier-within}
use Rattle.prover_state.proofs.fitting.offered_head.Goals as goal

pub returns-then-i-bases : goal.returns-then-i-bases
returns-then-i-bases c =
    let bs = c.args.bases.now in
    equality-at bs c.args.i _ (slice_get-get_or bs c.args.i 0 (omega (arith, c.if-i-bases.true)))

pub returns : goal.returns
returns c =
    let bs = c.args.bases.now in
    let i = c.args.i in
    let behind : length bs ≤ i = omega (arith, c.if-i-bases.false) in
    quantifier-at bs i _ behind (slice_get-get_or bs (i - length bs) 0 (quantifier-within bs i c.requires behind))
