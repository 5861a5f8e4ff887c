use Rattle.std.proofs.Common.{◌≡◌, sym, ap, ◌∙◌, arith}
use Rattle.stt_core.specs.View.{the_type}
use Rattle.prover_state.specs.Internal.Holes.{after_head}
use Rattle.prover_state.specs.Internal.Chains.{chain}
use Rattle.prover_state.proofs.ChainLaws.{chain-none}
use Rattle.prover_state.proofs.cells.Cells.add_grown.Goals as goal

pub returns-then-k-eq0-clause-list : goal.returns-then-k-eq0-clause-list
returns-then-k-eq0-clause-list c =
    let cells = c.args.self.now in
    let none : c.args.k ≡ 0 = omega (arith, c.if-k-eq0.true) in
    chain-none cells ∙ sym (ap (after_head (the_type c.args.ty.now)) (ap (chain cells) none ∙ chain-none cells))
