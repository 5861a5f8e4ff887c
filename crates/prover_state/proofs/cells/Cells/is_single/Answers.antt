use Rattle.std.proofs.Common.{◌≡◌, length, nat_eq, nat_lt, sym, ap, ◌∙◌, arith}
use Rattle.prover_state.specs.Internal.Chains.{chain}
use Rattle.prover_state.proofs.ChainLaws.{chain-none, chain-single}
use Rattle.prover_state.proofs.cells.Cells.is_single.Goals as goal

pub returns-then-k-gt0 : goal.returns-then-k-gt0
returns-then-k-gt0 c =
    let x = c.first.result.now in
    ap (λ r. nat_eq r 0) c.rest.ensures ∙ chain-single c.args.self.now c.args.k x.1 x.0 c.first.ensures.list c.first.ensures.linked

pub returns-else-k-gt0 : goal.returns-else-k-gt0
returns-else-k-gt0 c =
    let none : c.args.k ≡ 0 = omega (arith, c.if-k-gt0.false) in
    ap (nat_lt 0) none ∙ sym (ap (λ hs. nat_eq (length hs) 1) (ap (chain c.args.self.now) none ∙ chain-none c.args.self.now))
