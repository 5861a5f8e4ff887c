use Rattle.std.proofs.Common.{true, false, nat_eq, sym, ap₂, ◌∙◌, arith, eq-eqb}
use Rattle.std.proofs.lemmas.Bool.{ne_eqb}
use Rattle.prover_state.proofs.FittingLaws.{count-step}
use Rattle.prover_state.proofs.cells.Cell.count_variables.Goals.{then-target_at-base, else-target_at-base}
use Rattle.prover_state.proofs.cells.Cell.count_variables.Goals as goal

pub loop-i-preserved : goal.loop-i-preserved
loop-i-preserved c =
    let h = c.args.self.now.0 in
    let found = c.target_at.ensures in
    let e = ap₂ nat_eq found.1.1 c.base-base.ensures in
    let before = c.loop-i.invariant in
    let n = c.target_at.result in
    let m = c.base-base.result in
    elim c.if-target_at-base.branch [
      | then-target_at-base w ↦
          record {
            few = omega (arith, w.count-is, before.few);
            all = count-step h.base c.loop-i.i h.context found.0 c.loop-i.count c.if-target_at-base.count true found.1.0 (sym (eq-eqb n m w.if-target_at-base.true) ∙ e) w.count-is ∙ before.all;
          }
      | else-target_at-base w ↦
          record {
            few = omega (arith, w.count-is, before.few);
            all = count-step h.base c.loop-i.i h.context found.0 c.loop-i.count c.if-target_at-base.count false found.1.0 (sym (ne_eqb n m w.if-target_at-base.false) ∙ e) w.count-is ∙ before.all;
          }
    ]
