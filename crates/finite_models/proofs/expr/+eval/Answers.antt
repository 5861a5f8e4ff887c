use Rattle.std.proofs.Common.{◌∷◌, sym, ◌∙◌, arith}
use Rattle.finite_models.specs.Internal.Worth.{worth, the_values}
use Rattle.finite_models.proofs.EvalLaws.{one_fails, next_entry}
use Rattle.finite_models.proofs.expr.+eval.Goals as goal

pub eval_all-returns-then-eval-ne1 : goal.eval_all-returns-then-eval-ne1
eval_all-returns-then-eval-ne1 t c =
    sym (one_fails c.args.n c.loop-x.x (λ x. worth c.args.body.now c.args.values.now (x ∷ the_values c.args.env.now)) (omega arith) (λ e. c.if-eval-ne1.true (c.eval.ensures ∙ e)))

pub eval_table-overflow_mul-sum : goal.eval_table-overflow_mul-sum
eval_table-overflow_mul-sum t c =
    let h = next_entry c.args.base c.args.n c.loop-x.x (λ x. worth c.args.body.now c.args.values.now (x ∷ the_values c.args.env.now)) c.eval.result c.loop-x.sum c.loop-x.power c.requires.small (omega arith) (λ y l. (c.requires.body y l).1) c.eval.ensures c.loop-x.invariant.0 c.loop-x.invariant.1 in
    omega (arith, h.product)

pub eval_table-overflow_add-sum : goal.eval_table-overflow_add-sum
eval_table-overflow_add-sum t c =
    let h = next_entry c.args.base c.args.n c.loop-x.x (λ x. worth c.args.body.now c.args.values.now (x ∷ the_values c.args.env.now)) c.eval.result c.loop-x.sum c.loop-x.power c.requires.small (omega arith) (λ y l. (c.requires.body y l).1) c.eval.ensures c.loop-x.invariant.0 c.loop-x.invariant.1 in
    omega (arith, h.whole)

pub eval_table-overflow_mul-power : goal.eval_table-overflow_mul-power
eval_table-overflow_mul-power t c =
    let h = next_entry c.args.base c.args.n c.loop-x.x (λ x. worth c.args.body.now c.args.values.now (x ∷ the_values c.args.env.now)) c.eval.result c.loop-x.sum c.loop-x.power c.requires.small (omega arith) (λ y l. (c.requires.body y l).1) c.eval.ensures c.loop-x.invariant.0 c.loop-x.invariant.1 in
    omega (arith, h.scaled)
