use Rattle.std.proofs.Common.{◌≡◌, ◌+◌, ◌*◌, ◌^◌, ◌∷◌}
use Rattle.stt_core.specs.Digits.{table}
use Rattle.finite_models.specs.Internal.Worth.{worth, all_one, height, the_values}
use Rattle.finite_models.proofs.expr.+eval.Given as goal

abbrev pub decreases-eval : goal.decreases-eval
decreases-eval l = 2 * height l.expr.now

abbrev pub decreases-eval_all : goal.decreases-eval_all
decreases-eval_all l = 2 * height l.body.now + 1

abbrev pub decreases-eval_table : goal.decreases-eval_table
decreases-eval_table l = 2 * height l.body.now + 1

abbrev pub invariant-eval_all-loop-x : goal.invariant-eval_all-loop-x
invariant-eval_all-loop-x l = all_one l.x (λ x. worth l.body l.values (x ∷ the_values l.env)) ≡ 1

abbrev pub invariant-eval_table-loop-x : goal.invariant-eval_table-loop-x
invariant-eval_table-loop-x l = (l.sum ≡ table l.base l.x (λ x. worth l.body l.values (x ∷ the_values l.env))) × (l.power ≡ l.base ^ l.x)
