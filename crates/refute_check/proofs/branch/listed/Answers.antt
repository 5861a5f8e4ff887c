use Rattle.std.proofs.lemmas.Result.{IfOk-from_err}
use Rattle.refute_check.proofs.branch.listed.Goals as goal

pub returns-in_err-numbers : goal.returns-in_err-numbers
returns-in_err-numbers c = IfOk-from_err _ _ c.from_residual.ensures.0

pub returns-in-Err : goal.returns-in-Err
returns-in-Err c = tt

pub returns-in_err-push-in-Ok : goal.returns-in_err-push-in-Ok
returns-in_err-push-in-Ok c = IfOk-from_err _ _ c.from_residual-in_err-push-in-Ok.ensures.0
