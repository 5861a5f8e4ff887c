use Rattle.std.proofs.Common.{[]}
use Rattle.stt_core.specs.ScopeView.{the_scope}
use Rattle.tableau_calculus.proofs.AlongLaws.{extended_is_model, extended_along}
use Rattle.tableau_calculus.proofs.law.models_extend.Goals as goal

pub returns : goal.returns
returns c = λ is m good.
    let scope = the_scope c.args.sig.now [] in
    record { model = extended_is_model scope c.args.rows.now m good; along = extended_along scope c.args.rows.now is m }
