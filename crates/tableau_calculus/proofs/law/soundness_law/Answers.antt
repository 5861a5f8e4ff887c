use Rattle.std.proofs.Common.{[]}
use Rattle.stt_core.specs.ScopeView.{the_scope}
use Rattle.tableau_calculus.proofs.Soundness.{accepted_refutes, accepted_closes_start}
use Rattle.tableau_calculus.proofs.law.soundness_law.Goals as goal

pub returns-clause-no_model : goal.returns-clause-no_model
returns-clause-no_model c = λ accepted m good met.
    accepted_refutes (the_scope c.args.sig.now []) c.args.start.now c.args.refutation.now accepted c.requires m good met

pub returns-clause-closed : goal.returns-clause-closed
returns-clause-closed c = λ accepted.
    accepted_closes_start (the_scope c.args.sig.now []) c.args.start.now c.args.refutation.now accepted
