use Rattle.prover_run.proofs.running.refutation_of.Goals as goal

pub returns : goal.returns
returns c = c.in_ok-refutation.ensures.refutes
