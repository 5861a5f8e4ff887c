use Rattle.prover_growth.proofs.stems.+root_of.Given as goal

abbrev pub decreases-root_of : goal.decreases-root_of
decreases-root_of l = l.p
