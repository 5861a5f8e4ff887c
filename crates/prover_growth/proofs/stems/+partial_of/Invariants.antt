use Rattle.prover_growth.proofs.stems.+partial_of.Given as goal

abbrev pub decreases-partial_of : goal.decreases-partial_of
decreases-partial_of l = l.p
