use Rattle.std.proofs.Common.{◌≡◌, take}
use Rattle.stt_core.specs.View.{the_type}
use Rattle.tableau_calculus.proofs.ListLaws.{Each}
use Rattle.stt_tableau.proofs.quantifier.witness_of.Given as goal

abbrev pub invariant-loop-k : goal.invariant-loop-k
invariant-loop-k l = Each (λ q. q ≡ record { type = the_type l.quantified.ty.now; predicate = l.quantified.predicate.now } → ⊥) (take l.k l.rows)
