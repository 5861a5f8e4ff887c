use Rattle.std.proofs.Common.{◌≡◌, ◌-◌, length}
use Rattle.sat_core.specs.Solver.{learned}
use Rattle.prover_state.proofs.clauses.make_variables.Given as goal

abbrev pub invariant-loop-solver : goal.invariant-loop-solver
invariant-loop-solver l = record { clauses : l.solver.clauses ≡ l.fn.solver.clauses; learned : learned l.solver ≡ learned l.fn.solver; log : l.solver.log ≡ l.fn.solver.log }

abbrev pub decreases-loop-solver : goal.decreases-loop-solver
decreases-loop-solver l = l.atoms - length l.solver.values
