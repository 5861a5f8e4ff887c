use Rattle.std.proofs.Common.{◌≡◌, ◌≤◌, length, take}
use Rattle.sat_core.specs.Solver.{learned}
use Rattle.tableau_clauses.specs.Table.{the_clauses}
use Rattle.prover_state.proofs.clauses.add_clauses.Given as goal

-- the solver has the first clauses
abbrev pub invariant-loop-n : goal.invariant-loop-n
invariant-loop-n l = record { made : l.atoms ≤ length l.solver.values; same : l.solver.clauses ≡ take l.n (the_clauses l.steps); learned : learned l.solver ≡ learned l.fn.solver; log : l.solver.log ≡ l.fn.solver.log }
