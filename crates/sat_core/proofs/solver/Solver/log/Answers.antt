use Rattle.std.proofs.Common.{subst}
use Rattle.std.specs.List.{All}
use Rattle.sat_base.specs.Truth.{Implies}
use Rattle.sat_log.specs.Chains.{results}
use Rattle.sat_core.specs.Solver.{SolverState, IsSound}
use Rattle.sat_core.proofs.SolverLaws.{sound_of, implied_of}
use Rattle.sat_core.proofs.solver.Solver.log.Goals as goal

pub returns-clause-sound : goal.returns-clause-sound
returns-clause-sound c = subst (λ (s : SolverState). IsSound s) c.self.view_is (sound_of c.self.inside.keeper.values.items c.self.inside.learner c.self.invariant.learns)

pub returns-clause-implied : goal.returns-clause-implied
returns-clause-implied c = subst (λ (s : SolverState). All (Implies s.clauses) (results s.log)) c.self.view_is (implied_of c.self.inside.learner c.self.invariant.learns)
