use Rattle.std.proofs.Common.{List, sym, subst}
use Rattle.sat_base.specs.declared.literal.SatLit.{SatLit}
use Rattle.sat_core.specs.Internal.Learner.{IsLearnerOf}
use Rattle.sat_core.proofs.LearnerSteps.{learner_added}
use Rattle.sat_core.proofs.learner.Learner.add.Goals as goal

pub returns-clause-learner : goal.returns-clause-learner
returns-clause-learner c =
    let s = c.args.self.now in
    subst (λ (clauses : List (List SatLit)). IsLearnerOf clauses s.log s.is_refuted s.propagator s.names.items s.marks.marked s.inserted_clauses s.inserted_results) (sym c.in_ok-push.ensures.ok)
    (learner_added s.clauses c.in_ok-clause.clause s.log s.is_refuted s.propagator s.names.items s.marks.marked s.inserted_clauses s.inserted_results c.requires.learner)
