use Rattle.std.proofs.Common.{◌≡◌, List, Ok, length, ap, sym, subst, ◌∙◌}
use Rattle.stt_core.specs.PlainProblem.{PlainProblem}
use Rattle.stt_core.specs.TypedProblem.{IsTyped, NamesDiffer}
use Rattle.thf_include.specs.declared.gathered.Placed.{Placed}
use Rattle.thf_include.specs.View.{the_statements}
use Rattle.type_check.specs.Internal.ReadingView.{the_reading}
use Rattle.type_check.specs.Statements.{read_statements, empty_problem, problem_of}
use Rattle.type_check.proofs.TypedProblems.{problem_of-typed, problem_of-marked}
use Rattle.type_check.proofs.DeclaredNames.{problem_of-names_differ}
use Rattle.type_check.proofs.problem.check.Goals as goal

-- what holds of the problem that all the statements state holds of what was read
ended : (P : PlainProblem → Type 0) (gathered : List Placed) (start p q : PlainProblem) → ((r : PlainProblem) → problem_of (the_statements gathered) ≡ Ok r → P r) → start ≡ empty_problem
    → read_statements start (the_statements gathered) ≡ Ok p → q ≡ p → P q
ended P gathered start p q holds none read is = subst P (sym is) (holds p (ap (λ b. read_statements b (the_statements gathered)) (sym none) ∙ read))

pub returns-in-Ok-clause-typed : goal.returns-in-Ok-clause-typed
returns-in-Ok-clause-typed c =
    ended IsTyped c.args.gathered (the_reading c.new-reading.result) (the_reading c.read_all.new.reading) _ (problem_of-typed (the_statements c.args.gathered)) c.new-reading.ensures c.in-Ok.ensures.read c.into_problem.ensures

pub returns-in-Ok-clause-names : goal.returns-in-Ok-clause-names
returns-in-Ok-clause-names c =
    ended (λ q. NamesDiffer q.declared) c.args.gathered (the_reading c.new-reading.result) (the_reading c.read_all.new.reading) _ (problem_of-names_differ (the_statements c.args.gathered)) c.new-reading.ensures c.in-Ok.ensures.read c.into_problem.ensures

pub returns-in-Ok-clause-marked : goal.returns-in-Ok-clause-marked
returns-in-Ok-clause-marked c =
    ended (λ q. length q.marked ≡ length q.assumed) c.args.gathered (the_reading c.new-reading.result) (the_reading c.read_all.new.reading) _ (problem_of-marked (the_statements c.args.gathered)) c.new-reading.ensures c.in-Ok.ensures.read c.into_problem.ensures
