use Rattle.std.proofs.Common.{◌≡◌, List, ◌∷◌, length, ap, sym, subst, ◌∙◌, arith}
use Rattle.std.proofs.lemmas.Result.{err_from_is_err_and}
use Rattle.std.specs.Vec.Iter.{into_iter_items}
use Rattle.thf_include.specs.declared.gathered.Placed.{Placed}
use Rattle.thf_include.specs.View.{the_placed, the_statements}
use Rattle.type_check.specs.Outcome.{◌>>=◌}
use Rattle.type_check.specs.Checks.{IsIll}
use Rattle.type_check.specs.Internal.ReadingView.{the_reading}
use Rattle.type_check.specs.Statements.{in_file, read_statement, read_statements}
use Rattle.type_check.proofs.StatementLaws.{ill-then}
use Rattle.type_check.proofs.problem.read_all.Goals as goal

pub returns-in_err-read_placed-clause-ill : goal.returns-in_err-read_placed-clause-ill
returns-in_err-read_placed-clause-ill c =
    let rest = the_statements (into_iter_items c.next.new.self) in
    let s = the_placed c.in-Some.placed in
    let p = the_reading c.loop-placed.reading in
    let step = ap (λ (xs : List Placed). read_statements p (the_statements xs)) c.in-Some.ensures.steps.0 in
    let e = c.in_err-read_placed.field-0.0 in
    let came = err_from_is_err_and c.from_residual.result c.from_residual.ensures.1 in
    rw (came.1, came.2) (subst (IsIll e) (sym step ∙ c.loop-placed.invariant.0) (ill-then e (in_file s.file (read_statement p s.statement)) (λ q. read_statements q rest) c.in_err-read_placed.ensures.ill))

pub loop-placed-preserved : goal.loop-placed-preserved
loop-placed-preserved c =
    let at = c.loop-placed in
    let rest = the_statements (into_iter_items c.next.new.self) in
    let p = the_reading at.reading in
    let steps : into_iter_items at.placed-iterator ≡ c.in-Some.placed ∷ into_iter_items c.next.new.self = c.in-Some.ensures.steps.0 in
    let step = ap (λ (xs : List Placed). read_statements p (the_statements xs)) steps in
    let gone = c.in-Some.ensures.steps.1 in
    let was = at.invariant.2 in
    let short = ap length steps in (
      sym (step ∙ ap (λ r. r >>= (λ q. read_statements q rest)) c.in_ok-read_placed.ensures.read) ∙ at.invariant.0,
      omega (arith, c.in_ok-read_placed.ensures.grows, at.invariant.1),
      omega arith,
    )
