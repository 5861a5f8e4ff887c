use Rattle.std.proofs.Common.{◌≡◌, ◌++◌, ◌∷◌, [], None, IfOk, refl, sym, subst}
use Rattle.tableau_calculus.specs.Witnesses.{Row}
use Rattle.tableau_calculus.specs.Internal.Answers.{RowAnswer}
use Rattle.witness_names.specs.Rows.{binder_of}
use Rattle.refute_check.specs.Internal.Shared.{declared_in, the_rows}
use Rattle.refute_check.proofs.shared.Shared.add_row.Goals as goal

pub add_numbered-answer-requires-clause-formed : goal.add_numbered-answer-requires-clause-formed
add_numbered-answer-requires-clause-formed c = subst (λ (r : Row). r.type ≡ binder_of r.predicate) (sym c.in_ok-row.ensures) refl

pub returns-clause-answer : goal.returns-clause-answer
returns-clause-answer c =
    let s = c.args.self.now in
    subst (λ r. IfOk c.add_numbered-answer.result (RowAnswer (declared_in s) (the_rows s) r)) c.in_ok-row.ensures c.add_numbered-answer.ensures.answer

pub returns-clause-rows : goal.returns-clause-rows
returns-clause-rows c =
    let s = c.args.self.now in
    let new = c.add_numbered-answer.new.self in
    subst (λ r. IfOk c.add_numbered-answer.result (λ why. why ≡ None → the_rows new ≡ the_rows s ++ r ∷ [])) c.in_ok-row.ensures c.add_numbered-answer.ensures.rows
