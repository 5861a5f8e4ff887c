use Rattle.std.proofs.Common.{◌≡◌, List, [], Some, take, sym, subst, ◌∙◌}
use Rattle.stt_core.specs.ScopeView.{the_scope}
use Rattle.tableau_calculus.specs.Literals.{Literal}
use Rattle.tableau_calculus.specs.Witnesses.{with_rows}
use Rattle.tableau_calculus.specs.Rules.{IsInstance}
use Rattle.tableau_calculus.specs.Accepted.{IsTypedLine, LineFails}
use Rattle.tableau_calculus.specs.Checks.{FindsInstance}
use Rattle.tableau_calculus.specs.declared.refutation.Line.{Line}
use Rattle.tableau_calculus.specs.declared.refutation.Why.TheVariants.{Principal}
use Rattle.tableau_calculus.proofs.FailureLaws.{over_rows}
use Rattle.stt_tableau.proofs.accepts.line_failure.Goals as goal

pub returns-in-None : goal.returns-in-None
returns-in-None c = λ line at.
    let sig = c.args.sig.now in
    let rows = c.args.refutation.now.witnesses in
    let l : Line = c.at-line.result.now in
    let e : Some l ≡ Some line = sym c.at-line.ensures ∙ at in
    let same : l ≡ line = cc in
    subst (λ k. LineFails (with_rows (the_scope sig []) rows) rows (take c.args.i c.args.refutation.now.lines) k Principal) same
    (over_rows (λ s. IsTypedLine s l × ((alternatives : List (List Literal)) → IsInstance s rows l.branch l.rule alternatives → ⊥)) sig c.args.types.now rows c.requires.types
    (c.in_ok-is_typed_line.ensures.0 c.if-not-branch.false, subst (FindsInstance (the_scope sig c.args.types.now) rows l.branch l.rule) c.in-None.is c.in_ok-find_instance.ensures))
