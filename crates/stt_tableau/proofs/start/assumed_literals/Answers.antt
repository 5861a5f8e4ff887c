use Rattle.std.proofs.Common.{ap, ◌∙◌, [], ◌∷◌}
use Rattle.stt_core.specs.View.{the_term}
use Rattle.stt_core.specs.ScopeView.{the_scope}
use Rattle.tableau_calculus.specs.Start.{normal_literal}
use Rattle.tableau_calculus.specs.Kinds.{added, formulas}
use Rattle.tableau_calculus.proofs.StartLaws.{formula_at, added-more}
use Rattle.stt_tableau.proofs.start.assumed_literals.Goals as goal

pub formula_literal-requires : goal.formula_literal-requires
formula_literal-requires c = record {
  scope = c.requires.scope;
  formula = formula_at (the_scope c.args.sig.now []) c.args.assumed.now c.loop-i.i (the_term c.at.result.now) c.at.ensures c.requires.assumed;
}

pub loop-i-preserved : goal.loop-i-preserved
loop-i-preserved c =
    added-more (normal_literal (the_scope c.args.sig.now [])) c.args.assumed.now c.loop-i.i (the_term c.at.result.now) c.loop-i.lits c.add.new.lits c.at.ensures c.loop-i.invariant
    (c.in_ok-add.ensures ∙ ap (λ l. added formulas c.loop-i.lits (l ∷ [])) c.in_ok-lit.ensures)
