use Rattle.std.proofs.Common.{◌≡◌, max, sym, ap, ap₂, subst, ◌∙◌}
use Rattle.witness_names.specs.Rows.{rows_of}
use Rattle.rebuild_spec.specs.NeededRows.{rows_for_all, rows_for_rule, rows_for_lines}
use Rattle.tableau_rebuild.specs.Pools.{IsMadePool}
use Rattle.tableau_rebuild.proofs.NeededLaws.{lines_more}
use Rattle.plain_tableau.proofs.writing.Writing.write.Goals as goal

pub returns-clause-writing : goal.returns-clause-writing
returns-clause-writing c =
    let rows = rows_of c.args.bank.now.terms c.args.witnesses.now in
    let line = c.in_ok-line.line in
    let is = c.in_ok-line.ensures.line in
    let needs : c.max.result ≡ max (rows_for_all line.branch) (rows_for_rule rows line.branch line.rule) =
    c.max.ensures ∙ ap₂ max (c.rows_for_branch-by_branch.ensures ∙ ap (λ l. rows_for_all l.branch) (sym is)) (c.rows_for_instance-by_rule.ensures ∙ ap (λ l. rows_for_rule rows l.branch l.rule) (sym is)) in
    record {
      made = subst (IsMadePool c.args.bank.now.terms c.args.atoms.now) (sym c.in_ok-push.ensures.pool) c.in_ok-line.ensures.made;
      in_range = c.in_ok-push.ensures.in_range;
      count = lines_more rows c.args.self.now.lines c.push.new.self.lines line c.args.self.now.rows c.max.result c.push.new.self.rows c.in_ok-push.ensures.lines c.requires.writing.count needs c.in_ok-push.ensures.rows;
    }
