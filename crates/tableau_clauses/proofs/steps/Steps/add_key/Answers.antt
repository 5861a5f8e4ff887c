use Rattle.std.proofs.Common.{not, sym, ap, ◌∙◌}
use Rattle.search_spec.specs.Clauses.{same_clause}
use Rattle.search_spec.specs.Numbered.{numbers}
use Rattle.tableau_clauses.proofs.StepLaws.{found-any, old_step, new_step}
use Rattle.tableau_clauses.proofs.steps.Steps.add_key.Goals as goal

pub returns-in-Some-clause-ok : goal.returns-in-Some-clause-ok
returns-in-Some-clause-ok c =
    old_step c.args.self.now c.args.key c.args.origin
    (sym (found-any (same_clause numbers c.args.key) c.self.inside.table c.args.self.now c.self.view_is) ∙ sym c.in-Some.ensures.found)

pub returns-in-Some-clause-fresh : goal.returns-in-Some-clause-fresh
returns-in-Some-clause-fresh c = ap not (c.in-Some.ensures.found ∙ found-any (same_clause numbers c.args.key) c.self.inside.table c.args.self.now c.self.view_is)

pub returns-in_ok-insert-in-None-clause-ok : goal.returns-in_ok-insert-in-None-clause-ok
returns-in_ok-insert-in-None-clause-ok c =
    new_step c.args.self.now c.self.inside.table.entries c.insert.new.self.entries c.args.key c.args.origin c.self.view_is
    (sym (found-any (same_clause numbers c.args.key) c.self.inside.table c.args.self.now c.self.view_is) ∙ sym c.in-None.ensures.found)
    c.in_ok-insert-in-None.ensures.entries

pub returns-in_ok-insert-in-None-clause-fresh : goal.returns-in_ok-insert-in-None-clause-fresh
returns-in_ok-insert-in-None-clause-fresh c = ap not (c.in-None.ensures.found ∙ found-any (same_clause numbers c.args.key) c.self.inside.table c.args.self.now c.self.view_is)
