use Rattle.std.proofs.Common.{◌∙◌}
use Rattle.tableau_clauses.proofs.Choosing.{all_found}
use Rattle.tableau_clauses.proofs.choice.clauses_of.Goals as goal

pub returns : goal.returns
returns c =
    c.in_ok-add_choices.ensures.found
    ∙ all_found c.new-found.result.items c.as_slice.result.now c.args.instance.now.principals c.new-chosen.result.items c.as_slice-2.result.now c.args.instance.now.alternatives
    c.new-found.ensures.items c.as_slice.ensures c.new-chosen.ensures.items c.as_slice-2.ensures
