use Rattle.term_bank.specs.Terms.{term_at}
use Rattle.tableau_rebuild.proofs.NeededLaws.{rows_some, rows_none}
use Rattle.tableau_rebuild.proofs.needed.rows_for_term.Goals as goal

pub returns-in-Some : goal.returns-in-Some
returns-in-Some c =
    rows_some (term_at c.args.bank.now.terms c.args.id) c.max_witness.result c.max_witness.ensures.greatest c.in-Some.w c.in-Some.is c.in-Some.ensures.occurs

pub returns-in-None : goal.returns-in-None
returns-in-None c = rows_none (term_at c.args.bank.now.terms c.args.id) c.max_witness.result c.max_witness.ensures.greatest c.in-None.is
