use Rattle.tableau_rebuild.proofs.GivenLaws.{given}
use Rattle.tableau_rebuild.proofs.law.tables_are_given.Goals as goal

pub returns : goal.returns
returns c =
    given c.args.bank.now c.args.lits.now c.args.steps.now c.args.log.now c.args.witnesses.now c.requires.rows c.requires.atoms c.clauses_come_from_origins.ensures c.requires.instances
