use Rattle.plain_tableau.proofs.BegunLaws.{begun}
use Rattle.plain_tableau.proofs.walk.Walk.new.Goals as goal

pub returns-clause-writing : goal.returns-clause-writing
returns-clause-writing c = begun c.new-2.result c.new-2.ensures.lines c.new-2.ensures.rows c.new-2.ensures.made
