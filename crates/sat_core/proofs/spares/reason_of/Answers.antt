use Rattle.sat_core.proofs.ReasonLaws.{reason_clause}
use Rattle.sat_core.proofs.spares.reason_of.Goals as goal

pub returns-clause-some : goal.returns-clause-some
returns-clause-some c =
    let p = c.args.propagator.now in
    reason_clause p.trail p.clauses.items c.args.var c.in_ok-reason.reason c.literals.result.now c.in_ok-reason.ensures.within c.in_ok-reason.ensures.some c.literals.ensures
