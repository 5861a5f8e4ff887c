use Rattle.tableau_rebuild.proofs.refutation.rebuild.Goals as goal

pub returns-clause-rebuilt : goal.returns-clause-rebuilt
returns-clause-rebuilt c = rw c.in_ok-to_plain.ensures c.in_ok-shared.ensures.rebuilt

pub returns-clause-accepted : goal.returns-clause-accepted
returns-clause-accepted c = rw c.in_ok-to_plain.ensures c.in_ok-shared.ensures.accepted

pub returns-clause-closed : goal.returns-clause-closed
returns-clause-closed c = rw c.in_ok-to_plain.ensures c.in_ok-shared.ensures.closed

pub returns-clause-reached : goal.returns-clause-reached
returns-clause-reached c = rw c.in_ok-to_plain.ensures c.in_ok-shared.ensures.reached

pub returns-clause-from_search : goal.returns-clause-from_search
returns-clause-from_search c = rw c.in_ok-to_plain.ensures c.in_ok-shared.ensures.from_search

pub returns-clause-few : goal.returns-clause-few
returns-clause-few c = rw c.in_ok-to_plain.ensures c.in_ok-shared.ensures.few

pub returns-clause-in_range : goal.returns-clause-in_range
returns-clause-in_range c = rw c.in_ok-to_plain.ensures c.in_ok-shared.ensures.in_range
