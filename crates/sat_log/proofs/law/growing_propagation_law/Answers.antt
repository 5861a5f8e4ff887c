use Rattle.std.proofs.lemmas.List.Elements.{Contains-append_left}
use Rattle.sat_log.proofs.PropagationLaws.{IsPropagation-included, Reaches-included, ReachesFalse-included}
use Rattle.sat_log.proofs.law.growing_propagation_law.Goals as goal

pub returns-clause-lists : goal.returns-clause-lists
returns-clause-lists c = IsPropagation-included

pub returns-clause-literals : goal.returns-clause-literals
returns-clause-literals c = Reaches-included

pub returns-clause-false_clauses : goal.returns-clause-false_clauses
returns-clause-false_clauses c = ReachesFalse-included

pub returns-clause-appended : goal.returns-clause-appended
returns-clause-appended c = Contains-append_left
