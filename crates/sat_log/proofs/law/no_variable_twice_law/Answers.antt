use Rattle.sat_log.proofs.VariableLaws.{clash_from_twice, twice_from_clash, twice_from_false}
use Rattle.sat_log.proofs.law.no_variable_twice_law.Goals as goal

pub returns-clause-kept : goal.returns-clause-kept
returns-clause-kept c = λ v a b once_a once_b. (clash_from_twice v a b, twice_from_clash v a b once_a once_b)

pub returns-clause-falsified : goal.returns-clause-falsified
returns-clause-falsified c = twice_from_false
