use Rattle.tableau_calculus.specs.Kinds.{formulas}
use Rattle.search_spec.specs.Numbered.{numbers, literal_at, IsNumber}
use Rattle.search_spec.proofs.NamingLaws.{instance_clauses-mapped, with_clauses-mapped}
use Rattle.search_spec.proofs.UnsatLaws.{numbers_stand, unsatisfiable_formulas, unsatisfiable_numbers}
use Rattle.search_spec.proofs.law.numbers_stand_for_formulas.Goals as goal

pub returns-clause-instance : goal.returns-clause-instance
returns-clause-instance c = λ atoms apart ps as' g h. instance_clauses-mapped numbers formulas (IsNumber atoms) (literal_at atoms) (numbers_stand atoms apart) ps as' g h

pub returns-clause-clauses : goal.returns-clause-clauses
returns-clause-clauses c = λ atoms apart cs es g h. with_clauses-mapped numbers formulas (IsNumber atoms) (literal_at atoms) (numbers_stand atoms apart) cs es g h

pub returns-clause-unsatisfiable : goal.returns-clause-unsatisfiable
returns-clause-unsatisfiable c = λ atoms apart cs g. (unsatisfiable_formulas atoms cs g, unsatisfiable_numbers atoms apart cs g)
