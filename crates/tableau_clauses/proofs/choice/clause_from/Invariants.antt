use Rattle.std.proofs.Common.{◌≡◌, ◌++◌, map, drop}
use Rattle.sat_base.specs.Literal.{negated}
use Rattle.search_spec.specs.Clauses.{clause_of}
use Rattle.tableau_calculus.specs.Kinds.{added}
use Rattle.search_spec.specs.Numbered.{numbers}
use Rattle.tableau_clauses.proofs.choice.clause_from.Given as goal

-- what is left to add brings the clause to what it is to be
abbrev pub invariant-loop-i : goal.invariant-loop-i
invariant-loop-i l = added numbers l.clause (map negated (drop l.i l.principals) ++ l.chosen) ≡ clause_of numbers l.principals l.chosen

abbrev pub invariant-loop-i-2 : goal.invariant-loop-i-2
invariant-loop-i-2 l = added numbers l.clause (drop l.i l.chosen) ≡ clause_of numbers l.principals l.chosen
