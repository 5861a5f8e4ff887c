-- The rows of a witness table that the lines of a refutation need.
use Rattle.std.specs.Prelude.{ℕ, suc, max, List, [], ◌∷◌, Option, Some, None, slice_get}
use Rattle.std.specs.List.{position_or_len}
use Rattle.stt_core.specs.Lambda.{Constant, witness, all, Lambda, bound, constant, lam, app}
use Rattle.stt_core.specs.SameTerm.{same_term}
use Rattle.tableau_calculus.specs.Rules.{PlainRule}
use Rattle.tableau_calculus.specs.Literals.{Literal}
use Rattle.tableau_calculus.specs.Witnesses.{Row}
use Rattle.tableau_calculus.specs.declared.rule_use.RuleUse.TheVariants.{AtOne, AllPos, WithPredicate, Cut}
use Rattle.tableau_calculus.specs.declared.rule_use.OnePlace.TheVariants.{AllNeg}
use Rattle.tableau_calculus.specs.declared.refutation.Line.{Line}

-- how many rows of a witness table have to be there for a term
abbrev pub rows_for_constant : Constant → ℕ
rows_for_constant (witness k) = suc k
rows_for_constant c = 0

abbrev pub rows_for : Lambda → ℕ
rows_for (bound k) = 0
rows_for (constant c) = rows_for_constant c
rows_for (lam a s) = rows_for s
rows_for (app s u) = max (rows_for s) (rows_for u)

abbrev pub rows_for_all : List Literal → ℕ
rows_for_all [] = 0
rows_for_all (l ∷ ls) = max (rows_for l.atom) (rows_for_all ls)

-- the row of a quantified formula's predicate, with those before it
abbrev pub rows_up_to : List Row → Lambda → ℕ
rows_up_to rows (app (constant (all a)) f) = suc (position_or_len (λ r. same_term f r.predicate) rows)
rows_up_to rows t = 0

abbrev pub rows_up_to_principal : List Row → Option Literal → ℕ
rows_up_to_principal rows None = 0
rows_up_to_principal rows (Some l) = rows_up_to rows l.atom

abbrev pub rows_for_rule : List Row → List Literal → PlainRule → ℕ
rows_for_rule rows branch (AllPos i u) = rows_for u
rows_for_rule rows branch (AtOne AllNeg i) = rows_up_to_principal rows (slice_get branch i)
rows_for_rule rows branch (WithPredicate kind f) = rows_for f
rows_for_rule rows branch (Cut l) = rows_for l.atom
rows_for_rule rows branch rule = 0

-- The rows up to the greatest witness that a line names or whose predicate is that of a line's principal.
abbrev pub rows_for_lines : List Row → List Line → ℕ
rows_for_lines rows [] = 0
rows_for_lines rows (l ∷ ls) = max (max (rows_for_all l.branch) (rows_for_rule rows l.branch l.rule)) (rows_for_lines rows ls)
