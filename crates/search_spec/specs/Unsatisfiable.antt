-- When no assignment satisfies the clauses of the search.
use Rattle.std.specs.Prelude.{◌≡◌, Bool, true, not, List, if◌then◌else◌}
use Rattle.std.specs.List.{list_any}
use Rattle.stt_core.specs.Lambda.{Lambda}
use Rattle.stt_core.specs.SameTerm.{same_term}
use Rattle.tableau_calculus.specs.Literals.{Literal}

-- A clause is a list of literals, of which one has to be true.
abbrev pub Clause : Type 0
Clause = List Literal

-- whether the literal is true where these atoms are the true ones
abbrev pub is_true_where : List Lambda → Literal → Bool
is_true_where atoms l = if list_any (same_term l.atom) atoms then l.positive else not l.positive

-- whether no literal of the clause is true
abbrev pub is_false : List Lambda → Clause → Bool
is_false atoms clause = not (list_any (is_true_where atoms) clause)

-- whatever list of atoms is taken as the true ones, one of the clauses has no true literal
abbrev pub Unsatisfiable : List Clause → Type 0
Unsatisfiable clauses = (atoms : List Lambda) → list_any (is_false atoms) clauses ≡ true
