-- How deep the literals and the terms are that the search takes.
use Rattle.std.specs.Prelude.{nat_le, Bool}
use Rattle.stt_core.specs.Lambda.{Lambda}
use Rattle.stt_core.specs.Depth.{depth}
use Rattle.tableau_calculus.specs.Literals.{Literal}

-- whether the term is shallow enough
abbrev pub is_shallow : Lambda → Bool
is_shallow t = nat_le (depth t) 4096

-- whether the literal may enter the clauses
abbrev pub is_shallow_literal : Literal → Bool
is_shallow_literal l = is_shallow l.atom
