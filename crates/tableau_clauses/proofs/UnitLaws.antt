-- The start units of steps one after the other.
use Rattle.std.specs.Prelude.{◌≡◌, List, [], ◌∷◌, ◌++◌, refl}
use Rattle.std.proofs.Common.{sym, ap, ◌∙◌, append_assoc}
use Rattle.tableau_clauses.specs.Table.{Step, units_in, start_units}

pub units-append : (xs ys : List Step) → start_units (xs ++ ys) ≡ start_units xs ++ start_units ys
units-append [] ys = refl
units-append (s ∷ xs) ys = ap (λ ls. units_in s.0 s.1 ++ ls) (units-append xs ys) ∙ sym (append_assoc (units_in s.0 s.1) (start_units xs) (start_units ys))
