-- Witness tables, in place of the fresh names of a tableau branch.
use Rattle.std.specs.Prelude.{List, [], ◌∷◌, ◌++◌, map, Contains}
use Rattle.stt_core.specs.SimpleType.{SimpleType, predicate}
use Rattle.stt_core.specs.Lambda.{Constant, name, witness, falsity, negation, implication, all, equality, choice, description, Lambda, bound, constant, lam, app}
use Rattle.stt_core.specs.Typing.{Scope}
use Rattle.stt_core.specs.Canonical.{IsCanonical}
use Rattle.tableau_calculus.specs.Literals.{Literal}

-- A row: a type, and a predicate on it. The witness of the row has the type.
pub record Row : Type 0 where
  pub type : SimpleType
  pub predicate : Lambda

-- what is declared, with the witnesses of these rows
abbrev pub with_rows : Scope → List Row → Scope
with_rows scope rows = record { bases = scope.bases; names = scope.names; witnesses = map (λ r. r.type) rows }

-- the predicate of the row is a closed canonical one on its type, and names only witnesses of the earlier rows
abbrev pub IsTypedRow : Scope → List Row → Row → Type 0
IsTypedRow scope earlier r = IsCanonical (with_rows scope earlier) [] (predicate r.type) r.predicate

-- an earlier row has the predicate
abbrev pub IsTwice : List Row → Row → Type 0
IsTwice earlier r = Contains (map (λ q. q.predicate) earlier) r.predicate

-- the rows, of which these are the first ones, are a witness table
abbrev pub IsTableAfter : Scope → List Row → List Row → Type 0
IsTableAfter scope earlier [] = Unit {0}
IsTableAfter scope earlier (r ∷ rows) = IsTypedRow scope earlier r × (IsTwice earlier r → ⊥) × IsTableAfter scope (earlier ++ r ∷ []) rows

-- the rows are a witness table: each predicate is typed and names only earlier witnesses, and no two rows have the same one
abbrev pub IsTable : Scope → List Row → Type 0
IsTable scope rows = IsTableAfter scope [] rows

abbrev pub IsNoWitness : Constant → Type 0
IsNoWitness (name k) = Unit {0}
IsNoWitness (witness k) = ⊥
IsNoWitness falsity = Unit {0}
IsNoWitness negation = Unit {0}
IsNoWitness implication = Unit {0}
IsNoWitness (all a) = Unit {0}
IsNoWitness (equality a) = Unit {0}
IsNoWitness (choice a) = Unit {0}
IsNoWitness (description a) = Unit {0}

-- no constant of the term is a witness
abbrev pub NamesNoWitness : Lambda → Type 0
NamesNoWitness (bound k) = Unit {0}
NamesNoWitness (constant c) = IsNoWitness c
NamesNoWitness (lam a s) = NamesNoWitness s
NamesNoWitness (app s u) = NamesNoWitness s × NamesNoWitness u

-- no literal of the branch names a witness
abbrev pub NoneNamesWitness : List Literal → Type 0
NoneNamesWitness [] = Unit {0}
NoneNamesWitness (l ∷ branch) = NamesNoWitness l.atom × NoneNamesWitness branch
