-- Terms with their types.
use Rattle.std.specs.Prelude.{ℕ, Option, Some, None, Result, Ok, if◌then◌else◌}
use Rattle.stt_core.specs.SimpleType.{SimpleType, base, arrow, formula, same_type}
use Rattle.stt_core.specs.Lambda.{Lambda}
use Rattle.type_check.specs.Outcome.{IllPlace, ill}
use Rattle.type_check.specs.declared.refusal.IllWhy.TheVariants.{Mismatch}

pub record TypedTerm : Type 0 where
  pub term : Lambda
  pub type : SimpleType

abbrev pub typed : Lambda → SimpleType → TypedTerm
typed t a = record { term = t; type = a }

-- the term at a node that wants this type of it
abbrev pub of_type : ℕ → SimpleType → TypedTerm → Result Lambda IllPlace
of_type at a x = if same_type x.type a then Ok x.term else ill at Mismatch

-- the term, where it has a type at the node
abbrev pub where_typed : ℕ → Lambda → Option SimpleType → Result TypedTerm IllPlace
where_typed at t (Some a) = Ok (typed t a)
where_typed at t None = ill at Mismatch

-- the type whose predicates have this type, where there is one
abbrev pub domain : SimpleType → Option SimpleType
domain (base n) = None
domain (arrow a b) = if same_type b formula then Some a else None
