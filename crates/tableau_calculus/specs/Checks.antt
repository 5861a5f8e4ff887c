-- What the parts of the check of a refutation answer.
use Rattle.std.specs.Prelude.{◌≡◌, ℕ, Bool, List, map, Option, Some, None, slice_get}
use Rattle.stt_core.specs.Lambda.{Lambda}
use Rattle.stt_core.specs.Typing.{Scope}
use Rattle.tableau_calculus.specs.Literals.{Literal, IsBranch}
use Rattle.tableau_calculus.specs.Witnesses.{Row}
use Rattle.tableau_calculus.specs.Rules.{PlainRule, IsInstance}

-- the literal of this sign and atom stands at the place
abbrev pub StandsAt : List Literal → ℕ → Bool → Lambda → Type 0
StandsAt branch i sign t = slice_get branch i ≡ Some (record { positive = sign; atom = t })

-- the literals are literals over something with the witnesses of the rows
pub record IsTypedWith (rows : List Row) (branch : List Literal) : Type 0 where
  pub scope : Scope
  pub types : scope.witnesses ≡ map (λ r. r.type) rows
  pub branch_in : IsBranch scope branch

-- the alternatives of the rule's instance in the branch, or that it has none
abbrev pub FindsInstance : Scope → List Row → List Literal → PlainRule → Option (List (List Literal)) → Type 0
FindsInstance scope rows branch rule (Some alternatives) = IsInstance scope rows branch rule alternatives
FindsInstance scope rows branch rule None = (alternatives : List (List Literal)) → IsInstance scope rows branch rule alternatives → ⊥
