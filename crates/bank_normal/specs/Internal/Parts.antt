-- Parts of terms, and lists of terms that are to be worked on.
use Rattle.std.specs.Prelude.{◌≡◌, ℕ, ◌+◌, ◌<◌, List, [], ◌∷◌, ◌++◌, length, slice_get, Some, All, ◌⊎◌}
use Rattle.stt_core.specs.SimpleType.{SimpleType}
use Rattle.stt_core.specs.Lambda.{Lambda, lam, applied}
use Rattle.stt_core.proofs.SpineLaws.{IsAtom}
use Rattle.term_bank.specs.Content.{Content, content_scope}
use Rattle.term_bank.specs.Terms.{term_at}
use Rattle.bank_normal.specs.Internal.Replacing.{ReplacesIn}
use Rattle.bank_normal.specs.declared.deep.Task.{Task}

-- the part is the body of a function
pub record IsBodyOf (terms : List Lambda) (whole part : Task) : Type 0 where
  pub type : SimpleType
  pub is : term_at terms whole.id ≡ lam type (term_at terms part.id)
  pub below : part.depth ≡ whole.depth + 1

-- the part is an argument of a head
pub record IsArgumentOf (terms : List Lambda) (whole part : Task) : Type 0 where
  pub head : Lambda
  pub leaf : IsAtom head
  pub arguments : List Lambda
  pub place : ℕ
  pub is : term_at terms whole.id ≡ applied head arguments
  pub at : slice_get arguments place ≡ Some (term_at terms part.id)
  pub beside : part.depth ≡ whole.depth

pub record IsPart (terms : List Lambda) (whole part : Task) : Type 0 where
  pub within : part.id < length terms
  pub stands : IsBodyOf terms whole part ⊎ IsArgumentOf terms whole part

-- the list has at most this one more
abbrev pub AddsAtMost : Task → List Task → List Task → Type 0
AddsAtMost part old new = (new ≡ old) ⊎ (new ≡ old ++ part ∷ [])

-- behind the list stand parts of a term
pub record AddsParts (terms : List Lambda) (whole : Task) (old new : List Task) : Type 0 where
  pub further : List Task
  pub tasks : new ≡ old ++ further
  pub parts : All (IsPart terms whole) further

-- the list is as before, or the term stands behind it, and behind the term parts of it
abbrev pub LeavesWaiting : List Lambda → Task → List Task → List Task → Type 0
LeavesWaiting terms task old new = (new ≡ old) ⊎ AddsParts terms task (old ++ task ∷ []) new

-- a term of the bank can be put for the variable of the task
abbrev pub ReplacesTask : Content → ℕ → Task → Type 0
ReplacesTask b arg task =
    (task.id < length b.terms) × ReplacesIn (content_scope b) task.depth (term_at b.terms arg) (term_at b.terms task.id)
