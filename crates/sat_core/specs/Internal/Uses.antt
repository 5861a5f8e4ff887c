-- In which clauses variables occur. Only proofs and private contracts use it.
use Rattle.std.specs.Prelude.{◌≡◌, ◌≢◌, ◌<◌, ◌≤◌, ℕ, List, Some, length, slice_get, slice_set, slice_index_or}
use Rattle.sat_base.specs.declared.literal.Var.{Var}
use Rattle.sat_core.specs.declared.uses.Use.{Use}
use Rattle.sat_core.specs.declared.uses.Ends.{Ends}

-- the place of no use
abbrev pub no_use : ℕ
no_use = 4294967295

-- the ends of a variable without a use
abbrev pub no_ends : Ends
no_ends = record { first = no_use; last = no_use }

-- uses of variables, and for each variable the places of its first and last use
pub record UseTable : Type 0 where
  pub uses : List Use
  pub ends : List Ends

-- the use at a place has a clause's number, or one of those that follow it has
pub data IsListed (uses : List Use) : ℕ → ℕ → Type 0 where
  here : (place k : ℕ) (entry : Use) → slice_get uses place ≡ Some entry → k ≡ entry.clause → IsListed uses place k
  later : (place k : ℕ) (entry : Use) → slice_get uses place ≡ Some entry → IsListed uses entry.next k → IsListed uses place k

-- the use at a place is that at another one, or one of those that follow it is
pub data Leads (uses : List Use) : ℕ → ℕ → Type 0 where
  stays : (place end : ℕ) → place ≡ end → Leads uses place end
  goes : (place end : ℕ) (entry : Use) → slice_get uses place ≡ Some entry → Leads uses entry.next end → Leads uses place end

-- the place of a variable's first use
abbrev pub first_use : UseTable → Var → ℕ
first_use table v = (slice_index_or table.ends v.0 no_ends).first

-- the table has a clause's number for a variable
abbrev pub IsUse : UseTable → Var → ℕ → Type 0
IsUse table v k = IsListed table.uses (first_use table v) k

-- the uses, where the one at a place is followed by another one
abbrev pub followed : List Use → ℕ → ℕ → List Use
followed uses last next =
    slice_set uses last (record { clause = (slice_index_or uses last (record { clause = 0; next = no_use })).clause; next = next })

-- a variable has no use, or its first use leads to its last one, which none follows
pub record IsChain (uses : List Use) (ends : Ends) : Type 0 where
  pub none : ends.last ≡ no_use → ends.first ≡ no_use
  pub leads : ends.last ≢ no_use → Leads uses ends.first ends.last
  pub last : ends.last ≢ no_use → (entry : Use) × (slice_get uses ends.last ≡ Some entry) × (entry.next ≡ no_use)

-- the uses of each variable are a chain, and go on in the order of their places
pub record AreLinked (uses : List Use) (ends : List Ends) : Type 0 where
  pub few : length uses ≤ no_use
  pub onward : (place : ℕ) (entry : Use) → slice_get uses place ≡ Some entry → place < entry.next
  pub chains : (v : ℕ) (e : Ends) → slice_get ends v ≡ Some e → IsChain uses e
  pub apart : (v w : ℕ) (e f : Ends) → slice_get ends v ≡ Some e → slice_get ends w ≡ Some f → e.last ≡ f.last → e.last ≢ no_use → v ≡ w
