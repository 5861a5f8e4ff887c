-- Terms that were made of their numbers.
use Rattle.std.specs.Prelude.{◌≡◌, ℕ, List, Option, Some, slice_get}
use Rattle.stt_core.specs.Lambda.{Lambda}
use Rattle.term_bank.specs.Terms.{term_at}

-- a term that is there is that of its number
abbrev pub KnowsTerms : List Lambda → List (Option Lambda) → Type 0
KnowsTerms terms known = (i : ℕ) (t : Lambda) → slice_get known i ≡ Some (Some t) → t ≡ term_at terms i
