-- What holds of every bank.
use Rattle.std.specs.Prelude.{◌≡◌, ℕ, ◌<◌, length, ◌↔◌}
use Rattle.stt_core.specs.Lambda.{Lambda}
use Rattle.term_bank.specs.Content.{Content, HasTerm, Grows}
use Rattle.term_bank.specs.Terms.{term_at}

-- numbers of terms are equal exactly where the terms are
abbrev pub EqualIdsForEqualTerms : Content → Type 0
EqualIdsForEqualTerms b =
    (i j : ℕ) → i < length b.terms → j < length b.terms → (i ≡ j) ↔ (term_at b.terms i ≡ term_at b.terms j)

-- where a bank grows, each number keeps its term
abbrev pub IdsKeepTheirTerms : Type 0
IdsKeepTheirTerms = (old new : Content) → Grows old new → (id : ℕ) (t : Lambda) → HasTerm old id t → HasTerm new id t
