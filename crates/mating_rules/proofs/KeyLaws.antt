-- Heads as keys.
use Rattle.std.specs.Prelude.{◌≡◌, ◌↔◌, Bool, true, false, IsTrue, refl}
use Rattle.std.proofs.Common.{sym, true≢false}
use Rattle.stt_core.specs.Lambda.{Lambda}
use Rattle.stt_core.specs.SameTerm.{same_term}
use Rattle.stt_core.proofs.SameTerms.{same_term-true, same_term-of}

-- an answer that tells whether two terms are the same is the test's
pub told : (r : Bool) (s t : Lambda) → (IsTrue r ↔ (s ≡ t)) → r ≡ same_term s t
told true s t d = sym (same_term-of s t (d.0 refl))
told false s t d = go (same_term s t) refl
  where
    go : (b : Bool) → same_term s t ≡ b → false ≡ b
    go true e = absurd (true≢false (sym (d.1 (same_term-true s t e))))
    go false e = refl
