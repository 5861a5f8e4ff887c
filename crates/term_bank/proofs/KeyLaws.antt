-- Whether two heads with their arguments are the same node.
use Rattle.std.proofs.Common.{◌≡◌, ℕ, Bool, true, false, List, refl, sym, ap, ◌∙◌, true≢false, ◌&&◌, nat_eq, ◌↔◌, IsTrue}
use Rattle.std.specs.Cmp.Lexicographic.{pointwise}
use Rattle.stt_core.specs.Lambda.{Lambda}
use Rattle.stt_core.specs.SameTerm.{same_term}
use Rattle.stt_core.proofs.SameTerms.{same_term-true, same_term-of}
use Rattle.term_bank.specs.Shape.{spine, same_shape}

-- where the heads are the same, the arguments decide
pub heads_same : (h k : Lambda) (us vs : List ℕ) (r e : Bool) → (IsTrue r ↔ (h ≡ k)) → r ≡ true → e ≡ pointwise nat_eq us vs → e ≡ same_shape (spine h us) (spine k vs)
heads_same h k us vs r e d t p = p ∙ ap (λ b. b && pointwise nat_eq us vs) (sym (same_term-of h k (d.0 t)))

-- and where they differ, the nodes do
pub heads_differ : (h k : Lambda) (us vs : List ℕ) (r : Bool) → (IsTrue r ↔ (h ≡ k)) → r ≡ false → false ≡ same_shape (spine h us) (spine k vs)
heads_differ h k us vs r d f = go (same_term h k) refl
  where
    go : (b : Bool) → same_term h k ≡ b → false ≡ same_shape (spine h us) (spine k vs)
    go true e = absurd (true≢false (sym (d.1 (same_term-true h k e)) ∙ f))
    go false e = ap (λ b. b && pointwise nat_eq us vs) (sym e)
