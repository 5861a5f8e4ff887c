-- The lines of the numbers below one.
use Rattle.std.proofs.Common.{◌≡◌, ℕ, zero, suc, ◌+◌, ◌-◌, ◌<◌, ◌≤◌, Bool, List, [], ◌++◌, length, refl, sym, ap, subst, ◌∙◌, arith, add-one, append_assoc, append-nil, length-append}
use Rattle.problem_gen.specs.Chain.{lines_below}
use Rattle.outside.specs.Writing.{Took, Stopped}
use Rattle.outside.proofs.Writes.{took_both, stopped_first, stopped_later}

pub lines_below-zero : (line : ℕ → List ℕ) → lines_below line 0 ≡ []
unfolding lines_below
lines_below-zero line = refl

pub lines_below-next : (line : ℕ → List ℕ) (k : ℕ) → lines_below line (k + 1) ≡ lines_below line k ++ line k
unfolding lines_below
lines_below-next line k = rw add-one refl

-- what follows the lines below a number
pub record Rest (line : ℕ → List ℕ) (k end : ℕ) : Type 0 where
  pub bytes : List ℕ
  pub whole : lines_below line end ≡ lines_below line k ++ bytes

rest-at : (line : ℕ → List ℕ) (k gap : ℕ) → Rest line k (k + gap)
rest-at line k zero = record { bytes = []; whole = ap (lines_below line) (let e : k + 0 ≡ k = omega arith in e) ∙ sym (append-nil (lines_below line k)) }
rest-at line k (suc gap) =
    let inner = rest-at line k gap in
    record {
      bytes = inner.bytes ++ line (k + gap);
      whole =
          ap (lines_below line) (let e : k + suc gap ≡ (k + gap) + 1 = omega arith in e)
          ∙ lines_below-next line (k + gap)
          ∙ ap (λ (bs : List ℕ). bs ++ line (k + gap)) inner.whole
          ∙ append_assoc (lines_below line k) inner.bytes (line (k + gap));
    }

rest : (line : ℕ → List ℕ) (k end : ℕ) → k ≤ end → Rest line k end
rest line k end h = let e : k + (end - k) ≡ end = omega arith in subst (Rest line k) e (rest-at line k (end - k))

module _ {S : Type 0} {tells : S → Bool} {written : S → List ℕ} {faults : S → ℕ} {s t u : S} (line : ℕ → List ℕ) where
  pub took_next : (k : ℕ) → Took tells written faults s t (lines_below line k) → Took tells written faults t u (line k) → Took tells written faults s u (lines_below line (k + 1))
  took_next k h g = subst (λ (bs : List ℕ). Took tells written faults s u bs) (sym (lines_below-next line k)) (took_both (lines_below line k) (line k) h g)

  pub stopped_at : (k end : ℕ) → k < end → Took tells written faults s t (lines_below line k) → Stopped tells written faults t u (line k) → Stopped tells written faults s u (lines_below line end)
  stopped_at k end less h g =
      let more = rest line (k + 1) end (omega (arith, less)) in
      let whole = more.whole ∙ ap (λ (bs : List ℕ). bs ++ more.bytes) (lines_below-next line k) ∙ append_assoc (lines_below line k) (line k) more.bytes in
      subst (λ (bs : List ℕ). Stopped tells written faults s u bs) (sym whole)
      (stopped_later (lines_below line k) (line k ++ more.bytes) h (stopped_first (line k) more.bytes g))

pub length-next : (line : ℕ → List ℕ) (k : ℕ) → length (lines_below line (k + 1)) ≡ length (lines_below line k) + length (line k)
length-next line k = ap length (lines_below-next line k) ∙ length-append (lines_below line k) (line k)
