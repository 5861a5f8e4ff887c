-- Runs of bytes at the front of others.
use Rattle.std.proofs.Common.{◌≡◌, ℕ, zero, suc, ◌<◌, ◌≤◌, Bool, true, false, ◌⊎◌, inl, inr, List, [], ◌∷◌, length, get_or, take, refl, sym, ap, ◌∙◌, subst, arith}
use Rattle.std.specs.List.{prefix_len}
use Rattle.std.proofs.lemmas.List.{length-take, get_or-take, get_or_default}
use Rattle.std.proofs.lemmas.List.Sums.{prefix_len-le-length, prefix_len_passes, prefix_len_stops}
use Rattle.std.proofs.lemmas.Bool.{false≢true, cases_order}
use Rattle.thf_grammar.specs.Texts.{IsRun}

-- a run at the front, byte by byte
pub record RunsTo (first others : ℕ → Bool) (bytes : List ℕ) (n : ℕ) : Type 0 where
  pub some : 0 < n
  pub within : n ≤ length bytes
  pub begins : first (get_or bytes 0 0) ≡ true
  pub goes_on : (k : ℕ) → 0 < k → k < n → others (get_or bytes k 0) ≡ true

pub run_at : (first others : ℕ → Bool) (bytes : List ℕ) (n : ℕ) → RunsTo first others bytes n → IsRun first others (take n bytes)
run_at first others [] n h = absurd (omega (arith, h.some, h.within))
run_at first others (c ∷ cs) zero h = absurd (omega (arith, h.some))
run_at first others (c ∷ cs) (suc n) h = (
  h.begins,
  λ k d short.
      let below : k < n = omega (arith, length-take n cs) in
      let there : k < length cs = omega (arith, length-take n cs) in
      ap others (get_or-take n cs k d below ∙ get_or_default cs k d 0 there) ∙ h.goes_on (suc k) (omega arith) (omega arith),
)

pub run_of : (first others : ℕ → Bool) (bytes : List ℕ) (n : ℕ) → n ≤ length bytes → IsRun first others (take n bytes) → RunsTo first others bytes n
run_of first others [] zero within h = absurd h
run_of first others [] (suc n) within h = absurd h
run_of first others (c ∷ cs) zero within h = absurd h
run_of first others (c ∷ cs) (suc n) within h = record {
  some = omega arith;
  within = within;
  begins = h.0;
  goes_on = goes_on;
}
  where
    goes_on : (k : ℕ) → 0 < k → k < suc n → others (get_or (c ∷ cs) k 0) ≡ true
    goes_on zero some short = absurd (omega arith)
    goes_on (suc k) some short =
        let below : k < n = omega arith in
        sym (ap others (get_or-take n cs k 0 below)) ∙ h.1 k 0 (omega (arith, length-take n cs))

-- the longest run at the front is the bytes that pass the second test, where the first byte passes both
pub prefix_runs : (first others : ℕ → Bool) (bytes : List ℕ) → 0 < length bytes → first (get_or bytes 0 0) ≡ true → others (get_or bytes 0 0) ≡ true → RunsTo first others bytes (prefix_len others bytes)
prefix_runs first others [] some begins fills = absurd (omega arith)
prefix_runs first others (c ∷ cs) some begins fills = record {
  some = rw fills (omega arith);
  within = prefix_len-le-length others (c ∷ cs);
  begins = begins;
  goes_on = λ k _ short. prefix_len_passes others (c ∷ cs) k 0 short;
}

pub runs_within_prefix : (first others : ℕ → Bool) (bytes : List ℕ) (n : ℕ) → others (get_or bytes 0 0) ≡ true → RunsTo first others bytes n → n ≤ prefix_len others bytes
runs_within_prefix first others bytes n fills h = by_order (prefix_len others bytes) refl (cases_order (prefix_len others bytes) n)
  where
    passes : (k : ℕ) → k < n → others (get_or bytes k 0) ≡ true
    passes zero short = fills
    passes (suc k) short = h.goes_on (suc k) (omega arith) short

    by_order : (p : ℕ) → prefix_len others bytes ≡ p → (p ≡ n) ⊎ ((p < n) ⊎ (n < p)) → n ≤ p
    by_order p is (inl same) = omega arith
    by_order p is (inr (inl less)) =
        let stops : others (get_or bytes p 0) ≡ false = subst (λ k. others (get_or bytes k 0) ≡ false) is (prefix_len_stops others bytes 0 (omega (arith, h.within))) in
        absurd (false≢true (sym stops ∙ passes p less))
    by_order p is (inr (inr more)) = omega arith

-- the longest run at the front
pub record IsLongestRun (first others : ℕ → Bool) (bytes : List ℕ) (n : ℕ) : Type 0 where
  pub run : IsRun first others (take n bytes)
  pub longest : (m : ℕ) → m ≤ length bytes → IsRun first others (take m bytes) → m ≤ n

pub longest_run : (first others : ℕ → Bool) (bytes : List ℕ) → 0 < length bytes → first (get_or bytes 0 0) ≡ true → others (get_or bytes 0 0) ≡ true → IsLongestRun first others bytes (prefix_len others bytes)
longest_run first others bytes some begins fills = record {
  run = run_at first others bytes (prefix_len others bytes) (prefix_runs first others bytes some begins fills);
  longest = λ m short h. runs_within_prefix first others bytes m fills (run_of first others bytes m short h);
}
