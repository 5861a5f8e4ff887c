-- Parts of loops of commands.
use Rattle.std.specs.Prelude.{◌≡◌, ◌≤◌, ◌<◌, ◌+◌, ◌-◌, ℕ, zero, suc, Bool, true, false, List, [], ◌∷◌, ◌++◌, take, drop, length, nat_lt, slice_get, Some, None, refl, if◌then◌else◌}
use Rattle.std.proofs.Common.{sym, ap, ◌∙◌, arith, ltb-true, ltb-false, take-append-drop}
use Rattle.std.proofs.lemmas.List.{drop-drop}
use Rattle.stt_core.specs.Typing.{Scope}
use Rattle.stt_core.proofs.ListLaws.{drop_got}
use Rattle.search_spec.specs.State.{State, Command as Meant}
use Rattle.prover_state.specs.declared.command.Over.{Over}
use Rattle.prover_state.specs.Internal.Pending.{loop_over, later_of, rest_between, between, HasWitnesses, IsSigned, AreThere}

-- PARTS OF LISTS

-- the part between two places begins with what stands at the first one
pub between-more : {X : Type 0} (next end : ℕ) (xs : List X) (x : X) → next < end → slice_get xs next ≡ Some x → between next end xs ≡ x ∷ between (suc next) end xs
between-more next end xs x h e =
    ap (take (end - next)) (drop_got xs next x e ∙ ap (λ n. x ∷ drop n xs) (let k : next + 1 ≡ suc next = omega arith in k))
    ∙ ap (λ n. take n (x ∷ drop (suc next) xs)) (let k : end - next ≡ suc (end - suc next) = omega (arith, h) in k)

-- nothing is between a place and an earlier one
pub between-none : {X : Type 0} (next end : ℕ) (xs : List X) → end ≤ next → between next end xs ≡ []
between-none next end xs h = ap (λ n. take n (drop next xs)) (let k : end - next ≡ 0 = omega (arith, h) in k)

-- a part with what follows it
pub between-then : {X : Type 0} (from next : ℕ) (xs : List X) → from ≤ next → between from next xs ++ drop next xs ≡ drop from xs
between-then from next xs h =
    ap (λ ys. between from next xs ++ ys) (ap (λ n. drop n xs) (let k : next ≡ from + (next - from) = omega (arith, h) in k) ∙ sym (drop-drop (next - from) from xs))
    ∙ take-append-drop (next - from) (drop from xs)

got_within : {X : Type 0} (xs : List X) (i : ℕ) (x : X) → slice_get xs i ≡ Some x → i < length xs
got_within [] i x h = cc
got_within (y ∷ xs) zero x h = omega arith
got_within (y ∷ xs) (suc i) x h = let k = got_within xs i x h in omega (arith, k)

take_last : {X : Type 0} (n : ℕ) (xs : List X) (x : X) → slice_get xs n ≡ Some x → take (suc n) xs ≡ take n xs ++ x ∷ []
take_last n [] x h = cc
take_last zero (y ∷ xs) x h = let e : y ≡ x = cc in ap (λ z. z ∷ []) e
take_last (suc n) (y ∷ xs) x h = ap (λ zs. y ∷ zs) (take_last n xs x h)

dropped_at : {X : Type 0} (m n : ℕ) (xs : List X) → slice_get (drop m xs) n ≡ slice_get xs (m + n)
dropped_at zero n xs = ap (slice_get xs) (let k : n ≡ 0 + n = omega arith in k)
dropped_at (suc m) n [] = refl
dropped_at (suc m) n (x ∷ xs) = dropped_at m n xs ∙ ap (slice_get (x ∷ xs)) (let k : suc (m + n) ≡ suc m + n = omega arith in k)

-- a part with what stands behind it
pub between-last : {X : Type 0} (from next : ℕ) (xs : List X) (x : X) → from ≤ next → slice_get xs next ≡ Some x → between from (suc next) xs ≡ between from next xs ++ x ∷ []
between-last from next xs x h e =
    ap (λ n. take n (drop from xs)) (let k : suc next - from ≡ suc (next - from) = omega (arith, h) in k)
    ∙ take_last (next - from) (drop from xs) x (dropped_at from (next - from) xs ∙ ap (slice_get xs) (let k : from + (next - from) ≡ next = omega (arith, h) in k) ∙ e)

-- PARTS OF LOOPS

module _ (scope : Scope) (s : State) (over : Over) (c : Meant) (from end : ℕ) (leads : slice_get (loop_over scope s over c) from ≡ Some c) (some : from < end) (within : end ≤ length (loop_over scope s over c)) (w : HasWitnesses s over) (sign : IsSigned over c) where
  abbrev loop : List Meant
  loop = loop_over scope s over c

  by_test : (b : Bool) → nat_lt (from + 1) end ≡ b → later_of scope s c (if b then Some (record { over = over; next = from + 1; end = end }) else None) ≡ between (suc from) end loop
  by_test true e = ap (λ n. between n end loop) (let k : from + 1 ≡ suc from = omega arith in k)
  by_test false e = sym (between-none (suc from) end loop (let k = ltb-false (from + 1) end e in omega (arith, k)))

  there_by : (b : Bool) → nat_lt (from + 1) end ≡ b → AreThere scope s c (if b then Some (record { over = over; next = from + 1; end = end }) else None)
  there_by true e = record { ascends = let k = ltb-true (from + 1) end e in omega (arith, k); within = within; witnesses = w; signed = sign }
  there_by false e = tt

  pub there-part : AreThere scope s c (rest_between over (from + 1) end)
  there-part = there_by (nat_lt (from + 1) end) refl

  pub part-is : c ∷ later_of scope s c (rest_between over (from + 1) end) ≡ between from end loop
  part-is = ap (λ cs. c ∷ cs) (by_test (nat_lt (from + 1) end) refl) ∙ sym (between-more from end loop c some leads)
