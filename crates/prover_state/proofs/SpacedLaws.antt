-- Entries whose commands have their numbers one after the other.
use Rattle.std.specs.Prelude.{◌≡◌, ◌<◌, ◌≤◌, ℕ, List, [], ◌∷◌, ◌++◌}
use Rattle.std.proofs.Common.{inl, inr, arith}
use Rattle.command_queue.specs.declared.entry.Entry.{Entry}
use Rattle.tableau_calculus.specs.Each.{Each}
use Rattle.prover_state.specs.declared.command.Planned.{Planned}
use Rattle.prover_state.specs.Internal.Pending.{EndsBelow, AreSpaced, IsApart}
use Rattle.prover_state.proofs.EachLaws.{each-last, each-between, each-without}

abbrev Entries : Type 0
Entries = List (Entry Planned)

ends_later : (m n : ℕ) → m ≤ n → (e : Entry Planned) → EndsBelow m e → EndsBelow n e
ends_later m n h e k = omega (arith, h, k)

pub each_ends : (es : Entries) (n : ℕ) → AreSpaced es n → Each (EndsBelow n) es
each_ends [] n h = tt
each_ends (e ∷ es) n h = (h.0, each_ends es n h.2)

-- a further entry is the last
pub spaced-last : (es : Entries) (e : Entry Planned) (n m : ℕ) → AreSpaced es n → e.number ≡ n → n ≤ m → EndsBelow m e → AreSpaced (es ++ e ∷ []) m
spaced-last [] e n m h is l k = (k, tt, tt)
spaced-last (x ∷ es) e n m h is l k =
    (ends_later n m l x h.0, each-last (λ y. EndsBelow y.number x) es e h.1 (omega (arith, h.0, is)), spaced-last es e n m h.2 is l k)

-- an entry leaves
pub spaced-without : (before : Entries) (e : Entry Planned) (behind : Entries) (n : ℕ) → AreSpaced (before ++ e ∷ behind) n → AreSpaced (before ++ behind) n
spaced-without [] e behind n h = h.2
spaced-without (x ∷ before) e behind n h =
    (h.0, each-without (λ y. EndsBelow y.number x) before e behind h.1, spaced-without before e behind n h.2)

-- an entry joins at its place
pub spaced-between : (before : Entries) (e : Entry Planned) (behind : Entries) (n : ℕ) → AreSpaced (before ++ behind) n → Each (EndsBelow e.number) before → Each (λ x. EndsBelow x.number e) behind → EndsBelow n e → AreSpaced (before ++ e ∷ behind) n
spaced-between [] e behind n h below above k = (k, above, h)
spaced-between (x ∷ before) e behind n h below above k =
    (h.0, each-between (λ y. EndsBelow y.number x) before e behind h.1 below.0, spaced-between before e behind n h.2 below.1 above k)

-- the entries before and behind one of them
pub before_ends : (before : Entries) (e : Entry Planned) (behind : Entries) (n : ℕ) → AreSpaced (before ++ e ∷ behind) n → Each (EndsBelow e.number) before
before_ends [] e behind n h = tt
before_ends (x ∷ before) e behind n h = (first before e behind (λ y. EndsBelow y.number x) h.1, before_ends before e behind n h.2)
  where
    first : (xs : Entries) (y : Entry Planned) (ys : Entries) (P : Entry Planned → Type 0) → Each P (xs ++ y ∷ ys) → P y
    first [] y ys P g = g.0
    first (z ∷ xs) y ys P g = first xs y ys P g.1

pub behind_begins : (before : Entries) (e : Entry Planned) (behind : Entries) (n : ℕ) → AreSpaced (before ++ e ∷ behind) n → Each (λ x. EndsBelow x.number e) behind
behind_begins [] e behind n h = h.1
behind_begins (x ∷ before) e behind n h = behind_begins before e behind n h.2

-- entries with smaller numbers end before one that is apart from them, and those with greater numbers begin after it
pub all_before : (e : Entry Planned) (xs : Entries) → Each (λ x. x.number < e.number) xs → Each (IsApart e) xs → Each (EndsBelow e.number) xs
all_before e [] h k = tt
all_before e (x ∷ xs) h k = (one k.0, all_before e xs h.1 k.1)
  where
    one : IsApart e x → EndsBelow e.number x
    one (inl p) = p
    one (inr p) = absurd (omega (arith, p, h.0))

pub all_behind : (e : Entry Planned) (xs : Entries) → Each (λ x. e.number < x.number) xs → Each (IsApart e) xs → Each (λ x. EndsBelow x.number e) xs
all_behind e [] h k = tt
all_behind e (x ∷ xs) h k = (one k.0, all_behind e xs h.1 k.1)
  where
    one : IsApart e x → EndsBelow x.number e
    one (inl p) = absurd (omega (arith, p, h.0))
    one (inr p) = p
