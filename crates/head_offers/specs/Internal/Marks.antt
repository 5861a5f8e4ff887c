-- Marks of numbers.
use Rattle.std.specs.Prelude.{ℕ, zero, suc, ◌&&◌, ◌||◌, Bool, true, false, List, [], ◌∷◌, slice_set, slice_index_or}
use Rattle.stt_core.specs.Lambda.{Constant, Lambda}
use Rattle.term_bank.specs.Shape.{Shape, abstraction, spine}
use Rattle.term_bank.specs.Terms.{term_at}
use Rattle.search_spec.specs.Offers.{has_constant}

abbrev pub is_flagged : List Bool → ℕ → Bool
is_flagged marks i = slice_index_or marks i false

-- a number that is too great isn't marked
abbrev pub with_mark : ℕ → List Bool → List Bool
with_mark i marks = slice_set marks i true

abbrev pub with_marks : List ℕ → List Bool → List Bool
with_marks [] marks = marks
with_marks (i ∷ is) marks = with_marks is (with_mark i marks)

-- the terms that a node stands on
abbrev pub parts_of : Shape → List ℕ
parts_of (abstraction a i) = i ∷ []
parts_of (spine h is) = is

abbrev pub any_below : (ℕ → Bool) → ℕ → Bool
any_below test zero = false
any_below test (suc n) = test n || any_below test n

-- whether a term is marked and a constant that passes a test occurs in it
abbrev pub reaches : List Lambda → (Constant → Bool) → List Bool → ℕ → Bool
reaches terms test marks i = is_flagged marks i && has_constant test (term_at terms i)
