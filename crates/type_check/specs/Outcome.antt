-- What is read, or the first type error.
use Rattle.std.specs.Prelude.{ℕ, Result, Ok, Err}
use Rattle.type_check.specs.declared.refusal.IllWhy.{IllWhy}

-- a type error: the byte place of the token of the wrong node, and why it is wrong
pub record IllPlace : Type 0 where
  pub at : ℕ
  pub why : IllWhy

-- the second reading takes what the first one gives; where the first one fails, that is the failure
infixl 10 ◌>>=◌
abbrev pub ◌>>=◌ : {A B E : Type 0} → Result A E → (A → Result B E) → Result B E
(Ok a) >>= f = f a
(Err e) >>= f = Err e

abbrev pub ill : {A : Type 0} → ℕ → IllWhy → Result A IllPlace
ill at why = Err (record { at = at; why = why })
