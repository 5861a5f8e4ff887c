-- A text that has more bytes than are left, where contents aren't told.
use Rattle.std.proofs.Common.{◌≡◌, ℕ, ◌+◌, ◌<◌, Bool, true, false, IsTrue, List, length, replicate, Some, refl, arith}
use Rattle.std.proofs.lemmas.List.{length-replicate}
use Rattle.outside.specs.Seen.{Seen}
use Rattle.thf_include.specs.Internal.Opening.{IsTooLong}

pub too_long : (seen : Seen) (name : List ℕ) (left : ℕ) → (IsTrue seen.tells → (text : List ℕ) × (seen.contents name ≡ Some text) × (left < length text)) → IsTooLong seen name left
too_long seen name left h = go seen.tells refl
  where
    go : (b : Bool) → seen.tells ≡ b → IsTooLong seen name left
    go true e = let t = h e in record { text = t.0; told = λ _. t.1; longer = t.2 }
    go false e = record { text = replicate (left + 1) 0; told = λ f. cc; longer = omega (arith, length-replicate {A = ℕ} (left + 1) 0) }
