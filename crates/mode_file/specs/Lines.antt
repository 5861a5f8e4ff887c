-- Bytes by lines and by prefixes.
use Rattle.std.specs.Prelude.{◌≡◌, ◌⊎◌, ℕ, ◌==◌, ◌||◌, Bool, List, [], ◌∷◌, ◌++◌}

-- a space, a tab or a carriage return
abbrev pub is_blank : ℕ → Bool
is_blank c = (c == 32) || (c == 9) || (c == 13)

-- bytes end with others, which are none or follow a line feed
abbrev pub IsCutBefore : List ℕ → List ℕ → Type 0
IsCutBefore bytes rest = (rest ≡ []) ⊎ ((front : List ℕ) × (bytes ≡ front ++ (10 ∷ rest)))
