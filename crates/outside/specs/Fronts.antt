-- Prefixes of bytes.
use Rattle.std.specs.Prelude.{ℕ, Bool, List, [], ◌∷◌, if◌then◌else◌}

-- the longest prefix whose bytes all meet a test
abbrev pub front : (ℕ → Bool) → List ℕ → List ℕ
front p [] = []
front p (c ∷ cs) = if p c then c ∷ front p cs else []

-- what follows the longest prefix whose bytes all meet a test
abbrev pub behind_front : (ℕ → Bool) → List ℕ → List ℕ
behind_front p [] = []
behind_front p (c ∷ cs) = if p c then behind_front p cs else c ∷ cs
