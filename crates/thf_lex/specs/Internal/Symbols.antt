-- Symbols of a given length.
use Rattle.std.specs.Prelude.{ℕ, ◌≤◌, IsTrue, List, length, take}
use Rattle.thf_grammar.specs.Texts.{is_symbol}

-- the first n bytes are a symbol
abbrev pub BeginsWithSymbol : ℕ → List ℕ → Type 0
BeginsWithSymbol n bytes = (n ≤ length bytes) × IsTrue (is_symbol (take n bytes))
