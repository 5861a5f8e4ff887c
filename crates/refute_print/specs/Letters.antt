-- Which words are names.
use Rattle.std.specs.Prelude.{ℕ, Bool, false, List, [], ◌∷◌}
use Rattle.std.specs.List.{list_all}
use Rattle.thf_grammar.specs.Printable.{is_printable}

-- one or more characters that may stand in quotes
abbrev pub is_printable_name : List ℕ → Bool
is_printable_name [] = false
is_printable_name (c ∷ cs) = list_all is_printable (c ∷ cs)
