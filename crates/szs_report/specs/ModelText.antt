-- The text of a model: a line for each of its symbols, with the symbol's value.
use Rattle.std.specs.Prelude.{ℕ, List, [], ◌∷◌, ◌++◌, codes, decimal}
use Rattle.finite_models.specs.Symbols.{Symbol}
use Rattle.refute_print.specs.Named.{Names, named_constant}
use Rattle.refute_print.specs.Text.{constant_text, as_bytes}

-- a symbol and its value
abbrev pub value_line : Names → Symbol → ℕ → List ℕ
value_line names x v = constant_text (named_constant names x.constant) ++ (codes " " ++ decimal v)

-- the lines of symbols with their values, in order
abbrev pub value_lines : Names → List Symbol → List ℕ → List (List ℕ)
value_lines names [] vs = []
value_lines names (x ∷ xs) [] = []
value_lines names (x ∷ xs) (v ∷ vs) = value_line names x v ∷ value_lines names xs vs

abbrev pub model_text : Names → List Symbol → List ℕ → List ℕ
model_text names xs vs = as_bytes (value_lines names xs vs)
