-- Literals with their texts.
use Rattle.std.specs.Prelude.{◌≡◌, ◌==◌, ◌||◌, ℕ, Bool, true, List, [], ◌∷◌, map}
use Rattle.std.specs.Borrow.{Bor}
use Rattle.std.specs.List.{AllByRecursion}
use Rattle.refute_print.specs.Trees.{LiteralTree}
use Rattle.refute_print.specs.Limits.{IsLiteralText}
use Rattle.refute_print.specs.Text.{literal_text}

-- whether nothing follows, or a comma or a bracket
abbrev pub ends_literal : List ℕ → Bool
ends_literal [] = true
ends_literal (c ∷ cs) = (c == 44) || (c == 93)

-- the literals have texts, which are these
abbrev pub AreTexts : List LiteralTree → List (Bor (List ℕ)) → Type 0
AreTexts literals texts = AllByRecursion IsLiteralText literals × (map literal_text literals ≡ map (λ t. t.now) texts)
