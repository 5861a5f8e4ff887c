-- What the parts of the reader of texts answer.
use Rattle.std.specs.Prelude.{◌≡◌, ◌<◌, ℕ, ◌+◌, List, [], length}
use Rattle.refute_print.specs.Trees.{RefutationTree}
use Rattle.refute_print.specs.declared.line.RefutationText.{RefutationText}
use Rattle.refute_text.specs.Reading.{IsFront, Starts, IsBadAt}
use Rattle.refute_text.specs.declared.refusal.Refusal.{Refusal}
use Rattle.refute_text.specs.declared.refusal.Refusal.TheVariants.{Form, Memory}
use Rattle.refute_text.specs.declared.refusal.TextRefused.{TextRefused}
use Rattle.refute_text.specs.declared.refusal.TextRefused.TheVariants as refused

-- the lines behind the start line, of which the first has this number
pub record BehindStart (lines : List (List ℕ)) (line : ℕ) (behind : List (List ℕ)) : Type 0 where
  pub before : List (List ℕ)
  pub starts : Starts lines before behind
  pub line_is : line ≡ length before + 2

-- why the lines behind the start line aren't read, of which the first has this number
abbrev pub RefusesBehind : List (List ℕ) → ℕ → TextRefused → Type 0
RefusesBehind behind first (refused.BadLine line) = (place : ℕ) × (IsBadAt behind place × (line ≡ first + place))
RefusesBehind behind first (refused.NoStart line) = ⊥
RefusesBehind behind first (refused.NoEnd line) = IsFront behind × (line ≡ first + length behind)
RefusesBehind behind first refused.Memory = Unit {0}

-- a refutation of which nothing stands yet but the names
abbrev pub nothing_placed : List (List ℕ) → RefutationTree
nothing_placed names = record { names = names; rows = []; lines = [] }

-- the line of a definition may come next
abbrev pub MayDefine : RefutationText → Type 0
MayDefine t = (0 < length t.names) × (length t.witnesses ≡ 0) × (length t.lines ≡ 0)

-- what holds where the form is wrong
abbrev pub IfForm : Refusal → Type 0 → Type 0
IfForm Form P = P
IfForm Memory P = Unit {0}
