-- Steps of a gathering, from one state of what was opened to another.
use Rattle.std.specs.Prelude.{◌≡◌, ℕ, ◌+◌, IsTrue, List, [], ◌++◌, length, Result, Ok, Err}
use Rattle.thf_grammar.specs.Trees.{StatementTree}
use Rattle.outside.specs.Limits.{byte_limit}
use Rattle.outside.specs.Seen.{Seen}
use Rattle.thf_include.specs.declared.opened.Opened.{Opened}
use Rattle.thf_include.specs.declared.refused.GatherRefused.{GatherRefused}
use Rattle.thf_include.specs.declared.refused.GatherRefused.TheVariants.{Fault, TooLong, Syntax, Cycle, NoSuchName, TooMany, Memory}
use Rattle.thf_include.specs.View.{PlacedTree}
use Rattle.thf_include.specs.Gathering.{Ending, done, stopped, no_name, bytes_of, FileEnds, StatementEnds, StatementsEnd}
use Rattle.thf_include.specs.Answer.{AreContents, StopsAs}

-- the texts are those of the files that were opened, and they leave what is left of all bytes
pub record AreRead (texts : List (List ℕ)) (opened : Opened) : Type 0 where
  pub each : length texts ≡ length opened.names
  pub bytes : bytes_of texts (length texts) + opened.left ≡ byte_limit

-- the step is done: its statements stand behind those before
pub record IsDone (R : List (List ℕ) → List (List ℕ) → Ending → Type 0) (texts names : List (List ℕ)) (opened : Opened)
    (before after : List PlacedTree) : Type 0 where
  pub statements : List PlacedTree
  pub ended : R texts names (done statements)
  pub gathered : after ≡ before ++ statements
  pub read : AreRead texts opened

-- how a step ends, by its answer, of which R says which names are opened over which texts
abbrev pub StepsEndAs :
    {T : Type 0}
    → (List (List ℕ) → List (List ℕ) → Ending → Type 0)
    → List (List ℕ)
    → List (List ℕ)
    → Opened
    → List PlacedTree
    → List PlacedTree
    → Result T GatherRefused
    → Type 0
StepsEndAs R texts names opened before after (Ok answer) = IsDone R texts names opened before after
StepsEndAs R texts names opened before after (Err refused) = StopsAs (λ why. R texts names (stopped why)) (names ≡ []) opened.names refused

-- A step behind these texts opens files and reads further texts. R says how it ends.
pub record IsStep {T : Type 0} (seen : Seen) (R : List (List ℕ) → List (List ℕ) → Ending → Type 0) (texts : List (List ℕ))
    (old new : Opened) (before after : List PlacedTree) (answer : Result T GatherRefused) : Type 0 where
  pub more : List (List ℕ)
  pub names : List (List ℕ)
  pub opened : new.names ≡ old.names ++ names
  pub told : IsTrue seen.tells → AreContents seen.contents names more
  pub ends : StepsEndAs R (texts ++ more) names new before after answer

-- the step of a file with this name, which is the next to be opened
abbrev pub FileSteps :
    {T : Type 0} → Seen → List (List ℕ) → List ℕ → Opened → Opened → List PlacedTree → List PlacedTree → Result T GatherRefused → Type 0
FileSteps seen chain name old new before after answer =
    (texts : List (List ℕ))
    → AreRead texts old
    → IsStep seen (λ all names ending. FileEnds all chain (length old.names) name names ending) texts old new before after answer

-- the step of a statement in the file with this number
abbrev pub StatementSteps :
    {T : Type 0}
    → Seen
    → List (List ℕ)
    → ℕ
    → StatementTree
    → Opened
    → Opened
    → List PlacedTree
    → List PlacedTree
    → Result T GatherRefused
    → Type 0
StatementSteps seen chain file s old new before after answer =
    (texts : List (List ℕ))
    → AreRead texts old
    → IsStep seen (λ all names ending. StatementEnds all chain file (length old.names) s names ending) texts old new before after answer

-- the step of statements in the file with this number
abbrev pub StatementsStep :
    {T : Type 0}
    → Seen
    → List (List ℕ)
    → ℕ
    → List StatementTree
    → Opened
    → Opened
    → List PlacedTree
    → List PlacedTree
    → Result T GatherRefused
    → Type 0
StatementsStep seen chain file tree old new before after answer =
    (texts : List (List ℕ))
    → AreRead texts old
    → IsStep seen (λ all names ending. StatementsEnd all chain file (length old.names) tree names ending) texts old new before after answer

-- what is selected stands behind the statements before
pub record IsSelected (ending : Ending) (before after : List PlacedTree) : Type 0 where
  pub statements : List PlacedTree
  pub ended : ending ≡ done statements
  pub gathered : after ≡ before ++ statements

-- how a selection ends in the file with this number, by its answer
abbrev pub SelectsAs : {T : Type 0} → Ending → List PlacedTree → List PlacedTree → Result T GatherRefused → Type 0
SelectsAs ending before after (Ok answer) = IsSelected ending before after
SelectsAs ending before after (Err (NoSuchName file at)) = ending ≡ stopped (no_name file at)
SelectsAs ending before after (Err Memory) = Unit {0}
SelectsAs ending before after (Err (Fault file)) = ⊥
SelectsAs ending before after (Err (TooLong file)) = ⊥
SelectsAs ending before after (Err (Syntax file at)) = ⊥
SelectsAs ending before after (Err (Cycle file at)) = ⊥
SelectsAs ending before after (Err (TooMany file at)) = ⊥
