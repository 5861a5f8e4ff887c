-- The gathering of statements: each include is replaced by the statements that are gathered from its file, in place.
use Rattle.std.specs.Prelude.{◌≡◌, ℕ, ◌+◌, ◌<◌, ◌≤◌, Bool, not, ◌⊎◌, List, [], ◌∷◌, ◌++◌, length, take, sum_by, filter, find, slice_get, Contains, Option, Some, None}
use Rattle.std.specs.List.{list_any}
use Rattle.std.specs.Str.{bytes_eq}
use Rattle.thf_grammar.specs.declared.token.Token.{Token}
use Rattle.thf_grammar.specs.Reading.{AreTokens}
use Rattle.thf_grammar.specs.Trees.{AnnotatedTree, SelectedTree, StatementTree, annotated, include}
use Rattle.thf_grammar.specs.Words.{lexemes}
use Rattle.thf_parse.specs.Parsing.{depth_limit, HasTree, IsWrongAt, IsTooDeepAt}
use Rattle.thf_include.specs.View.{PlacedTree}
use Rattle.outside.specs.Limits.{byte_limit}

abbrev pub file_limit : ℕ
file_limit = 256

-- why a gathering stops: a file that is wanted while the texts are at their end, or what is wrong with one
pub data Stop : Type 0 where
  wants : (file : ℕ) → Stop
  too_long : (file : ℕ) → Stop
  no_tree : (file at : ℕ) → Stop
  cycle : (file at : ℕ) → Stop
  too_many : (file at : ℕ) → Stop
  no_name : (file at : ℕ) → Stop

pub data Ending : Type 0 where
  done : (statements : List PlacedTree) → Ending
  stopped : (why : Stop) → Ending

-- what ends with these statements in front
abbrev pub behind_statements : List PlacedTree → Ending → Ending
behind_statements front (done statements) = done (front ++ statements)
behind_statements front (stopped why) = stopped why

-- how many bytes the first n texts have together
abbrev pub bytes_of : List (List ℕ) → ℕ → ℕ
bytes_of texts n = sum_by length (take n texts)

-- the tokens of a text have this tree
pub record IsFileText (text : List ℕ) (tree : List StatementTree) : Type 0 where
  pub tokens : List Token
  pub read : AreTokens text tokens
  pub parsed : HasTree depth_limit (lexemes text tokens) tree

-- the tokens of a text have no tree, and the first that is wrong or too deep stands at this place
pub record IsWrongText (text : List ℕ) (at : ℕ) : Type 0 where
  pub tokens : List Token
  pub read : AreTokens text tokens
  pub refused : IsWrongAt depth_limit (lexemes text tokens) at ⊎ IsTooDeepAt depth_limit (lexemes text tokens) at

abbrev pub placed_statement : ℕ → AnnotatedTree → PlacedTree
placed_statement file statement = record { file = file; statement = statement }

-- the statement has a selected name
abbrev pub is_selected : List SelectedTree → PlacedTree → Bool
is_selected only p = list_any (λ s. bytes_eq s.name p.statement.name) only

-- no statement has the selected name
abbrev pub is_missing : List PlacedTree → SelectedTree → Bool
is_missing statements s = not (list_any (λ p. bytes_eq s.name p.statement.name) statements)

abbrev pub select_by : Option SelectedTree → ℕ → List SelectedTree → List PlacedTree → Ending
select_by None file only statements = done (filter (is_selected only) statements)
select_by (Some s) file only statements = stopped (no_name file s.at)

-- what stays of the statements from an include in this file: those with a selected name, or all without a selection; it stops at the
-- first selected name that none of them has
abbrev pub select : ℕ → Option (List SelectedTree) → List PlacedTree → Ending
select file None statements = done statements
select file (Some only) statements = select_by (find (is_missing statements) only) file only statements

-- What is gathered over the texts of the files, which stand in the order in which the files are opened. Each relation has the names of the
-- files that are open, the innermost first, the names of the files that are opened here, in their order, and how the gathering ends.
mutual
  -- from the file with this number and this name
  pub data FileEnds (texts : List (List ℕ)) : List (List ℕ) → ℕ → List ℕ → List (List ℕ) → Ending → Type 0 where
    unread :
        (chain : List (List ℕ)) (file : ℕ) (name : List ℕ)
        → length texts ≤ file
        → FileEnds texts chain file name (name ∷ []) (stopped (wants file))
    long :
        (chain : List (List ℕ)) (file : ℕ) (name : List ℕ)
        → file < length texts
        → byte_limit < bytes_of texts (file + 1)
        → FileEnds texts chain file name (name ∷ []) (stopped (too_long file))
    refused :
        (chain : List (List ℕ)) (file at : ℕ) (name text : List ℕ)
        → slice_get texts file ≡ Some text
        → bytes_of texts (file + 1) ≤ byte_limit
        → IsWrongText text at
        → FileEnds texts chain file name (name ∷ []) (stopped (no_tree file at))
    followed :
        (chain opened : List (List ℕ)) (file : ℕ) (name text : List ℕ) (tree : List StatementTree) (ending : Ending)
        → slice_get texts file ≡ Some text
        → bytes_of texts (file + 1) ≤ byte_limit
        → IsFileText text tree
        → StatementsEnd texts (name ∷ chain) file (file + 1) tree opened ending
        → FileEnds texts chain file name (name ∷ opened) ending

  -- from a statement of the file with the first number, where the next file that is opened has the second
  pub data StatementEnds (texts : List (List ℕ)) : List (List ℕ) → ℕ → ℕ → StatementTree → List (List ℕ) → Ending → Type 0 where
    stays :
        (chain : List (List ℕ)) (file next : ℕ) (a : AnnotatedTree)
        → StatementEnds texts chain file next (annotated a) [] (done (placed_statement file a ∷ []))
    in_cycle :
        (chain : List (List ℕ)) (file next at : ℕ) (name : List ℕ) (only : Option (List SelectedTree))
        → Contains chain name
        → StatementEnds texts chain file next (include at name only) [] (stopped (cycle file at))
    past_limit :
        (chain : List (List ℕ)) (file next at : ℕ) (name : List ℕ) (only : Option (List SelectedTree))
        → (Contains chain name → ⊥)
        → file_limit ≤ next
        → StatementEnds texts chain file next (include at name only) [] (stopped (too_many file at))
    stops :
        (chain opened : List (List ℕ)) (file next at : ℕ) (name : List ℕ) (only : Option (List SelectedTree)) (why : Stop)
        → (Contains chain name → ⊥)
        → next < file_limit
        → FileEnds texts chain next name opened (stopped why)
        → StatementEnds texts chain file next (include at name only) opened (stopped why)
    selects :
        (chain opened : List (List ℕ)) (file next at : ℕ) (name : List ℕ) (only : Option (List SelectedTree)) (statements : List PlacedTree)
        → (Contains chain name → ⊥)
        → next < file_limit
        → FileEnds texts chain next name opened (done statements)
        → StatementEnds texts chain file next (include at name only) opened (select file only statements)

  -- from statements in their order
  pub data StatementsEnd (texts : List (List ℕ)) : List (List ℕ) → ℕ → ℕ → List StatementTree → List (List ℕ) → Ending → Type 0 where
    no_more : (chain : List (List ℕ)) (file next : ℕ) → StatementsEnd texts chain file next [] [] (done [])
    ends :
        (chain opened : List (List ℕ)) (file next : ℕ) (s : StatementTree) (later : List StatementTree) (why : Stop)
        → StatementEnds texts chain file next s opened (stopped why)
        → StatementsEnd texts chain file next (s ∷ later) opened (stopped why)
    goes_on :
        (chain opened others : List (List ℕ)) (file next : ℕ) (s : StatementTree) (later : List StatementTree) (front : List PlacedTree)
        (ending : Ending)
        → StatementEnds texts chain file next s opened (done front)
        → StatementsEnd texts chain file (next + length opened) later others ending
        → StatementsEnd texts chain file next (s ∷ later) (opened ++ others) (behind_statements front ending)

-- the gathering from the file of this name opens the files of these names, in their order, and ends so
abbrev pub IsGathering : List (List ℕ) → List ℕ → List (List ℕ) → Ending → Type 0
IsGathering texts name names ending = FileEnds texts [] 0 name names ending
