-- Statements and files, after the syntax of the TPTP, with the depth of each token.
--
--     file      = {statement}
--     statement = "thf" "(" label "," role "," body [notes] ")" "." | "include" "(" Quoted [selection] ")" "."
--     label     = Lower | Quoted | Integer
--     role      = Lower
--     body      = typing, where the role is `type`, or formula
--     typing    = name ":" "$tType" | name ":" type | "(" typing ")"
--     selection = "," "[" label {"," label} "]"
--
-- Each relation has the tokens, the tree that they begin with, and the tokens behind it. Depth is counted inside bodies and inside notes:
-- a token outside has depth 0.
use Rattle.std.specs.Prelude.{◌≡◌, ◌≢◌, ℕ, suc, List, [], ◌∷◌, Option, Some, None, codes}
use Rattle.thf_grammar.specs.Trees.{TypeTree, FormulaTree, BodyTree, base, typing, formula, SelectedTree, StatementTree, annotated, include}
use Rattle.thf_grammar.specs.declared.terminal.Mark.TheVariants.{Open, Close, OpenList, CloseList, Comma, Stop, Colon}
use Rattle.thf_grammar.specs.declared.terminal.Terminal.TheVariants as terminal
use Rattle.thf_grammar.specs.Words.{Word, place, name, Is, IsName}
use Rattle.thf_grammar.specs.Types.{IsType}
use Rattle.thf_grammar.specs.Formulas.{IsFormulaText}
use Rattle.thf_grammar.specs.Notes.{AreNotes}

pub data IsLabel (w : Word) : Type 0 where
  lower : Is terminal.Lower 0 w → IsLabel w
  quoted : Is terminal.Quoted 0 w → IsLabel w
  integer : Is terminal.Integer 0 w → IsLabel w

-- the token is a lower word with this text
pub record IsKeyword (text : List ℕ) (w : Word) : Type 0 where
  pub lower : Is terminal.Lower 0 w
  pub spelled : w.lexeme.text ≡ text

abbrev pub selected : Word → SelectedTree
selected w = record { at = place w; name = name w }

-- a parenthesis is open until its close, as in a formula
pub data IsTyping : ℕ → List Word → BodyTree → List Word → Type 0 where
  base_typing :
      (d : ℕ) (w v k : Word) (rest : List Word)
      → IsName d w
      → Is (terminal.Mark Colon) d v
      → Is terminal.TypeOfTypes d k
      → IsTyping d (w ∷ v ∷ k ∷ rest) (base (place w) (name w)) rest
  constant_typing :
      (d : ℕ) (w v : Word) (ws rest : List Word) (t : TypeTree)
      → IsName d w
      → Is (terminal.Mark Colon) d v
      → IsType d ws t rest
      → IsTyping d (w ∷ v ∷ ws) (typing (place w) (name w) t) rest
  group_typing :
      (d : ℕ) (w v : Word) (ws rest : List Word) (b : BodyTree)
      → Is (terminal.Mark Open) (suc d) w
      → IsTyping (suc d) ws b (v ∷ rest)
      → Is (terminal.Mark Close) (suc d) v
      → IsTyping d (w ∷ ws) b rest

-- what stands behind a role
pub data IsBody (role : List ℕ) : List Word → BodyTree → List Word → Type 0 where
  typing_body : (ws rest : List Word) (b : BodyTree) → role ≡ codes "type" → IsTyping 0 ws b rest → IsBody role ws b rest
  formula_body : (ws rest : List Word) (t : FormulaTree) → role ≢ codes "type" → IsFormulaText 0 ws t rest → IsBody role ws (formula t) rest

pub data AreLabels : List Word → List SelectedTree → List Word → Type 0 where
  last_label : (w : Word) (rest : List Word) → IsLabel w → AreLabels (w ∷ rest) (selected w ∷ []) rest
  more_labels :
      (w v : Word) (ws rest : List Word) (labels : List SelectedTree)
      → IsLabel w
      → Is (terminal.Mark Comma) 0 v
      → AreLabels ws labels rest
      → AreLabels (w ∷ v ∷ ws) (selected w ∷ labels) rest

pub data IsSelection : List Word → Option (List SelectedTree) → List Word → Type 0 where
  everything : (rest : List Word) → IsSelection rest None rest
  only :
      (w v u : Word) (ws rest : List Word) (labels : List SelectedTree)
      → Is (terminal.Mark Comma) 0 w
      → Is (terminal.Mark OpenList) 0 v
      → AreLabels ws labels (u ∷ rest)
      → Is (terminal.Mark CloseList) 0 u
      → IsSelection (w ∷ v ∷ ws) (Some labels) rest

pub data IsEnd : List Word → List Word → Type 0 where
  ends : (w v : Word) (rest : List Word) → Is (terminal.Mark Close) 0 w → Is (terminal.Mark Stop) 0 v → IsEnd (w ∷ v ∷ rest) rest

pub data IsStatement : List Word → StatementTree → List Word → Type 0 where
  annotated_statement :
      (k o l c r e : Word) (ws mid behind rest : List Word) (b : BodyTree)
      → IsKeyword (codes "thf") k
      → Is (terminal.Mark Open) 0 o
      → IsLabel l
      → Is (terminal.Mark Comma) 0 c
      → Is terminal.Lower 0 r
      → Is (terminal.Mark Comma) 0 e
      → IsBody (name r) ws b mid
      → AreNotes mid behind
      → IsEnd behind rest
      → IsStatement (k ∷ o ∷ l ∷ c ∷ r ∷ e ∷ ws) (annotated (record { name = name l; role = name r; role_at = place r; body = b })) rest
  include_statement :
      (k o f : Word) (ws behind rest : List Word) (labels : Option (List SelectedTree))
      → IsKeyword (codes "include") k
      → Is (terminal.Mark Open) 0 o
      → Is terminal.Quoted 0 f
      → IsSelection ws labels behind
      → IsEnd behind rest
      → IsStatement (k ∷ o ∷ f ∷ ws) (include (place f) (name f) labels) rest

-- the tokens of a file, with the token at its end
pub data IsFile : List Word → List StatementTree → Type 0 where
  no_statement : (w : Word) → Is terminal.End 0 w → IsFile (w ∷ []) []
  more_statements :
      (ws rest : List Word) (s : StatementTree) (ss : List StatementTree) → IsStatement ws s rest → IsFile rest ss → IsFile ws (s ∷ ss)
