-- The notes of an annotated formula, after the syntax of the TPTP, with the depth of each token.
--
--     notes   = "," general ["," general]
--     general = gdata [":" general] | "[" [general {"," general}] "]"
--     gdata   = Lower | Quoted | (Lower | Quoted) "(" general {"," general} ")" | Upper | Integer | Distinct
--
-- Each relation has the number of things that are open before, the tokens, and the tokens behind. A colon is open until the `general`
-- after it ends.
use Rattle.std.specs.Prelude.{ℕ, suc, List, ◌∷◌}
use Rattle.thf_grammar.specs.declared.terminal.Mark.TheVariants.{Open, Close, OpenList, CloseList, Comma, Colon}
use Rattle.thf_grammar.specs.declared.terminal.Terminal.TheVariants as terminal
use Rattle.thf_grammar.specs.Words.{Word, Is, IsName}

mutual
  pub data IsGeneral : ℕ → List Word → List Word → Type 0 where
    data_general : (d : ℕ) (ws rest : List Word) → IsData d ws rest → IsGeneral d ws rest
    pair_general :
        (d : ℕ) (ws right rest : List Word) (w : Word)
        → IsData d ws (w ∷ right)
        → Is (terminal.Mark Colon) (suc d) w
        → IsGeneral (suc d) right rest
        → IsGeneral d ws rest
    empty_general :
        (d : ℕ) (w v : Word) (rest : List Word)
        → Is (terminal.Mark OpenList) (suc d) w
        → Is (terminal.Mark CloseList) (suc d) v
        → IsGeneral d (w ∷ v ∷ rest) rest
    list_general :
        (d : ℕ) (w v : Word) (inside rest : List Word)
        → Is (terminal.Mark OpenList) (suc d) w
        → AreGenerals (suc d) inside (v ∷ rest)
        → Is (terminal.Mark CloseList) (suc d) v
        → IsGeneral d (w ∷ inside) rest

  pub data AreGenerals : ℕ → List Word → List Word → Type 0 where
    last_general : (d : ℕ) (ws rest : List Word) → IsGeneral d ws rest → AreGenerals d ws rest
    more_generals :
        (d : ℕ) (ws right rest : List Word) (w : Word)
        → IsGeneral d ws (w ∷ right)
        → Is (terminal.Mark Comma) d w
        → AreGenerals d right rest
        → AreGenerals d ws rest

  pub data IsData : ℕ → List Word → List Word → Type 0 where
    name_data : (d : ℕ) (w : Word) (rest : List Word) → IsName d w → IsData d (w ∷ rest) rest
    call_data :
        (d : ℕ) (w o v : Word) (inside rest : List Word)
        → IsName d w
        → Is (terminal.Mark Open) (suc d) o
        → AreGenerals (suc d) inside (v ∷ rest)
        → Is (terminal.Mark Close) (suc d) v
        → IsData d (w ∷ o ∷ inside) rest
    upper_data : (d : ℕ) (w : Word) (rest : List Word) → Is terminal.Upper d w → IsData d (w ∷ rest) rest
    integer_data : (d : ℕ) (w : Word) (rest : List Word) → Is terminal.Integer d w → IsData d (w ∷ rest) rest
    distinct_data : (d : ℕ) (w : Word) (rest : List Word) → Is terminal.Distinct d w → IsData d (w ∷ rest) rest

-- the notes of an annotated formula, if it has any
pub data AreNotes : List Word → List Word → Type 0 where
  no_notes : (rest : List Word) → AreNotes rest rest
  one_note : (w : Word) (ws rest : List Word) → Is (terminal.Mark Comma) 0 w → IsGeneral 0 ws rest → AreNotes (w ∷ ws) rest
  two_notes :
      (w v : Word) (ws mid rest : List Word)
      → Is (terminal.Mark Comma) 0 w
      → IsGeneral 0 ws (v ∷ mid)
      → Is (terminal.Mark Comma) 0 v
      → IsGeneral 0 mid rest
      → AreNotes (w ∷ ws) rest
