-- Types and variables, after the syntax of the TPTP, with the depth of each token.
--
--     type   = simple | simple ">" type
--     simple = "$i" | "$o" | "$iType" | "$oType" | name | "(" type ")"
--     name   = Lower | Quoted
--     var    = Upper | Upper ":" type
--
-- Each relation has the number of things that are open before, the tokens, the tree that they begin with, and the tokens behind it.
use Rattle.std.specs.Prelude.{ℕ, suc, List, ◌∷◌}
use Rattle.thf_grammar.specs.Trees.{TypeTree, form, indiv, named, arrow, VarTree}
use Rattle.thf_grammar.specs.declared.terminal.Mark.TheVariants.{Open, Close, Colon, Arrow}
use Rattle.thf_grammar.specs.declared.terminal.Terminal.TheVariants.{Mark, Form, Indiv, Upper}
use Rattle.thf_grammar.specs.Words.{Word, place, name, Is, IsName}

mutual
  -- an arrow is open until its type ends
  pub data IsType : ℕ → List Word → TypeTree → List Word → Type 0 where
    simple_type : (d : ℕ) (ws rest : List Word) (t : TypeTree) → IsSimpleType d ws t rest → IsType d ws t rest
    arrow_type :
        (d : ℕ) (ws right rest : List Word) (w : Word) (t u : TypeTree)
        → IsSimpleType d ws t (w ∷ right)
        → Is (Mark Arrow) (suc d) w
        → IsType (suc d) right u rest
        → IsType d ws (arrow (place w) t u) rest

  pub data IsSimpleType : ℕ → List Word → TypeTree → List Word → Type 0 where
    indiv_type : (d : ℕ) (w : Word) (rest : List Word) → Is Indiv d w → IsSimpleType d (w ∷ rest) (indiv (place w)) rest
    form_type : (d : ℕ) (w : Word) (rest : List Word) → Is Form d w → IsSimpleType d (w ∷ rest) (form (place w)) rest
    named_type : (d : ℕ) (w : Word) (rest : List Word) → IsName d w → IsSimpleType d (w ∷ rest) (named (place w) (name w)) rest
    group_type :
        (d : ℕ) (w v : Word) (inside rest : List Word) (t : TypeTree)
        → Is (Mark Open) (suc d) w
        → IsType (suc d) inside t (v ∷ rest)
        → Is (Mark Close) (suc d) v
        → IsSimpleType d (w ∷ inside) t rest

-- a variable; one without a type has `$i` at its own place
pub data IsVar : ℕ → List Word → VarTree → List Word → Type 0 where
  plain_var :
      (d : ℕ) (w : Word) (rest : List Word)
      → Is Upper d w
      → IsVar d (w ∷ rest) (record { at = place w; name = name w; ty = indiv (place w) }) rest
  typed_var :
      (d : ℕ) (w v : Word) (inside rest : List Word) (t : TypeTree)
      → Is Upper d w
      → Is (Mark Colon) d v
      → IsType d inside t rest
      → IsVar d (w ∷ v ∷ inside) (record { at = place w; name = name w; ty = t }) rest
