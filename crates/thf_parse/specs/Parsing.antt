-- Files: the tree of a list of tokens within a depth, and the token at which a list of tokens is refused.
use Rattle.std.specs.Prelude.{◌≡◌, ℕ, ◌<◌, ◌≤◌, List, [], ◌∷◌, ◌++◌}
use Rattle.std.specs.List.{AllByRecursion}
use Rattle.thf_grammar.specs.Trees.{StatementTree}
use Rattle.thf_parse.specs.declared.parser.ParseRefused.{ParseRefused}
use Rattle.thf_parse.specs.declared.parser.ParseRefused.TheVariants.{At, TooDeep, Memory}
use Rattle.thf_grammar.specs.Words.{Lexeme, Word, plain}
use Rattle.thf_grammar.specs.Statements.{IsFile}

-- how many things may be open at once in a body or in notes
abbrev pub depth_limit : ℕ
depth_limit = 512

-- no token is deeper than the limit
abbrev pub AreWithinDepth : ℕ → List Word → Type 0
AreWithinDepth limit ws = AllByRecursion (λ (w : Word). w.depth ≤ limit) ws

-- the tokens have the tree, with no depth beyond the limit
pub record HasTree (limit : ℕ) (ts : List Lexeme) (tree : List StatementTree) : Type 0 where
  pub words : List Word
  pub tokens : plain words ≡ ts
  pub file : IsFile words tree
  pub within : AreWithinDepth limit words

-- a file begins with the tokens: with some more behind them they have a tree
pub record BeginsFile (ts : List Lexeme) : Type 0 where
  pub words : List Word
  pub tokens : plain words ≡ ts
  pub more : List Word
  pub tree : List StatementTree
  pub file : IsFile (words ++ more) tree

-- in every file that begins with the tokens, none of them is deeper than the limit
abbrev pub StayWithin : ℕ → List Lexeme → Type 0
StayWithin limit ts =
    (words more : List Word) (tree : List StatementTree) → plain words ≡ ts → IsFile (words ++ more) tree → AreWithinDepth limit words

-- in every file that begins with the tokens in front and this one, it is deeper than the limit
abbrev pub GoesBeyond : ℕ → List Lexeme → Lexeme → Type 0
GoesBeyond limit front token =
    (before more : List Word) (w : Word) (tree : List StatementTree)
    → plain before ≡ front
    → w.lexeme ≡ token
    → IsFile (before ++ w ∷ more) tree
    → limit < w.depth

-- the token at the place is wrong: a file begins with the tokens before it, and none with those up to and including it
pub record IsWrongAt (limit : ℕ) (ts : List Lexeme) (at : ℕ) : Type 0 where
  pub front : List Lexeme
  pub token : Lexeme
  pub back : List Lexeme
  pub whole : ts ≡ front ++ token ∷ back
  pub place : token.at ≡ at
  pub begun : BeginsFile front
  pub wrong : BeginsFile (front ++ token ∷ []) → ⊥
  pub earlier : StayWithin limit front

-- the token at the place is too deep: a file begins with the tokens up to and including it, and in such files it is the first that is
-- deeper than the limit
pub record IsTooDeepAt (limit : ℕ) (ts : List Lexeme) (at : ℕ) : Type 0 where
  pub front : List Lexeme
  pub token : Lexeme
  pub back : List Lexeme
  pub whole : ts ≡ front ++ token ∷ back
  pub place : token.at ≡ at
  pub begun : BeginsFile (front ++ token ∷ [])
  pub deeper : GoesBeyond limit front token
  pub earlier : StayWithin limit front

abbrev pub IsRefusedAt : ℕ → List Lexeme → ParseRefused → Type 0
IsRefusedAt limit ts (At at) = IsWrongAt limit ts at
IsRefusedAt limit ts (TooDeep at) = IsTooDeepAt limit ts at
IsRefusedAt limit ts Memory = Unit {0}
