-- What the texts of trees are for: they have tokens, and these have the same trees, places aside.
use Rattle.std.specs.Prelude.{◌≡◌, ℕ, List, ◌++◌}
use Rattle.std.specs.List.{AllByRecursion}
use Rattle.thf_grammar.specs.declared.token.TokenKind.{TokenKind}
use Rattle.thf_grammar.specs.declared.token.TokenKind.TheVariants as kind
use Rattle.thf_grammar.specs.declared.token.Token.{Token}
use Rattle.thf_grammar.specs.Texts.{IsToken}
use Rattle.thf_grammar.specs.Reading.{AreTokens}
use Rattle.thf_grammar.specs.Trees.{StatementTree}
use Rattle.thf_grammar.specs.Words.{Lexeme, lexemes, Word, plain}
use Rattle.thf_grammar.specs.Statements.{IsFile}
use Rattle.thf_syntax.specs.Places.{SamePlacesAside}

-- a text of a token of this kind; the end and a bad byte may have any
abbrev pub IsTextOfKind : TokenKind → List ℕ → Type 0
IsTextOfKind kind.End text = Unit {0}
IsTextOfKind kind.Bad text = Unit {0}
IsTextOfKind kind text = IsToken kind text

abbrev pub IsSpelled : Lexeme → Type 0
IsSpelled t = IsTextOfKind t.kind t.text

-- some list of tokens has the tree, places aside
pub record HasTokens (tree : List StatementTree) : Type 0 where
  pub words : List Word
  pub other : List StatementTree
  pub spelled : AllByRecursion IsSpelled (plain words)
  pub file : IsFile words other
  pub same : SamePlacesAside tree other

-- the bytes have tokens, and these have the tree, places aside
pub record IsTextOf (tree : List StatementTree) (bytes : List ℕ) : Type 0 where
  pub tokens : List Token
  pub words : List Word
  pub other : List StatementTree
  pub read : AreTokens bytes tokens
  pub placed : plain words ≡ lexemes bytes tokens
  pub file : IsFile words other
  pub same : SamePlacesAside tree other

-- what is new at the end is a text of the tree
pub record AppendsTextOf (tree : List StatementTree) (old new : List ℕ) : Type 0 where
  pub text : List ℕ
  pub appended : new ≡ old ++ text
  pub is_text : IsTextOf tree text
