-- The words of a file, statement by statement.
use Rattle.std.proofs.Common.{ℕ, ◌+◌, ◌<◌, ◌≤◌, List, ◌∷◌, length, drop, inl, inr, ap, arith, length-drop}
use Rattle.std.specs.List.{AllByRecursion}
use Rattle.std.proofs.lemmas.List.{length-map}
use Rattle.thf_grammar.specs.declared.token.Token.{Token}
use Rattle.thf_grammar.specs.Reading.{Reads, gap, token, bad, end}
use Rattle.thf_grammar.proofs.Pieces.{token_front}
use Rattle.thf_grammar.specs.Trees.{StatementTree}
use Rattle.thf_grammar.specs.Words.{lexeme, Word, plain}
use Rattle.thf_grammar.specs.Statements.{IsStatement, IsFile, no_statement, more_statements}
use Rattle.thf_parse.specs.Parsing.{depth_limit, AreWithinDepth}
use Rattle.thf_parse.specs.Internal.StatementReader.{statement}
use Rattle.thf_parse.proofs.Goes.{IsShallow, here, there, Goes}
use Rattle.thf_parse.proofs.StatementGoes.{goes-statement}
use Rattle.thf_parse.proofs.StatementLocals.{statement-shorter}
use Rattle.thf_include.specs.Gathering.{IsFileText}

-- what holds of all words holds of those behind some
pub behind-all : (P : Word → Type 0) (limit : ℕ) (ws rest : List Word) → IsShallow limit ws rest → AllByRecursion P ws → AllByRecursion P rest
behind-all P limit ws rest (here _) h = h
behind-all P limit ws rest (there w us _ d s) h = behind-all P limit us rest s h.1

-- the words behind a statement
pub record Follows (limit : ℕ) (ws rest : List Word) : Type 0 where
  pub passed : IsShallow limit ws rest
  pub shorter : length rest < length ws

pub follows : (limit : ℕ) (ws rest : List Word) (s : StatementTree) → IsStatement ws s rest → AreWithinDepth limit ws → Follows limit ws rest
follows limit ws rest s h within = go (goes-statement limit ws rest s h)
  where
    go : Goes limit ws rest s (statement limit (plain ws)) → Follows limit ws rest
    go (inl a) = record {
      passed = a.passed;
      shorter = omega (arith, statement-shorter limit (plain ws) (plain rest) s a.is, length-map ws (λ (w : Word). w.lexeme), length-map rest (λ (w : Word). w.lexeme));
    }
    go (inr k) = absurd (let d = (behind-all (λ w. w.depth ≤ limit) limit ws (k.first ∷ k.back) k.before within).0 in omega (arith, k.sunk, d))

-- a file has more words than statements
file-longer : (limit : ℕ) (ws : List Word) (tree : List StatementTree) → IsFile ws tree → AreWithinDepth limit ws → length tree < length ws
file-longer limit _ _ (no_statement w k) within = omega arith
file-longer limit ws _ (more_statements _ rest s ss first later) within =
    let f = follows limit ws rest s first within in
    omega (arith, f.shorter, file-longer limit rest ss later (behind-all (λ w. w.depth ≤ limit) limit ws rest f.passed within))

-- bytes have at most one token more
tokens-short : (at : ℕ) (bytes : List ℕ) (tokens : List Token) → Reads at bytes tokens → length tokens ≤ length bytes + 1
tokens-short _ _ _ (gap at n bytes later longest h) = omega (arith, tokens-short (at + n) (drop n bytes) later h, length-drop n bytes)
tokens-short _ _ _ (token kind at n bytes later longest h) = omega (arith, tokens-short (at + n) (drop n bytes) later h, length-drop n bytes, longest.within, (token_front kind bytes n longest.token).0)
tokens-short _ _ _ (bad at byte rest nothing) = omega arith
tokens-short _ _ _ (end at) = omega arith

-- a text has as many bytes as statements at least
pub tree-short : (text : List ℕ) (tree : List StatementTree) → IsFileText text tree → length tree ≤ length text
tree-short text tree h =
    omega (
      arith,
      file-longer depth_limit h.parsed.words tree h.parsed.file h.parsed.within,
      length-map h.parsed.words (λ (w : Word). w.lexeme),
      ap length h.parsed.tokens,
      length-map h.tokens (lexeme text),
      tokens-short 0 text h.tokens h.read,
    )
