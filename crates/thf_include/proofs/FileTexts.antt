-- A text has one tree, or is refused at one place.
use Rattle.std.proofs.Common.{◌≡◌, ℕ, ◌⊎◌, List, inl, inr, sym, ap, subst, ◌∙◌}
use Rattle.thf_grammar.specs.declared.token.Token.{Token}
use Rattle.thf_grammar.specs.Reading.{AreTokens}
use Rattle.thf_grammar.proofs.Readings.{reads_same}
use Rattle.thf_grammar.specs.Trees.{StatementTree}
use Rattle.thf_grammar.specs.Words.{Lexeme, lexemes}
use Rattle.thf_parse.specs.Parsing.{depth_limit, HasTree, IsWrongAt, IsTooDeepAt}
use Rattle.thf_parse.proofs.ParseLaws.{one-tree}
use Rattle.thf_parse.proofs.RefusalLaws.{not-wrong, not-deep, one-wrong, one-deep, wrong-or-deep}
use Rattle.thf_include.specs.Gathering.{IsFileText, IsWrongText}

same-tokens : (text : List ℕ) (tokens others : List Token) → AreTokens text tokens → AreTokens text others → lexemes text tokens ≡ lexemes text others
same-tokens text tokens others read again = ap (lexemes text) (reads_same 0 text tokens others read again)

abbrev RefusedAt : List Lexeme → ℕ → Type 0
RefusedAt ts at = IsWrongAt depth_limit ts at ⊎ IsTooDeepAt depth_limit ts at

-- a text with a tree isn't refused
pub not-refused : (text : List ℕ) (at : ℕ) (tree : List StatementTree) → IsFileText text tree → IsWrongText text at → ⊥
not-refused text at tree h r = go r.refused
  where
    has : HasTree depth_limit (lexemes text r.tokens) tree
    has = subst (λ ts. HasTree depth_limit ts tree) (same-tokens text h.tokens r.tokens h.read r.read) h.parsed

    go : RefusedAt (lexemes text r.tokens) at → ⊥
    go (inl w) = not-wrong depth_limit (lexemes text r.tokens) tree at has w
    go (inr d) = not-deep depth_limit (lexemes text r.tokens) tree at has d

-- a text is refused at one place
pub same-place : (text : List ℕ) (at other : ℕ) → IsWrongText text at → IsWrongText text other → at ≡ other
same-place text at other r s = go r.refused (subst (λ ts. RefusedAt ts other) (same-tokens text s.tokens r.tokens s.read r.read) s.refused)
  where
    go : RefusedAt (lexemes text r.tokens) at → RefusedAt (lexemes text r.tokens) other → at ≡ other
    go (inl w) (inl v) = one-wrong depth_limit (lexemes text r.tokens) at other w v
    go (inl w) (inr d) = absurd (wrong-or-deep depth_limit (lexemes text r.tokens) at other w d)
    go (inr d) (inl w) = absurd (wrong-or-deep depth_limit (lexemes text r.tokens) other at w d)
    go (inr d) (inr e) = one-deep depth_limit (lexemes text r.tokens) at other d e

-- a text has one tree
pub same-tree : (text : List ℕ) (tree other : List StatementTree) → IsFileText text tree → IsFileText text other → tree ≡ other
same-tree text tree other h k =
    one-tree h.parsed.words k.parsed.words tree other
    (h.parsed.tokens ∙ same-tokens text h.tokens k.tokens h.read k.read ∙ sym k.parsed.tokens)
    h.parsed.file k.parsed.file
