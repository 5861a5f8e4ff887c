-- The tokens of a file end with its end, or with a byte that begins nothing.
use Rattle.std.proofs.Common.{◌≡◌, ℕ, List, [], ◌∷◌, ◌+◌, take, drop, Bool, true, false, if◌then◌else◌, ◌==◌, ◌&&◌, ◌||◌, codes, refl}
use Rattle.std.specs.Str.{bytes_eq}
use Rattle.thf_grammar.specs.declared.token.TokenKind.{TokenKind}
use Rattle.thf_grammar.specs.declared.token.TokenKind.TheVariants as kind
use Rattle.thf_grammar.specs.declared.token.Token.{Token}
use Rattle.thf_grammar.specs.Texts.{IsToken}
use Rattle.thf_grammar.specs.Reading.{Reads, AreTokens, token_at, gap, token, bad, end}
use Rattle.thf_grammar.specs.declared.connective.Conn.TheVariants.{Not, And, Or, Imp, If, Iff, Xor, Nor, Nand}
use Rattle.thf_grammar.specs.declared.connective.Binder.TheVariants.{All, Exists, Lam, Choice, Desc}
use Rattle.thf_grammar.specs.declared.terminal.Mark.TheVariants as mark
use Rattle.thf_grammar.specs.declared.terminal.Terminal.{Terminal}
use Rattle.thf_grammar.specs.declared.terminal.Terminal.TheVariants as terminal
use Rattle.thf_grammar.specs.Terminals.{single, pair, triple, symbol, dollar_word, of_kind}
use Rattle.thf_grammar.specs.Words.{Lexeme, lexeme, lexemes, terminal_of}
use Rattle.thf_parse.specs.Internal.StatementReader.{is_end}
use Rattle.thf_parse.proofs.ParseLaws.{IsEnded}

-- a terminal that a token's kind tells alone
abbrev pub is_kind : Terminal → Bool
is_kind terminal.Lower = true
is_kind terminal.Upper = true
is_kind terminal.Quoted = true
is_kind terminal.Integer = true
is_kind terminal.Distinct = true
is_kind terminal.End = true
is_kind _ = false

no_kind-no_end : (x : Terminal) → is_kind x ≡ false → is_end x ≡ false
no_kind-no_end terminal.End e = cc
no_kind-no_end _ e = refl

record NoKind (x : Terminal) : Type 0 where
  is : is_kind x ≡ false

either : (b : Bool) (x y : Terminal) → NoKind x → NoKind y → NoKind (if b then x else y)
either true x y h k = h
either false x y h k = k

one : (x : Terminal) → is_kind x ≡ false → NoKind x
one x e = record { is = e }

dollar : (text : List ℕ) → NoKind (dollar_word text)
dollar text =
    (either (bytes_eq text (codes "$i") || bytes_eq text (codes "$iType")) (terminal.Indiv) _ (one (terminal.Indiv) refl)
    (either (bytes_eq text (codes "$o") || bytes_eq text (codes "$oType")) (terminal.Form) _ (one (terminal.Form) refl)
    (either (bytes_eq text (codes "$tType")) (terminal.TypeOfTypes) _ (one (terminal.TypeOfTypes) refl)
    (either (bytes_eq text (codes "$true")) (terminal.Truth true) _ (one (terminal.Truth true) refl)
    (either (bytes_eq text (codes "$false")) (terminal.Truth false) _ (one (terminal.Truth false) refl)
    (one terminal.Other refl))))))

pub dollar-no_kind : (text : List ℕ) → is_kind (dollar_word text) ≡ false
dollar-no_kind text = (dollar text).is

single-no_kind : (a : ℕ) → NoKind (single a)
single-no_kind a =
    (either (a == 40) (terminal.Mark mark.Open) _ (one (terminal.Mark mark.Open) refl)
    (either (a == 41) (terminal.Mark mark.Close) _ (one (terminal.Mark mark.Close) refl)
    (either (a == 91) (terminal.Mark mark.OpenList) _ (one (terminal.Mark mark.OpenList) refl)
    (either (a == 93) (terminal.Mark mark.CloseList) _ (one (terminal.Mark mark.CloseList) refl)
    (either (a == 44) (terminal.Mark mark.Comma) _ (one (terminal.Mark mark.Comma) refl)
    (either (a == 46) (terminal.Mark mark.Stop) _ (one (terminal.Mark mark.Stop) refl)
    (either (a == 58) (terminal.Mark mark.Colon) _ (one (terminal.Mark mark.Colon) refl)
    (either (a == 62) (terminal.Mark mark.Arrow) _ (one (terminal.Mark mark.Arrow) refl)
    (either (a == 64) (terminal.Mark mark.At) _ (one (terminal.Mark mark.At) refl)
    (either (a == 126) (terminal.Conn Not) _ (one (terminal.Conn Not) refl)
    (either (a == 38) (terminal.Conn And) _ (one (terminal.Conn And) refl)
    (either (a == 124) (terminal.Conn Or) _ (one (terminal.Conn Or) refl)
    (either (a == 61) (terminal.Equality true) _ (one (terminal.Equality true) refl)
    (either (a == 33) (terminal.Binder All) _ (one (terminal.Binder All) refl)
    (either (a == 63) (terminal.Binder Exists) _ (one (terminal.Binder Exists) refl)
    (either (a == 94) (terminal.Binder Lam) _ (one (terminal.Binder Lam) refl)
    (one terminal.Other refl)))))))))))))))))

pair-no_kind : (a b : ℕ) → NoKind (pair a b)
pair-no_kind a b =
    (either (a == 61 && b == 62) (terminal.Conn Imp) _ (one (terminal.Conn Imp) refl)
    (either (a == 60 && b == 61) (terminal.Conn If) _ (one (terminal.Conn If) refl)
    (either (a == 126 && b == 124) (terminal.Conn Nor) _ (one (terminal.Conn Nor) refl)
    (either (a == 126 && b == 38) (terminal.Conn Nand) _ (one (terminal.Conn Nand) refl)
    (either (a == 33 && b == 61) (terminal.Equality false) _ (one (terminal.Equality false) refl)
    (either (a == 33 && b == 33) (terminal.Quant true) _ (one (terminal.Quant true) refl)
    (either (a == 63 && b == 63) (terminal.Quant false) _ (one (terminal.Quant false) refl)
    (either (a == 64 && b == 43) (terminal.Binder Choice) _ (one (terminal.Binder Choice) refl)
    (either (a == 64 && b == 45) (terminal.Binder Desc) _ (one (terminal.Binder Desc) refl)
    (one terminal.Other refl))))))))))

triple-no_kind : (a b c : ℕ) → NoKind (triple a b c)
triple-no_kind a b c =
    (either ((a == 60 && b == 61) && c == 62) (terminal.Conn Iff) _ (one (terminal.Conn Iff) refl)
    (either ((a == 60 && b == 126) && c == 62) (terminal.Conn Xor) _ (one (terminal.Conn Xor) refl)
    (one terminal.Other refl)))

pub symbol-no_kind : (text : List ℕ) → is_kind (symbol text) ≡ false
symbol-no_kind [] = refl
symbol-no_kind (a ∷ []) = (single-no_kind a).is
symbol-no_kind (a ∷ b ∷ []) = (pair-no_kind a b).is
symbol-no_kind (a ∷ b ∷ c ∷ []) = (triple-no_kind a b c).is
symbol-no_kind (a ∷ b ∷ c ∷ d ∷ text) = refl

token-no_end : (k : TokenKind) (text other : List ℕ) → IsToken k other → is_end (of_kind k text) ≡ false
token-no_end kind.Lower text other h = refl
token-no_end kind.Upper text other h = refl
token-no_end kind.Quoted text other h = refl
token-no_end kind.Integer text other h = refl
token-no_end kind.Distinct text other h = refl
token-no_end kind.Dollar text other h = no_kind-no_end (dollar_word text) (dollar-no_kind text)
token-no_end kind.Symbol text other h = no_kind-no_end (symbol text) (symbol-no_kind text)
token-no_end kind.End text other h = absurd h
token-no_end kind.Bad text other h = absurd h

one-more : (t : Lexeme) (us : List Lexeme) → is_end (terminal_of t) ≡ false → IsEnded us → IsEnded (t ∷ us)
one-more t [] e h = absurd h
one-more t (u ∷ us) e h = (e, h)

reads-ended : (bytes : List ℕ) (at : ℕ) (rest : List ℕ) (tokens : List Token) → Reads at rest tokens → IsEnded (lexemes bytes tokens)
unfolding terminal_of
reads-ended bytes at rest tokens (gap _ n _ _ longest h) = reads-ended bytes _ _ tokens h
reads-ended bytes at rest _ (token k _ n _ later longest h) = one-more (lexeme bytes (token_at k at (at + n))) (lexemes bytes later) (token-no_end k (lexeme bytes (token_at k at (at + n))).text (take n rest) longest.token) (reads-ended bytes (at + n) (drop n rest) later h)
reads-ended bytes at _ _ (bad _ byte rest nothing) = refl
reads-ended bytes at _ _ (end _) = refl

pub tokens-ended : (bytes : List ℕ) (tokens : List Token) → AreTokens bytes tokens → IsEnded (lexemes bytes tokens)
tokens-ended bytes tokens h = reads-ended bytes 0 bytes tokens h
