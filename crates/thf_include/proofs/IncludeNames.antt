-- The names of files in a tree are text.
use Rattle.std.proofs.Common.{◌≡◌, ℕ, zero, suc, ◌+◌, ◌-◌, ◌<◌, ◌≤◌, ◌==◌, ◌&&◌, ◌||◌, List, [], ◌∷◌, ◌++◌, length, take, drop, Bool, true, false, if◌then◌else◌, codes, refl, sym, ap, subst, ◌∙◌, arith}
use Rattle.std.specs.Prelude.{IsAscii, slice_range}
use Rattle.std.specs.List.{AllByRecursion}
use Rattle.std.specs.Str.{bytes_eq}
use Rattle.std.proofs.lemmas.Bool.Decides.{nat_tests}
use Rattle.std.proofs.lemmas.List.{drop-drop, length-append, take-append-le}
use Rattle.std.proofs.Math.Seq.{take-length}
use Rattle.std.proofs.lemmas.Str.{IsUtf8-from_ascii}
use Rattle.thf_grammar.specs.declared.token.TokenKind.{TokenKind}
use Rattle.thf_grammar.specs.declared.token.TokenKind.TheVariants as kind
use Rattle.thf_grammar.specs.declared.token.Token.{Token}
use Rattle.thf_grammar.specs.Bytes.{single_quote, backslash}
use Rattle.thf_grammar.specs.Texts.{IsToken, IsQuotedBy, AreCharacters, none, plain as plain_character, escape}
use Rattle.thf_grammar.specs.Reading.{Reads, gap, token, bad, end, token_at}
use Rattle.thf_grammar.specs.declared.connective.Conn.TheVariants.{Not, And, Or, Imp, If, Iff, Xor, Nor, Nand}
use Rattle.thf_grammar.specs.declared.connective.Binder.TheVariants.{All, Exists, Lam, Choice, Desc}
use Rattle.thf_grammar.specs.Trees.{StatementTree}
use Rattle.thf_grammar.specs.declared.terminal.Mark.TheVariants as mark
use Rattle.thf_grammar.specs.declared.terminal.Terminal.{Terminal}
use Rattle.thf_grammar.specs.declared.terminal.Terminal.TheVariants as terminal
use Rattle.thf_grammar.specs.Terminals.{single, pair, triple, symbol, dollar_word, of_kind}
use Rattle.thf_grammar.specs.Words.{Lexeme, lexeme, lexemes, Word, plain, terminal_of, name_of, name_in, unescaped, name}
use Rattle.thf_grammar.specs.Statements.{IsStatement, annotated_statement, include_statement, IsFile, no_statement, more_statements}
use Rattle.thf_parse.specs.Parsing.{depth_limit, AreWithinDepth}
use Rattle.thf_include.specs.Gathering.{IsFileText}
use Rattle.thf_include.specs.Internal.Names.{IsNamedStatement, AreNamedStatements}
use Rattle.thf_include.proofs.Trees.{follows, behind-all}

-- the terminal isn't a quoted name
abbrev is_quoted : Terminal → Bool
is_quoted terminal.Quoted = true
is_quoted _ = false

record Unquoted (x : Terminal) : Type 0 where
  is : is_quoted x ≡ false

either : (b : Bool) (x y : Terminal) → Unquoted x → Unquoted y → Unquoted (if b then x else y)
either true x y h k = h
either false x y h k = k

one : (x : Terminal) → is_quoted x ≡ false → Unquoted x
one x e = record { is = e }

dollar-unquoted : (text : List ℕ) → Unquoted (dollar_word text)
dollar-unquoted text =
    (either (bytes_eq text (codes "$i") || bytes_eq text (codes "$iType")) (terminal.Indiv) _ (one (terminal.Indiv) refl)
    (either (bytes_eq text (codes "$o") || bytes_eq text (codes "$oType")) (terminal.Form) _ (one (terminal.Form) refl)
    (either (bytes_eq text (codes "$tType")) (terminal.TypeOfTypes) _ (one (terminal.TypeOfTypes) refl)
    (either (bytes_eq text (codes "$true")) (terminal.Truth true) _ (one (terminal.Truth true) refl)
    (either (bytes_eq text (codes "$false")) (terminal.Truth false) _ (one (terminal.Truth false) refl)
    (one terminal.Other refl))))))

single-unquoted : (a : ℕ) → Unquoted (single a)
single-unquoted a =
    (either (a == 40) (terminal.Mark mark.Open) _ (one (terminal.Mark mark.Open) refl)
    (either (a == 41) (terminal.Mark mark.Close) _ (one (terminal.Mark mark.Close) refl)
    (either (a == 91) (terminal.Mark mark.OpenList) _ (one (terminal.Mark mark.OpenList) refl)
    (either (a == 93) (terminal.Mark mark.CloseList) _ (one (terminal.Mark mark.CloseList) refl)
    (either (a == 44) (terminal.Mark mark.Comma) _ (one (terminal.Mark mark.Comma) refl)
    (either (a == 46) (terminal.Mark mark.Stop) _ (one (terminal.Mark mark.Stop) refl)
    (either (a == 58) (terminal.Mark mark.Colon) _ (one (terminal.Mark mark.Colon) refl)
    (either (a == 62) (terminal.Mark mark.Arrow) _ (one (terminal.Mark mark.Arrow) refl)
    (either (a == 64) (terminal.Mark mark.At) _ (one (terminal.Mark mark.At) refl)
    (either (a == 126) (terminal.Conn Not) _ (one (terminal.Conn Not) refl)
    (either (a == 38) (terminal.Conn And) _ (one (terminal.Conn And) refl)
    (either (a == 124) (terminal.Conn Or) _ (one (terminal.Conn Or) refl)
    (either (a == 61) (terminal.Equality true) _ (one (terminal.Equality true) refl)
    (either (a == 33) (terminal.Binder All) _ (one (terminal.Binder All) refl)
    (either (a == 63) (terminal.Binder Exists) _ (one (terminal.Binder Exists) refl)
    (either (a == 94) (terminal.Binder Lam) _ (one (terminal.Binder Lam) refl)
    (one terminal.Other refl)))))))))))))))))

pair-unquoted : (a b : ℕ) → Unquoted (pair a b)
pair-unquoted a b =
    (either (a == 61 && b == 62) (terminal.Conn Imp) _ (one (terminal.Conn Imp) refl)
    (either (a == 60 && b == 61) (terminal.Conn If) _ (one (terminal.Conn If) refl)
    (either (a == 126 && b == 124) (terminal.Conn Nor) _ (one (terminal.Conn Nor) refl)
    (either (a == 126 && b == 38) (terminal.Conn Nand) _ (one (terminal.Conn Nand) refl)
    (either (a == 33 && b == 61) (terminal.Equality false) _ (one (terminal.Equality false) refl)
    (either (a == 33 && b == 33) (terminal.Quant true) _ (one (terminal.Quant true) refl)
    (either (a == 63 && b == 63) (terminal.Quant false) _ (one (terminal.Quant false) refl)
    (either (a == 64 && b == 43) (terminal.Binder Choice) _ (one (terminal.Binder Choice) refl)
    (either (a == 64 && b == 45) (terminal.Binder Desc) _ (one (terminal.Binder Desc) refl)
    (one terminal.Other refl))))))))))

triple-unquoted : (a b c : ℕ) → Unquoted (triple a b c)
triple-unquoted a b c =
    (either ((a == 60 && b == 61) && c == 62) (terminal.Conn Iff) _ (one (terminal.Conn Iff) refl)
    (either ((a == 60 && b == 126) && c == 62) (terminal.Conn Xor) _ (one (terminal.Conn Xor) refl)
    (one terminal.Other refl)))

symbol-unquoted : (text : List ℕ) → is_quoted (symbol text) ≡ false
symbol-unquoted [] = refl
symbol-unquoted (a ∷ []) = (single-unquoted a).is
symbol-unquoted (a ∷ b ∷ []) = (pair-unquoted a b).is
symbol-unquoted (a ∷ b ∷ c ∷ []) = (triple-unquoted a b c).is
symbol-unquoted (a ∷ b ∷ c ∷ d ∷ text) = refl

kind-quoted : (k : TokenKind) (text : List ℕ) → of_kind k text ≡ terminal.Quoted → k ≡ kind.Quoted
kind-quoted kind.Lower text e = cc
kind-quoted kind.Upper text e = cc
kind-quoted kind.Quoted text e = refl
kind-quoted kind.Integer text e = cc
kind-quoted kind.Distinct text e = cc
kind-quoted kind.Dollar text e = let d : true ≡ false = sym (ap is_quoted e) ∙ (dollar-unquoted text).is in cc
kind-quoted kind.Symbol text e = let d : true ≡ false = sym (ap is_quoted e) ∙ symbol-unquoted text in cc
kind-quoted kind.End text e = cc
kind-quoted kind.Bad text e = cc

-- a quoted name stands between quotes
abbrev IsProperly : Lexeme → Type 0
IsProperly t = t.kind ≡ kind.Quoted → IsQuotedBy single_quote t.text

-- the tokens at a place of the bytes
properly : (bytes : List ℕ) (at : ℕ) (rest : List ℕ) (tokens : List Token) → Reads at rest tokens → rest ≡ drop at bytes → AllByRecursion IsProperly (lexemes bytes tokens)
properly bytes _ _ _ (gap at n rest later longest h) e = properly bytes (at + n) (drop n rest) later h (ap (drop n) e ∙ drop-drop n at bytes)
properly bytes _ _ _ (token k at n rest later longest h) e = (this, properly bytes (at + n) (drop n rest) later h (ap (drop n) e ∙ drop-drop n at bytes))
  where
    text_is : take n rest ≡ slice_range bytes at (at + n)
    text_is = let width : n ≡ (at + n) - at = omega arith in ap (take n) e ∙ ap (λ w. take w (drop at bytes)) width

    this : IsProperly (lexeme bytes (token_at k at (at + n)))
    this q = subst (IsQuotedBy single_quote) text_is (subst (λ c. IsToken c (take n rest)) q longest.token)
properly bytes _ _ _ (bad at byte rest nothing) e = (λ q. cc, tt)
properly bytes _ _ _ (end at) e = (λ q. cc, tt)

all-plain : (ws : List Word) → AllByRecursion IsProperly (plain ws) → AllByRecursion (λ (w : Word). IsProperly w.lexeme) ws
all-plain [] h = tt
all-plain (w ∷ ws) h = (h.0, all-plain ws h.1)

-- each byte is ASCII
abbrev AreAscii : List ℕ → Type 0
AreAscii bs = AllByRecursion (λ (b : ℕ). b < 128) bs

ascii : (bs : List ℕ) → AreAscii bs → IsAscii bs
ascii [] h i = omega arith
ascii (b ∷ bs) h zero = h.0
ascii (b ∷ bs) h (suc i) = ascii bs h.1 i

-- a first character that is no backslash is itself
unescaped-plain : (c : ℕ) (cs : List ℕ) → (c == backslash) ≡ false → unescaped (c ∷ cs) ≡ c ∷ unescaped cs
unescaped-plain c [] e = refl
unescaped-plain c (d ∷ ds) e = ap (λ b. if b then d ∷ unescaped ds else c ∷ unescaped (d ∷ ds)) e

unescaped-escape : (b c : ℕ) (cs : List ℕ) → (b == backslash) ≡ true → unescaped (b ∷ c ∷ cs) ≡ c ∷ unescaped cs
unescaped-escape b c cs e = ap (λ t. if t then c ∷ unescaped cs else b ∷ unescaped (c ∷ cs)) e

unescaped-ascii : (cs : List ℕ) → AreCharacters single_quote cs → AreAscii (unescaped cs)
unescaped-ascii _ none = tt
unescaped-ascii _ (plain_character c cs p h) =
    let other : (c == backslash) ≡ false = grind (arith, nat_tests) in
    let small : c < 128 = grind (arith, nat_tests) in
    subst AreAscii (sym (unescaped-plain c cs other)) (small, unescaped-ascii cs h)
unescaped-ascii _ (escape b c cs e p h) =
    let this : (b == backslash) ≡ true = grind (arith, nat_tests) in
    let small : c < 128 = grind (arith, nat_tests) in
    subst AreAscii (sym (unescaped-escape b c cs this)) (small, unescaped-ascii cs h)

-- what stands between the quotes
inside-quotes : (quote : ℕ) (inside : List ℕ) → slice_range (quote ∷ inside ++ quote ∷ []) 1 (length (quote ∷ inside ++ quote ∷ []) - 1) ≡ inside
inside-quotes quote inside =
    let width : suc (length (inside ++ quote ∷ [])) - 1 - 1 ≡ length inside = omega (arith, length-append inside (quote ∷ [])) in
    ap (λ n. take n (inside ++ quote ∷ [])) width ∙ take-append-le (length inside) inside (quote ∷ []) (omega arith) ∙ take-length inside

quoted-ascii : (text : List ℕ) → IsQuotedBy single_quote text → AreAscii (name_in kind.Quoted text)
quoted-ascii text q =
    let between : slice_range text 1 (length text - 1) ≡ q.inside = ap (λ t. slice_range t 1 (length t - 1)) q.whole ∙ inside-quotes single_quote q.inside in
    subst (λ t. AreAscii (unescaped t)) (sym between) (unescaped-ascii q.inside q.characters)

lexeme-ascii : (t : Lexeme) → IsProperly t → terminal_of t ≡ terminal.Quoted → AreAscii (name_of t)
unfolding terminal_of name_of
lexeme-ascii t h e =
    let k : t.kind ≡ kind.Quoted = kind-quoted t.kind t.text e in
    subst (λ c. AreAscii (name_in c t.text)) (sym k) (quoted-ascii t.text (h k))

statement-named : (ws rest : List Word) (s : StatementTree) → IsStatement ws s rest → AllByRecursion (λ (w : Word). IsProperly w.lexeme) ws → IsNamedStatement s
statement-named _ _ _ (annotated_statement k o l c r e ws mid after rest b kw p q u v w x y z) h = tt
statement-named _ _ _ (include_statement k o f ws after rest labels kw p q u e) h =
    IsUtf8-from_ascii (name f) (ascii (name f) (lexeme-ascii f.lexeme h.1.1.0 q.terminal))

file-named : (limit : ℕ) (ws : List Word) (tree : List StatementTree) → IsFile ws tree → AreWithinDepth limit ws → AllByRecursion (λ (w : Word). IsProperly w.lexeme) ws → AreNamedStatements tree
file-named limit _ _ (no_statement w k) within h = tt
file-named limit ws _ (more_statements _ rest s ss first later) within h =
    let f = follows limit ws rest s first within in
    (statement-named ws rest s first h, file-named limit rest ss later (behind-all (λ w. w.depth ≤ limit) limit ws rest f.passed within) (behind-all (λ w. IsProperly w.lexeme) limit ws rest f.passed h))

-- the includes of a text have names that are text
pub tree-named : (text : List ℕ) (tree : List StatementTree) → IsFileText text tree → AreNamedStatements tree
tree-named text tree h =
    file-named depth_limit h.parsed.words tree h.parsed.file h.parsed.within
    (all-plain h.parsed.words (subst (AllByRecursion IsProperly) (sym h.parsed.tokens) (properly text 0 text h.tokens h.read refl)))
