-- What the grammar tells apart among tokens: the terminal of a token's kind and text.
use Rattle.std.specs.Prelude.{ℕ, true, false, ◌&&◌, ◌||◌, ◌==◌, List, [], ◌∷◌, codes, if◌then◌else◌}
use Rattle.std.specs.Str.{bytes_eq}
use Rattle.thf_grammar.specs.declared.token.TokenKind.{TokenKind}
use Rattle.thf_grammar.specs.declared.token.TokenKind.TheVariants as kind
use Rattle.thf_grammar.specs.declared.connective.Conn.TheVariants.{Not, And, Or, Imp, If, Iff, Xor, Nor, Nand}
use Rattle.thf_grammar.specs.declared.connective.Binder.TheVariants.{All, Exists, Lam, Choice, Desc}
use Rattle.thf_grammar.specs.declared.terminal.Mark.TheVariants as mark
use Rattle.thf_grammar.specs.declared.terminal.Terminal.{Terminal}
use Rattle.thf_grammar.specs.declared.terminal.Terminal.TheVariants as terminal

-- `(`, `)`, `[`, `]`, `,`, `.`, `:`, `>`, `@`, `~`, `&`, `|`, `=`, `!`, `?` and `^`, in this order
abbrev pub single : ℕ → Terminal
single a =
    if a == 40 then terminal.Mark mark.Open
    else (if a == 41 then terminal.Mark mark.Close
    else (if a == 91 then terminal.Mark mark.OpenList
    else (if a == 93 then terminal.Mark mark.CloseList
    else (if a == 44 then terminal.Mark mark.Comma
    else (if a == 46 then terminal.Mark mark.Stop
    else (if a == 58 then terminal.Mark mark.Colon
    else (if a == 62 then terminal.Mark mark.Arrow
    else (if a == 64 then terminal.Mark mark.At
    else (if a == 126 then terminal.Conn Not
    else (if a == 38 then terminal.Conn And
    else (if a == 124 then terminal.Conn Or
    else (if a == 61 then terminal.Equality true
    else (if a == 33 then terminal.Binder All
    else (if a == 63 then terminal.Binder Exists
    else (if a == 94 then terminal.Binder Lam
    else terminal.Other)))))))))))))))

-- `=>`, `<=`, `~|`, `~&`, `!=`, `!!`, `??`, `@+` and `@-`, in this order
abbrev pub pair : ℕ → ℕ → Terminal
pair a b =
    if a == 61 && b == 62 then terminal.Conn Imp
    else (if a == 60 && b == 61 then terminal.Conn If
    else (if a == 126 && b == 124 then terminal.Conn Nor
    else (if a == 126 && b == 38 then terminal.Conn Nand
    else (if a == 33 && b == 61 then terminal.Equality false
    else (if a == 33 && b == 33 then terminal.Quant true
    else (if a == 63 && b == 63 then terminal.Quant false
    else (if a == 64 && b == 43 then terminal.Binder Choice
    else (if a == 64 && b == 45 then terminal.Binder Desc
    else terminal.Other))))))))

-- `<=>` and `<~>`
abbrev pub triple : ℕ → ℕ → ℕ → Terminal
triple a b c =
    if (a == 60 && b == 61) && c == 62 then terminal.Conn Iff
    else (if (a == 60 && b == 126) && c == 62 then terminal.Conn Xor
    else terminal.Other)

abbrev pub symbol : List ℕ → Terminal
symbol (a ∷ []) = single a
symbol (a ∷ b ∷ []) = pair a b
symbol (a ∷ b ∷ c ∷ []) = triple a b c
symbol _ = terminal.Other

abbrev pub dollar_word : List ℕ → Terminal
dollar_word text =
    if bytes_eq text (codes "$i") || bytes_eq text (codes "$iType") then terminal.Indiv
    else (if bytes_eq text (codes "$o") || bytes_eq text (codes "$oType") then terminal.Form
    else (if bytes_eq text (codes "$tType") then terminal.TypeOfTypes
    else (if bytes_eq text (codes "$true") then terminal.Truth true
    else (if bytes_eq text (codes "$false") then terminal.Truth false
    else terminal.Other))))

abbrev pub of_kind : TokenKind → List ℕ → Terminal
of_kind kind.Lower text = terminal.Lower
of_kind kind.Upper text = terminal.Upper
of_kind kind.Quoted text = terminal.Quoted
of_kind kind.Integer text = terminal.Integer
of_kind kind.Distinct text = terminal.Distinct
of_kind kind.Dollar text = dollar_word text
of_kind kind.Symbol text = symbol text
of_kind kind.End text = terminal.End
of_kind kind.Bad text = terminal.Other
