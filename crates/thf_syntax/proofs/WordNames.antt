-- What a token's terminal says of its text, where its text is one of its kind.
use Rattle.std.proofs.Common.{◌≡◌, ℕ, ◌-◌, ◌<◌, Bool, true, false, inl, inr, List, [], ◌∷◌, ◌++◌, length, take, refl, sym, ap, subst, ◌∙◌, arith, eqb, length-append, if◌then◌else◌}
use Rattle.std.specs.List.{list_all, AllPass}
use Rattle.std.specs.Char.{is_ascii_lowercase, is_ascii_digit}
use Rattle.std.proofs.Math.Seq.{take-append_seam}
use Rattle.std.proofs.lemmas.Bool.{and_parts, and_from, cond_both, false≢true}
use Rattle.std.proofs.lemmas.Bool.Decides.{nat_tests}
use Rattle.std.proofs.lemmas.List.Sums.{list_all-from_AllPass}
use Rattle.thf_grammar.specs.declared.token.TokenKind.{TokenKind}
use Rattle.thf_grammar.specs.declared.token.TokenKind.TheVariants as kind
use Rattle.thf_grammar.specs.Bytes.{single_quote, backslash, is_word_byte, is_sign, is_escaped}
use Rattle.thf_grammar.specs.Texts.{IsLowerWord, IsUpperWord, IsInteger, IsDigits, IsQuotedBy, AreCharacters, none, plain, escape}
use Rattle.thf_grammar.specs.declared.terminal.Terminal.{Terminal}
use Rattle.thf_grammar.specs.declared.terminal.Terminal.TheVariants as terminal
use Rattle.thf_grammar.specs.Terminals.{single, pair, triple, symbol, dollar_word, of_kind}
use Rattle.thf_grammar.specs.Words.{Word, terminal_of, name_of, name_in, unescaped, Is, IsName, lower, quoted, name}
use Rattle.thf_grammar.specs.Statements as grammar
use Rattle.thf_grammar.specs.Statements.{IsLabel}
use Rattle.thf_syntax.specs.Law.{IsTextOfKind, IsSpelled}
use Rattle.thf_syntax.proofs.Spelling.{is_character, is_nameable, unescaped-plain}

-- a terminal that is a name, a variable or a number
abbrev is_word : Terminal → Bool
is_word terminal.Lower = true
is_word terminal.Upper = true
is_word terminal.Quoted = true
is_word terminal.Integer = true
is_word _ = false

-- the kind of the tokens that are such a terminal
abbrev word_kind : Terminal → TokenKind
word_kind terminal.Upper = kind.Upper
word_kind terminal.Quoted = kind.Quoted
word_kind terminal.Integer = kind.Integer
word_kind _ = kind.Lower

either : (b : Bool) (x y : Terminal) → is_word x ≡ false → is_word y ≡ false → is_word (if b then x else y) ≡ false
either b x y h k = cond_both b x y (λ z. is_word z ≡ false) (λ e. h) (λ e. k)

dollar-no_word : (text : List ℕ) → is_word (dollar_word text) ≡ false
dollar-no_word text = search either depth 8

single-no_word : (a : ℕ) → is_word (single a) ≡ false
single-no_word a = search either depth 20

pair-no_word : (a b : ℕ) → is_word (pair a b) ≡ false
pair-no_word a b = search either depth 12

triple-no_word : (a b c : ℕ) → is_word (triple a b c) ≡ false
triple-no_word a b c = grind arith

symbol-no_word : (text : List ℕ) → is_word (symbol text) ≡ false
symbol-no_word [] = refl
symbol-no_word (a ∷ []) = single-no_word a
symbol-no_word (a ∷ b ∷ []) = pair-no_word a b
symbol-no_word (a ∷ b ∷ c ∷ []) = triple-no_word a b c
symbol-no_word (a ∷ b ∷ c ∷ d ∷ text) = refl

not_word : {A : Type 0} (x y : Terminal) → is_word x ≡ false → x ≡ y → is_word y ≡ true → A
not_word x y h e word = absurd (false≢true (sym h ∙ ap is_word e ∙ word))

-- a word's terminal tells its token's kind
kind-word : (k : TokenKind) (text : List ℕ) (x : Terminal) → of_kind k text ≡ x → is_word x ≡ true → k ≡ word_kind x
kind-word kind.Lower text x e word = ap word_kind e
kind-word kind.Upper text x e word = ap word_kind e
kind-word kind.Quoted text x e word = ap word_kind e
kind-word kind.Integer text x e word = ap word_kind e
kind-word kind.Distinct text x e word = not_word terminal.Distinct x refl e word
kind-word kind.Dollar text x e word = not_word (dollar_word text) x (dollar-no_word text) e word
kind-word kind.Symbol text x e word = not_word (symbol text) x (symbol-no_word text) e word
kind-word kind.End text x e word = not_word terminal.End x refl e word
kind-word kind.Bad text x e word = not_word terminal.Other x (refl) e word

-- the kind of a token whose terminal is a word, with its text
token-word : (x : Terminal) (d : ℕ) (w : Word) → is_word x ≡ true → Is x d w → IsSpelled w.lexeme → (w.lexeme.kind ≡ word_kind x) × IsTextOfKind (word_kind x) w.lexeme.text
unfolding terminal_of
token-word x d w word is spelled =
    let k = kind-word w.lexeme.kind w.lexeme.text x is.terminal word in
    (k, subst (λ y. IsTextOfKind y w.lexeme.text) k spelled)

list_all-weaker : (p q : ℕ → Bool) → ((c : ℕ) → p c ≡ true → q c ≡ true) → (xs : List ℕ) → list_all p xs ≡ true → list_all q xs ≡ true
list_all-weaker p q f [] h = refl
list_all-weaker p q f (x ∷ xs) h =
    let parts = and_parts (p x) (list_all p xs) h in
    and_from (q x) (list_all q xs) (f x parts.0) (list_all-weaker p q f xs parts.1)

word-character : (c : ℕ) → is_word_byte c ≡ true → is_character c ≡ true
word-character c h = grind (arith, nat_tests)

digit-character : (c : ℕ) → is_ascii_digit c ≡ true → is_character c ≡ true
digit-character c h = grind (arith, nat_tests)

-- a run of such bytes may be a name
run-nameable : (first others : ℕ → Bool) (c : ℕ) (cs : List ℕ) → ((b : ℕ) → first b ≡ true → is_character b ≡ true) → ((b : ℕ) → others b ≡ true → is_character b ≡ true) → first c ≡ true → AllPass others cs → is_nameable (c ∷ cs) ≡ true
run-nameable first others c cs f g here later =
    and_from (is_character c) (list_all is_character cs) (f c here) (list_all-weaker others is_character g cs (list_all-from_AllPass others cs later))

lower-nameable : (text : List ℕ) → IsLowerWord text → is_nameable text ≡ true
lower-nameable [] h = absurd h
lower-nameable (c ∷ cs) h = run-nameable is_ascii_lowercase is_word_byte c cs (λ b e. grind (arith, nat_tests)) word-character h.0 h.1

digits-nameable : (text : List ℕ) → IsDigits text → is_nameable text ≡ true
digits-nameable [] h = absurd h
digits-nameable (c ∷ cs) h = run-nameable is_ascii_digit is_ascii_digit c cs digit-character digit-character h.0 h.1

nameable-all : (text : List ℕ) → is_nameable text ≡ true → list_all is_character text ≡ true
nameable-all [] h = refl
nameable-all (c ∷ cs) h = h

integer-nameable : (text : List ℕ) → IsInteger text → is_nameable text ≡ true
integer-nameable [] h = absurd h
integer-nameable (c ∷ cs) (inl digits) = digits-nameable (c ∷ cs) digits
integer-nameable (c ∷ cs) (inr signed) =
    let sign : is_sign c ≡ true = signed.0 in
    let fits : is_character c ≡ true = grind (arith, nat_tests) in
    and_from (is_character c) (list_all is_character cs) fits (nameable-all cs (digits-nameable cs signed.1))

-- characters without their backslashes may be a name
escaped-character : (c : ℕ) → is_escaped single_quote c ≡ true → is_character c ≡ true
escaped-character c h = grind (arith, nat_tests)

unescaped-characters : (inside : List ℕ) → AreCharacters single_quote inside → list_all is_character (unescaped inside) ≡ true
unescaped-characters _ none = refl
unescaped-characters _ (plain c cs fits later) =
    let parts = and_parts (is_character c) _ fits in
    let apart : eqb c backslash ≡ false = grind (arith, nat_tests) in
    ap (list_all is_character) (unescaped-plain c cs apart) ∙ and_from (is_character c) (list_all is_character (unescaped cs)) parts.0 (unescaped-characters cs later)
unescaped-characters _ (escape b c cs is fits later) =
    ap (λ x. list_all is_character (unescaped (x ∷ c ∷ cs))) is ∙ and_from (is_character c) (list_all is_character (unescaped cs)) (escaped-character c fits) (unescaped-characters cs later)

unescaped-some : (c : ℕ) (cs : List ℕ) → list_all is_character (unescaped (c ∷ cs)) ≡ true → is_nameable (unescaped (c ∷ cs)) ≡ true
unescaped-some c [] h = h
unescaped-some b (c ∷ cs) h = by_test (eqb b backslash) h
  where
    by_test : (e : Bool) → list_all is_character (if e then c ∷ unescaped cs else b ∷ unescaped (c ∷ cs)) ≡ true → is_nameable (if e then c ∷ unescaped cs else b ∷ unescaped (c ∷ cs)) ≡ true
    by_test true h = h
    by_test false h = h

inside-nameable : (inside : List ℕ) → 0 < length inside → AreCharacters single_quote inside → is_nameable (unescaped inside) ≡ true
inside-nameable [] some h = absurd (omega arith)
inside-nameable (c ∷ cs) some h = unescaped-some c cs (unescaped-characters (c ∷ cs) h)

quoted-nameable : (text : List ℕ) → IsQuotedBy single_quote text → is_nameable (name_in kind.Quoted text) ≡ true
quoted-nameable text h =
    let long : length (single_quote ∷ h.inside ++ single_quote ∷ []) - 1 - 1 ≡ length h.inside = omega (arith, length-append h.inside (single_quote ∷ [])) in
    let inner = ap (λ n. take n (h.inside ++ single_quote ∷ [])) long ∙ take-append_seam h.inside (single_quote ∷ []) in
    ap (λ x. is_nameable (name_in kind.Quoted x)) h.whole ∙ ap (λ x. is_nameable (unescaped x)) inner ∙ inside-nameable h.inside h.some h.characters

-- the names of tokens
pub lower-name : (d : ℕ) (w : Word) → Is terminal.Lower d w → IsSpelled w.lexeme → IsLowerWord (name w)
unfolding name_of
lower-name d w is spelled =
    let h = token-word terminal.Lower d w refl is spelled in
    subst (λ k. IsLowerWord (name_in k w.lexeme.text)) (sym h.0) h.1

pub upper-name : (d : ℕ) (w : Word) → Is terminal.Upper d w → IsSpelled w.lexeme → IsUpperWord (name w)
unfolding name_of
upper-name d w is spelled =
    let h = token-word terminal.Upper d w refl is spelled in
    subst (λ k. IsUpperWord (name_in k w.lexeme.text)) (sym h.0) h.1

pub quoted-name : (d : ℕ) (w : Word) → Is terminal.Quoted d w → IsSpelled w.lexeme → is_nameable (name w) ≡ true
unfolding name_of
quoted-name d w is spelled =
    let h = token-word terminal.Quoted d w refl is spelled in
    ap (λ k. is_nameable (name_in k w.lexeme.text)) h.0 ∙ quoted-nameable w.lexeme.text h.1

integer-name : (d : ℕ) (w : Word) → Is terminal.Integer d w → IsSpelled w.lexeme → is_nameable (name w) ≡ true
unfolding name_of
integer-name d w is spelled =
    let h = token-word terminal.Integer d w refl is spelled in
    ap (λ k. is_nameable (name_in k w.lexeme.text)) h.0 ∙ integer-nameable w.lexeme.text h.1

pub nameable-name : (d : ℕ) (w : Word) → IsName d w → IsSpelled w.lexeme → is_nameable (name w) ≡ true
nameable-name d w (lower is) spelled = lower-nameable (name w) (lower-name d w is spelled)
nameable-name d w (quoted is) spelled = quoted-name d w is spelled

pub nameable-label : (w : Word) → IsLabel w → IsSpelled w.lexeme → is_nameable (name w) ≡ true
nameable-label w (grammar.lower is) spelled = lower-nameable (name w) (lower-name 0 w is spelled)
nameable-label w (grammar.quoted is) spelled = quoted-name 0 w is spelled
nameable-label w (grammar.integer is) spelled = integer-name 0 w is spelled
