-- The names of a file are printable.
use Rattle.std.proofs.Common.{◌≡◌, ℕ, zero, suc, ◌+◌, ◌-◌, ◌<◌, Bool, true, false, if◌then◌else◌, ◌==◌, inl, inr, List, [], ◌∷◌, ◌++◌, length, take, drop, get_or, slice_range, Option, Some, refl, sym, ap, ◌∙◌, subst, arith}
use Rattle.std.specs.List.{AllPass, AllByRecursion}
use Rattle.std.specs.Char.{is_ascii_lowercase, is_ascii_digit}
use Rattle.std.proofs.lemmas.Bool.Decides.{nat_tests}
use Rattle.std.proofs.Math.Seq.{take-append_seam}
use Rattle.std.proofs.lemmas.List.{drop-drop, length-append}
use Rattle.thf_grammar.specs.declared.token.TokenKind.{TokenKind}
use Rattle.thf_grammar.specs.declared.token.TokenKind.TheVariants as kind
use Rattle.thf_grammar.specs.declared.token.Token.{Token}
use Rattle.thf_grammar.specs.Bytes.{single_quote, backslash, is_word_byte, is_sign, is_plain, is_escaped}
use Rattle.thf_grammar.specs.Texts.{IsRun, IsInteger, AreCharacters, none, plain, escape, IsQuotedBy, IsToken}
use Rattle.thf_grammar.specs.Reading.{Reads, AreTokens, gap, token, bad, end}
use Rattle.thf_grammar.specs.Trees.{BodyTree, SelectedTree, StatementTree}
use Rattle.thf_grammar.specs.declared.terminal.Terminal.{Terminal}
use Rattle.thf_grammar.specs.declared.terminal.Terminal.TheVariants as terminal
use Rattle.thf_grammar.specs.Terminals.{symbol, dollar_word, of_kind}
use Rattle.thf_grammar.specs.Words.{Lexeme, lexemes, terminal_of, unescaped, name_in, name_of, Word, plain as plain_words, name, IsName, lower as lower_name, quoted as quoted_name}
use Rattle.thf_grammar.specs.Statements.{IsLabel, lower, quoted, integer, IsTyping, base_typing, constant_typing, group_typing, IsBody, typing_body, formula_body, AreLabels, last_label, more_labels, IsSelection, everything, only, IsStatement, annotated_statement, include_statement, IsFile, no_statement, more_statements}
use Rattle.thf_parse.specs.Parsing.{HasTree}
use Rattle.thf_grammar.specs.Printable.{is_printable, IsPrintable, BodyDeclaresPrintable, DeclaresPrintable, DeclaredArePrintable, SelectsPrintable, IncludesPrintable, IncludedArePrintable}
use Rattle.thf_parse.proofs.Lefts.{Each, left-statement}
use Rattle.thf_parse.proofs.LexemeLaws.{is_kind, dollar-no_kind, symbol-no_kind}

pass-cons : (p : ℕ → Bool) (c : ℕ) (cs : List ℕ) → p c ≡ true → AllPass p cs → AllPass p (c ∷ cs)
pass-cons p c cs h k zero d lt = h
pass-cons p c cs h k (suc i) d lt = k i d (omega arith)

-- bytes that pass a test that only printable ones pass
printable-as : (p : ℕ → Bool) → ((c : ℕ) → p c ≡ true → is_printable c ≡ true) → (text : List ℕ) → AllPass p text → AllPass is_printable text
printable-as p h text k i d lt = h (get_or text i d) (k i d lt)

lower-printable : (c : ℕ) → is_ascii_lowercase c ≡ true → is_printable c ≡ true
lower-printable c h = grind (arith, nat_tests)

word-printable : (c : ℕ) → is_word_byte c ≡ true → is_printable c ≡ true
word-printable c h = grind (arith, nat_tests)

digit-printable : (c : ℕ) → is_ascii_digit c ≡ true → is_printable c ≡ true
digit-printable c h = grind (arith, nat_tests)

sign-printable : (c : ℕ) → is_sign c ≡ true → is_printable c ≡ true
sign-printable c h = grind (arith, nat_tests)

plain-printable : (c : ℕ) → is_plain single_quote c ≡ true → is_printable c ≡ true
plain-printable c h = grind (arith, nat_tests)

plain-no_backslash : (c : ℕ) → is_plain single_quote c ≡ true → (c == backslash) ≡ false
plain-no_backslash c h = grind (arith, nat_tests)

escaped-printable : (c : ℕ) → is_escaped single_quote c ≡ true → is_printable c ≡ true
escaped-printable c h = grind (arith, nat_tests)

run-printable : (first others : ℕ → Bool) → ((c : ℕ) → first c ≡ true → is_printable c ≡ true) → ((c : ℕ) → others c ≡ true → is_printable c ≡ true) → (text : List ℕ) → IsRun first others text → IsPrintable text
run-printable first others f g [] h = absurd h
run-printable first others f g (c ∷ cs) h = (omega arith, pass-cons is_printable c cs (f c h.0) (printable-as others g cs h.1))

integer-printable : (text : List ℕ) → IsInteger text → IsPrintable text
integer-printable [] h = absurd h
integer-printable (c ∷ cs) (inl digits) = run-printable is_ascii_digit is_ascii_digit digit-printable digit-printable (c ∷ cs) digits
integer-printable (c ∷ cs) (inr signed) = (omega arith, pass-cons is_printable c cs (sign-printable c signed.0) (run-printable is_ascii_digit is_ascii_digit digit-printable digit-printable cs signed.1).1)

characters-printable : (text : List ℕ) → AreCharacters single_quote text → AllPass is_printable (unescaped text)
characters-printable _ none = λ i d lt. absurd (omega arith)
characters-printable _ (plain c [] h k) = pass-cons is_printable c [] (plain-printable c h) (characters-printable [] k)
characters-printable _ (plain c (e ∷ es) h k) = rw (plain-no_backslash c h) (pass-cons is_printable c (unescaped (e ∷ es)) (plain-printable c h) (characters-printable (e ∷ es) k))
characters-printable _ (escape b c cs e h k) = rw e (pass-cons is_printable c (unescaped cs) (escaped-printable c h) (characters-printable cs k))

some-unescaped : (text : List ℕ) → 0 < length text → 0 < length (unescaped text)
some-unescaped [] h = absurd (omega arith)
some-unescaped (c ∷ []) h = omega arith
some-unescaped (b ∷ c ∷ cs) h = go (b == backslash)
  where
    go : (t : Bool) → 0 < length (if t then c ∷ unescaped cs else b ∷ unescaped (c ∷ cs))
    go true = omega arith
    go false = omega arith

inside-quotes : (quote : ℕ) (inside : List ℕ) → slice_range (quote ∷ inside ++ quote ∷ []) 1 (length (quote ∷ inside ++ quote ∷ []) - 1) ≡ inside
inside-quotes quote inside =
    let width : length (quote ∷ inside ++ quote ∷ []) - 1 - 1 ≡ length inside = omega (arith, length-append inside (quote ∷ [])) in
    ap (λ k. take k (inside ++ quote ∷ [])) width ∙ take-append_seam inside (quote ∷ [])

quoted-printable : (text : List ℕ) → IsQuotedBy single_quote text → IsPrintable (name_in kind.Quoted text)
quoted-printable text h =
    let e : slice_range text 1 (length text - 1) ≡ h.inside = rw h.whole (inside-quotes single_quote h.inside) in
    subst (λ x. IsPrintable (unescaped x)) (sym e) (some-unescaped h.inside h.some, characters-printable h.inside h.characters)

-- a terminal that may be a label
abbrev is_label : Terminal → Bool
is_label terminal.Lower = true
is_label terminal.Quoted = true
is_label terminal.Integer = true
is_label _ = false

no_label : (x : Terminal) → is_kind x ≡ false → is_label x ≡ true → ⊥
no_label terminal.Lower e h = cc
no_label terminal.Quoted e h = cc
no_label terminal.Integer e h = cc
no_label _ e h = cc

-- the name of a token that may be a label is printable
abbrev NamesPrintable : Lexeme → Type 0
NamesPrintable t = is_label (terminal_of t) ≡ true → IsPrintable (name_of t)

kind-printable : (k : TokenKind) (text : List ℕ) → IsToken k text → is_label (of_kind k text) ≡ true → IsPrintable (name_in k text)
kind-printable kind.Lower text h e = run-printable is_ascii_lowercase is_word_byte lower-printable word-printable text h
kind-printable kind.Quoted text h e = quoted-printable text h
kind-printable kind.Integer text h e = integer-printable text h
kind-printable kind.Upper text h e = cc
kind-printable kind.Distinct text h e = cc
kind-printable kind.Dollar text h e = absurd (no_label (dollar_word text) (dollar-no_kind text) e)
kind-printable kind.Symbol text h e = absurd (no_label (symbol text) (symbol-no_kind text) e)
kind-printable kind.End text h e = absurd h
kind-printable kind.Bad text h e = absurd h

reads-printable : (bytes : List ℕ) (at : ℕ) (rest : List ℕ) (tokens : List Token) → rest ≡ drop at bytes → Reads at rest tokens → AllByRecursion NamesPrintable (lexemes bytes tokens)
unfolding terminal_of name_of
reads-printable bytes _ _ tokens e (gap at n rest _ longest h) = reads-printable bytes (at + n) (drop n rest) tokens (ap (drop n) e ∙ drop-drop n at bytes) h
reads-printable bytes _ _ _ e (token k at n rest later longest h) =
    let width : at + n - at ≡ n = omega arith in
    let spelled : take n rest ≡ slice_range bytes at (at + n) = ap (take n) e ∙ sym (ap (λ m. take m (drop at bytes)) width) in (
      subst (λ x. is_label (of_kind k x) ≡ true → IsPrintable (name_in k x)) spelled (kind-printable k (take n rest) longest.token),
      reads-printable bytes (at + n) (drop n rest) later (ap (drop n) e ∙ drop-drop n at bytes) h,
    )
reads-printable bytes _ _ _ e (bad at byte rest nothing) = (λ h. cc, tt)
reads-printable bytes _ _ _ e (end at) = (λ h. cc, tt)

abbrev Names : Word → Type 0
Names w = NamesPrintable w.lexeme

each-names : (ws : List Word) → AllByRecursion NamesPrintable (plain_words ws) → Each Names ws
each-names [] h = tt
each-names (w ∷ ws) h = (h.0, each-names ws h.1)

label-printable : (w : Word) → Names w → IsLabel w → IsPrintable (name w)
label-printable w h (lower k) = h (ap is_label k.terminal)
label-printable w h (quoted k) = h (ap is_label k.terminal)
label-printable w h (integer k) = h (ap is_label k.terminal)

name-printable : (d : ℕ) (w : Word) → Names w → IsName d w → IsPrintable (name w)
name-printable d w h (lower_name k) = h (ap is_label k.terminal)
name-printable d w h (quoted_name k) = h (ap is_label k.terminal)

typing-printable : (d : ℕ) (ws rest : List Word) (b : BodyTree) → Each Names ws → IsTyping d ws b rest → BodyDeclaresPrintable b
typing-printable _ _ _ _ e (base_typing d w v k rest n _ _) = name-printable d w e.0 n
typing-printable _ _ _ _ e (constant_typing d w v ws rest t n _ _) = name-printable d w e.0 n
typing-printable _ _ _ _ e (group_typing d w v ws rest b _ h _) = typing-printable (suc d) ws (v ∷ rest) b e.1 h

body-printable : (role : List ℕ) (ws rest : List Word) (b : BodyTree) → Each Names ws → IsBody role ws b rest → BodyDeclaresPrintable b
body-printable role _ _ _ e (typing_body ws rest b _ h) = typing-printable zero ws rest b e h
body-printable role _ _ _ e (formula_body ws rest t _ h) = tt

labels-printable : (ws rest : List Word) (labels : List SelectedTree) → Each Names ws → AreLabels ws labels rest → SelectsPrintable (Some labels)
labels-printable _ _ _ e (last_label w rest n) = (label-printable w e.0 n, tt)
labels-printable _ _ _ e (more_labels w v ws rest labels n _ h) = (label-printable w e.0 n, labels-printable ws rest labels e.1.1 h)

selection-printable : (ws rest : List Word) (labels : Option (List SelectedTree)) → Each Names ws → IsSelection ws labels rest → SelectsPrintable labels
selection-printable _ _ _ e (everything rest) = tt
selection-printable _ _ _ e (only w v u ws rest labels _ _ h _) = labels-printable ws (u ∷ rest) labels e.1.1 h

statement-printable : (ws rest : List Word) (s : StatementTree) → Each Names ws → IsStatement ws s rest → DeclaresPrintable s × IncludesPrintable s
statement-printable _ _ _ e (annotated_statement k o l c r x ws mid behind rest b _ _ _ _ _ _ h _ _) = (body-printable (name r) ws mid b e.1.1.1.1.1.1 h, tt)
statement-printable _ _ _ e (include_statement k o f ws behind rest labels _ _ n h _) = (tt, (e.1.1.0 (ap is_label n.terminal), selection-printable ws behind labels e.1.1.1 h))

file-printable : (ws : List Word) (tree : List StatementTree) → Each Names ws → IsFile ws tree → DeclaredArePrintable tree × IncludedArePrintable tree
file-printable _ _ e (no_statement w _) = (tt, tt)
file-printable _ _ e (more_statements ws rest s ss h k) =
    let first = statement-printable ws rest s e h in
    let later = file-printable rest ss (left-statement Names h e) k in
    ((first.0, later.0), (first.1, later.1))

module _ (bytes : List ℕ) (tokens : List Token) (limit : ℕ) (tree : List StatementTree) (lexed : AreTokens bytes tokens) (parsed : HasTree limit (lexemes bytes tokens) tree) where
  both : DeclaredArePrintable tree × IncludedArePrintable tree
  both =
      let each : AllByRecursion NamesPrintable (plain_words parsed.words) = subst (AllByRecursion NamesPrintable) (sym parsed.tokens) (reads-printable bytes 0 bytes tokens refl lexed) in
      file-printable parsed.words tree (each-names parsed.words each) parsed.file

  pub declared-printable : DeclaredArePrintable tree
  declared-printable = both.0

  pub included-printable : IncludedArePrintable tree
  included-printable = both.1
