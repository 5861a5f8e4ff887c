-- What a text begins with tells its kind.
use Rattle.std.proofs.Common.{◌≡◌, ℕ, ◌<◌, ◌≤◌, Bool, true, false, ◌||◌, ◌&&◌, inl, inr, List, [], ◌∷◌, length, get_or, refl, sym, ap, ◌∙◌, subst, arith, ltb, leb}
use Rattle.std.specs.List.{list_any, list_all}
use Rattle.std.proofs.lemmas.Bool.Decides.{nat_tests}
use Rattle.std.specs.Char.{is_ascii_lowercase, is_ascii_uppercase, is_ascii_digit}
use Rattle.std.specs.Str.{bytes_eq}
use Rattle.std.specs.Cmp.Lexicographic.{same_text}
use Rattle.thf_grammar.specs.declared.token.TokenKind.{TokenKind}
use Rattle.thf_grammar.specs.declared.token.TokenKind.TheVariants.{Lower, Upper, Quoted, Dollar, Integer, Distinct, Symbol, End, Bad}
use Rattle.thf_grammar.specs.Bytes.{dollar, is_word_byte, is_sign}
use Rattle.thf_grammar.specs.Internal.Kind.{kind_of}
use Rattle.thf_grammar.specs.Texts.{IsToken, IsGap, IsWhiteSpace, IsLineComment, is_symbol, symbols}

both : (a b : Bool) → (a && b) ≡ true → (a ≡ true) × (b ≡ true)
both true b h = (refl, h)
both false b h = cc

-- what passes a test that each of the texts passes, where it is one of them
passes_among : (p : List ℕ → Bool) (text : List ℕ) (texts : List (List ℕ)) → list_any (bytes_eq text) texts ≡ true → list_all p texts ≡ true → p text ≡ true
passes_among p text [] among all = cc
passes_among p text (t ∷ ts) among all =
    let passes = both (p t) (list_all p ts) all in
    here_or_later (bytes_eq text t) refl passes.0 (λ later. passes_among p text ts later passes.1)
  where
    here_or_later : (b : Bool) → bytes_eq text t ≡ b → p t ≡ true → (list_any (bytes_eq text) ts ≡ true → p text ≡ true) → p text ≡ true
    here_or_later true same here later = ap p (same_text text t (sym same)) ∙ here
    here_or_later false differs here later = later (ap (λ b. b || list_any (bytes_eq text) ts) (sym differs) ∙ among)

abbrev is_kind_symbol : TokenKind → Bool
is_kind_symbol Symbol = true
is_kind_symbol Lower = false
is_kind_symbol Upper = false
is_kind_symbol Quoted = false
is_kind_symbol Dollar = false
is_kind_symbol Integer = false
is_kind_symbol Distinct = false
is_kind_symbol End = false
is_kind_symbol Bad = false

kind_symbol : (kind : TokenKind) → is_kind_symbol kind ≡ true → kind ≡ Symbol
kind_symbol Symbol h = refl
kind_symbol Lower h = cc
kind_symbol Upper h = cc
kind_symbol Quoted h = cc
kind_symbol Dollar h = cc
kind_symbol Integer h = cc
kind_symbol Distinct h = cc
kind_symbol End h = cc
kind_symbol Bad h = cc

-- a symbol has one to three bytes
pub symbol_len_fits : (text : List ℕ) → is_symbol text ≡ true → (0 < length text) × (length text ≤ 3)
symbol_len_fits text h =
    let fits = passes_among (λ s. ltb 0 (length s) && leb (length s) 3) text symbols h refl in
    let parts = both (ltb 0 (length text)) (leb (length text) 3) fits in
    grind (arith, nat_tests)

-- the text has a first byte, which begins tokens of the kind alone
abbrev pub BeginsAs : TokenKind → List ℕ → Type 0
BeginsAs kind text = (0 < length text) × (kind_of (get_or text 0 0) ≡ kind)

symbol_begins : (text : List ℕ) → is_symbol text ≡ true → BeginsAs Symbol text
symbol_begins text h =
    ((symbol_len_fits text h).0, kind_symbol _ (passes_among (λ s. is_kind_symbol (kind_of (get_or s 0 0))) text symbols h refl))

integer_begins : (c : ℕ) (cs : List ℕ) → IsToken Integer (c ∷ cs) → kind_of c ≡ Integer
integer_begins c cs (inl digits) = let first = digits.0 in grind (arith, nat_tests)
integer_begins c cs (inr signed) = let first = signed.0 in grind (arith, nat_tests)

pub token_begins : (kind : TokenKind) (text : List ℕ) → IsToken kind text → BeginsAs kind text
token_begins Lower [] h = absurd h
token_begins Lower (c ∷ cs) h = (grind arith, let first = h.0 in grind (arith, nat_tests))
token_begins Upper [] h = absurd h
token_begins Upper (c ∷ cs) h = (grind arith, let first = h.0 in grind (arith, nat_tests))
token_begins Quoted text h = subst (BeginsAs Quoted) (sym h.whole) (grind arith, refl)
token_begins Dollar [] h = absurd h
token_begins Dollar (c ∷ cs) h = (grind arith, let first = h.0 in grind (arith, nat_tests))
token_begins Integer [] h = absurd h
token_begins Integer (c ∷ cs) h = (grind arith, integer_begins c cs h)
token_begins Distinct text h = subst (BeginsAs Distinct) (sym h.whole) (grind arith, refl)
token_begins Symbol text h = symbol_begins text h
token_begins End text h = absurd h
token_begins Bad text h = absurd h

-- no token begins with a byte that white space or a comment begins with
pub gap_begins : (text : List ℕ) → IsGap text → BeginsAs Bad text
gap_begins text (inl white) = white_begins text white
  where
    white_begins : (text : List ℕ) → IsWhiteSpace text → BeginsAs Bad text
    white_begins [] h = absurd h
    white_begins (c ∷ cs) h = (grind arith, let first = h.0 in grind (arith, nat_tests))
gap_begins text (inr (inl line)) = line_begins text line
  where
    line_begins : (text : List ℕ) → IsLineComment text → BeginsAs Bad text
    line_begins [] h = absurd h
    line_begins (c ∷ cs) h = (grind arith, let first = h.0 in grind (arith, nat_tests))
gap_begins text (inr (inr block)) = (omega (arith, block.long), ap kind_of block.slash_first)

-- which byte begins the tokens of a kind
pub lower_first : (c : ℕ) → kind_of c ≡ Lower → (is_ascii_lowercase c ≡ true) × (is_word_byte c ≡ true)
lower_first c h = (grind (arith, nat_tests), grind (arith, nat_tests))

pub upper_first : (c : ℕ) → kind_of c ≡ Upper → (is_ascii_uppercase c ≡ true) × (is_word_byte c ≡ true)
upper_first c h = (grind (arith, nat_tests), grind (arith, nat_tests))

pub integer_first : (c : ℕ) → kind_of c ≡ Integer → is_sign c ≡ false → is_ascii_digit c ≡ true
integer_first c h unsigned = grind (arith, nat_tests)

pub dollar_first : (c : ℕ) → kind_of c ≡ Dollar → c ≡ dollar
dollar_first c h = grind (arith, nat_tests)
