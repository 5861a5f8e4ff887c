-- Pieces that are apart are read as their tokens.
use Rattle.std.proofs.Common.{◌≡◌, ◌≢◌, ℕ, suc, ◌+◌, ◌-◌, ◌<◌, ◌≤◌, Bool, true, false, not, ◌||◌, ◌⊎◌, inl, inr, List, [], ◌∷◌, ◌++◌, length, take, drop, get_or, refl, sym, ap, subst, ◌∙◌, arith, leb, eqb, codes, length-append, append_assoc}
use Rattle.std.specs.Prelude.{IsTrue}
use Rattle.std.specs.List.{list_any, list_all, prefix_len, AllPass}
use Rattle.std.specs.Str.{bytes_eq}
use Rattle.std.specs.Cmp.Lexicographic.{same_text}
use Rattle.std.specs.Char.{is_ascii_lowercase, is_ascii_digit}
use Rattle.std.proofs.Math.Seq.{take-append_seam, take-append-add, drop-append_seam}
use Rattle.std.proofs.lemmas.Bool.{false≢true, and_parts, or_cases, or_left, or_right, cases_Bool, cases_order, not-true, not_from_false, eqb-true}
use Rattle.std.proofs.lemmas.Bool.Decides.{nat_tests}
use Rattle.std.proofs.lemmas.List.Folds.{list_all-append}
use Rattle.std.proofs.lemmas.List.Sums.{list_all-from_AllPass}
use Rattle.thf_grammar.specs.declared.token.TokenKind.{TokenKind}
use Rattle.thf_grammar.specs.declared.token.TokenKind.TheVariants.{Lower, Upper, Quoted, Dollar, Integer, Distinct, Symbol, End, Bad}
use Rattle.thf_grammar.specs.Bytes.{is_white_space, is_word_byte, is_sign, backslash, single_quote, double_quote}
use Rattle.thf_grammar.specs.Internal.Kind.{kind_of}
use Rattle.thf_grammar.specs.Texts.{IsToken, IsQuotedBy, AreCharacters, none, plain, escape, is_symbol, symbols}
use Rattle.thf_grammar.specs.Longest.{IsLongestToken, IsLongestGap}
use Rattle.thf_grammar.specs.Reading as reading
use Rattle.thf_grammar.specs.Reading.{Reads}
use Rattle.thf_grammar.proofs.Firsts.{token_begins, gap_begins, symbol_len_fits}
use Rattle.thf_grammar.proofs.Pieces.{longest_token}
use Rattle.thf_grammar.proofs.Gaps.{white_space}
use Rattle.thf_grammar.proofs.Quotes.{Closes, closes_only_here, closes_behind_plain, closes_behind_escape, closes_from_quoted}
use Rattle.thf_grammar.proofs.Words.{letter_word, unsigned_integer, signed_integer, dollar_word}
use Rattle.thf_syntax.proofs.Pieces.{Piece, token, gap, bytes_of, tokens_at, is_mark_byte, is_mark, is_blank, stops, begins, AreApart}

-- what follows from any member that passes both tests, where one passes the first and all pass the second
any_all : {X Q : Type 0} (e p : X → Bool) (ys : List X) → ((y : X) → e y ≡ true → p y ≡ true → Q) → list_any e ys ≡ true → list_all p ys ≡ true → Q
any_all e p [] found any all = cc
any_all {X} {Q} e p (y ∷ ys) found any all =
    let parts = and_parts (p y) (list_all p ys) all in
    either (or_cases (e y) (list_any e ys) any) parts.0 (λ later. any_all e p ys found later parts.1)
  where
    either : (e y ≡ true) ⊎ (list_any e ys ≡ true) → p y ≡ true → (list_any e ys ≡ true → Q) → Q
    either (inl here) first others = found y here first
    either (inr later) first others = others later

-- a byte among these passes what they all pass
among : (p : ℕ → Bool) (c : ℕ) (ms : List ℕ) → list_any (λ m. eqb c m) ms ≡ true → list_all p ms ≡ true → p c ≡ true
among p c ms any all = any_all (λ m. eqb c m) p ms (λ m e h. ap p (eqb-true c m e) ∙ h) any all

symbol_passes : (p : List ℕ → Bool) (text : List ℕ) → is_symbol text ≡ true → list_all p symbols ≡ true → p text ≡ true
symbol_passes p text any all = any_all (bytes_eq text) p symbols (λ s e h. ap p (same_text text s (sym e)) ∙ h) any all

-- a byte with which no word, integer and symbol goes on
abbrev is_stop : ℕ → Bool
is_stop c = list_any (λ m. eqb c m) (codes " \n()[],.:")

abbrev stops_first : List ℕ → Bool
stops_first [] = true
stops_first (c ∷ cs) = is_stop c

abbrev fails_first : (ℕ → Bool) → List ℕ → Bool
fails_first p [] = true
fails_first p (c ∷ cs) = not (p c)

fails_at_stop : (p : ℕ → Bool) (cs : List ℕ) → list_all (λ c. not (p c)) (codes " \n()[],.:") ≡ true → stops_first cs ≡ true → fails_first p cs ≡ true
fails_at_stop p [] all h = refl
fails_at_stop p (c ∷ cs) all h = among (λ c. not (p c)) c (codes " \n()[],.:") h all

-- the longest prefix that passes ends where a byte fails
prefix_len-run : (p : ℕ → Bool) (xs rest : List ℕ) → list_all p xs ≡ true → fails_first p rest ≡ true → prefix_len p (xs ++ rest) ≡ length xs
prefix_len-run p [] [] all fails = refl
prefix_len-run p [] (c ∷ cs) all fails = let e = not-true (p c) fails in rw e refl
prefix_len-run p (x ∷ xs) rest all fails =
    let parts = and_parts (p x) (list_all p xs) all in
    let here : p x ≡ true = parts.0 in
    let later = prefix_len-run p xs rest parts.1 fails in
    rw here (omega (arith, later))

abbrev is_kind_symbol : TokenKind → Bool
is_kind_symbol Symbol = true
is_kind_symbol _ = false

kind-symbol : (k : TokenKind) → is_kind_symbol k ≡ true → k ≡ Symbol
kind-symbol Symbol h = refl
kind-symbol Lower h = cc
kind-symbol Upper h = cc
kind-symbol Quoted h = cc
kind-symbol Dollar h = cc
kind-symbol Integer h = cc
kind-symbol Distinct h = cc
kind-symbol End h = cc
kind-symbol Bad h = cc

-- a mark begins as the symbols do
mark-kind : (t : List ℕ) → is_mark t ≡ true → kind_of (get_or t 0 0) ≡ Symbol
mark-kind [] h = cc
mark-kind (c ∷ []) h = kind-symbol (kind_of c) (among (λ b. is_kind_symbol (kind_of b)) c (codes "()[],.:") h refl)
mark-kind (c ∷ d ∷ cs) h = cc

stops-unless_mark : (k : TokenKind) (t rest : List ℕ) → IsToken k t → k ≢ Symbol → IsTrue (is_mark t || stops_first rest) → stops_first rest ≡ true
stops-unless_mark k t rest h other either = by_mark (or_cases (is_mark t) (stops_first rest) either)
  where
    by_mark : (is_mark t ≡ true) ⊎ (stops_first rest ≡ true) → stops_first rest ≡ true
    by_mark (inl mark) = absurd (other (sym (token_begins k t h).1 ∙ mark-kind t mark))
    by_mark (inr stop) = stop

-- one byte and those behind it that pass
run-length : (p : ℕ → Bool) (c : ℕ) (cs rest : List ℕ) → p c ≡ true → AllPass p cs → fails_first p rest ≡ true → prefix_len p ((c ∷ cs) ++ rest) ≡ length (c ∷ cs)
run-length p c cs rest first others fails =
    let all = list_all-from_AllPass p cs others in
    prefix_len-run p (c ∷ cs) rest (rw first all) fails

longest-letters : (k : TokenKind) (c : ℕ) (cs rest : List ℕ) → IsToken k (c ∷ cs) → (k ≡ Lower) ⊎ (k ≡ Upper) → is_word_byte c ≡ true → AllPass is_word_byte cs → stops_first rest ≡ true → IsLongestToken k ((c ∷ cs) ++ rest) (length (c ∷ cs))
longest-letters k c cs rest h letters first others stop =
    subst (IsLongestToken k ((c ∷ cs) ++ rest)) (run-length is_word_byte c cs rest first others (fails_at_stop is_word_byte rest refl stop))
    (letter_word k ((c ∷ cs) ++ rest) (omega arith) (token_begins k (c ∷ cs) h).1 letters).1

longest-digits : (c : ℕ) (cs rest : List ℕ) → IsToken Integer (c ∷ cs) → is_ascii_digit c ≡ true → AllPass is_ascii_digit cs → stops_first rest ≡ true → IsLongestToken Integer ((c ∷ cs) ++ rest) (length (c ∷ cs))
longest-digits c cs rest h first others stop =
    let unsigned : is_sign c ≡ false = grind (arith, nat_tests) in
    subst (IsLongestToken Integer ((c ∷ cs) ++ rest)) (run-length is_ascii_digit c cs rest first others (fails_at_stop is_ascii_digit rest refl stop))
    (unsigned_integer ((c ∷ cs) ++ rest) (omega arith) (token_begins Integer (c ∷ cs) h).1 unsigned).1

longest-signed : (c d : ℕ) (ds rest : List ℕ) → IsToken Integer (c ∷ d ∷ ds) → is_sign c ≡ true → is_ascii_digit d ≡ true → AllPass is_ascii_digit ds → stops_first rest ≡ true → IsLongestToken Integer ((c ∷ d ∷ ds) ++ rest) (length (c ∷ d ∷ ds))
longest-signed c d ds rest h signed first others stop =
    let long = run-length is_ascii_digit d ds rest first others (fails_at_stop is_ascii_digit rest refl stop) in
    subst (IsLongestToken Integer ((c ∷ d ∷ ds) ++ rest)) (omega (arith, long))
    (signed_integer ((c ∷ d ∷ ds) ++ rest) (omega arith) signed (token_begins Integer (c ∷ d ∷ ds) h).1 (omega (arith, long))).1

longest-integer : (t rest : List ℕ) → IsToken Integer t → stops_first rest ≡ true → IsLongestToken Integer (t ++ rest) (length t)
longest-integer [] rest h stop = absurd h
longest-integer (c ∷ cs) rest (inl digits) stop = longest-digits c cs rest (inl digits) digits.0 digits.1 stop
longest-integer (c ∷ []) rest (inr signed) stop = absurd signed.1
longest-integer (c ∷ d ∷ ds) rest (inr signed) stop = longest-signed c d ds rest (inr signed) signed.0 signed.1.0 signed.1.1 stop

longest-dollar : (t rest : List ℕ) → IsToken Dollar t → stops_first rest ≡ true → IsLongestToken Dollar (t ++ rest) (length t)
longest-dollar [] rest h stop = absurd h
longest-dollar (c ∷ []) rest h stop = absurd h.1
longest-dollar (c ∷ d ∷ ds) rest h stop =
    let lower : is_ascii_lowercase d ≡ true = h.1.0 in
    let letter : is_word_byte d ≡ true = grind (arith, nat_tests) in
    let long = run-length is_word_byte d ds rest letter h.1.1 (fails_at_stop is_word_byte rest refl stop) in
    subst (IsLongestToken Dollar ((c ∷ d ∷ ds) ++ rest)) (omega (arith, long))
    (dollar_word ((c ∷ d ∷ ds) ++ rest) (omega arith) (token_begins Dollar (c ∷ d ∷ ds) h).1 (omega arith) lower).1

-- a quote closes where the characters end
closes-length : (quote : ℕ) (inside rest : List ℕ) (n : ℕ) → quote ≢ backslash → AreCharacters quote inside → Closes quote (inside ++ quote ∷ rest) n → n ≡ length inside
closes-length quote _ rest n apart none h = closes_only_here quote rest n apart h
closes-length quote _ rest n apart (plain c cs fits later) h =
    let k = closes_behind_plain quote c (cs ++ quote ∷ rest) n fits h in
    let e = closes-length quote cs rest k.0 apart later k.2 in
    sym k.1 ∙ ap suc e
closes-length quote _ rest n apart (escape b c cs is fits later) h =
    let k = closes_behind_escape quote c (cs ++ quote ∷ rest) n apart (subst (λ x. Closes quote (x ∷ c ∷ cs ++ quote ∷ rest) n) is h) in
    let e = closes-length quote cs rest k.0 apart later k.2 in
    sym k.1 ∙ ap (λ m. suc (suc m)) e

longest-quoted : (k : TokenKind) (quote : ℕ) (t rest : List ℕ) → quote ≢ backslash → IsToken k t → ((text : List ℕ) → IsToken k text → IsQuotedBy quote text) → IsLongestToken k (t ++ rest) (length t)
longest-quoted k quote t rest apart h quoted =
    let q = quoted t h in
    let tail : drop 1 (t ++ rest) ≡ q.inside ++ quote ∷ rest = ap (λ x. drop 1 (x ++ rest)) q.whole ∙ append_assoc q.inside (quote ∷ []) rest in
    let long : length t ≡ length q.inside + 2 = ap length q.whole ∙ omega (arith, length-append q.inside (quote ∷ [])) in
    (longest_token k (t ++ rest) (length t) (omega (arith, length-append t rest)) (subst (IsToken k) (sym (take-append_seam t rest)) h)
    (λ m short other.
    let found = closes_from_quoted quote (t ++ rest) m short (quoted (take m (t ++ rest)) other) in
    let here = closes-length quote q.inside rest found.0 apart q.characters (subst (λ x. Closes quote x found.0) tail found.3) in
    omega (arith, found.2, here, long))).1

-- a text that begins with a mark has one byte
abbrev is_short : List ℕ → Bool
is_short s = not (is_mark_byte (get_or s 0 0)) || leb (length s) 1

-- no byte behind the first is one at which tokens stop
abbrev goes_on : List ℕ → Bool
goes_on s = list_all (λ b. not (is_stop b)) (drop 1 s)

mark-alone : (x c : ℕ) (ys cs : List ℕ) → is_mark (x ∷ ys) ≡ true → is_symbol ((x ∷ ys) ++ c ∷ cs) ≡ true → ⊥
mark-alone x c [] cs mark is = by_length (or_cases (not (is_mark_byte x)) (leb (suc (suc (length cs))) 1) (symbol_passes is_short (x ∷ c ∷ cs) is refl))
  where
    by_length : (not (is_mark_byte x) ≡ true) ⊎ (leb (suc (suc (length cs))) 1 ≡ true) → ⊥
    by_length (inl e) = false≢true (sym (not-true (is_mark_byte x) e) ∙ mark)
    by_length (inr e) = grind (arith, nat_tests)
mark-alone x c (y ∷ ys) cs mark is = cc

stop-alone : (x c : ℕ) (xs cs : List ℕ) → is_stop c ≡ true → is_symbol ((x ∷ xs) ++ c ∷ cs) ≡ true → ⊥
stop-alone x c xs cs stop is =
    let on = symbol_passes goes_on ((x ∷ xs) ++ c ∷ cs) is refl in
    let parts = and_parts (list_all (λ b. not (is_stop b)) xs) (list_all (λ b. not (is_stop b)) (c ∷ cs)) (sym (list_all-append (λ b. not (is_stop b)) xs (c ∷ cs)) ∙ on) in
    let here = (and_parts (not (is_stop c)) (list_all (λ b. not (is_stop b)) cs) parts.1).0 in
    false≢true (sym (not-true (is_stop c) here) ∙ stop)

-- where a symbol is a mark, or stops before the rest, no symbol is longer
symbol-ends : (t rest : List ℕ) (k : ℕ) → 0 < length t → is_symbol (t ++ take (suc k) rest) ≡ true → 0 < length rest → IsTrue (is_mark t || stops_first rest) → ⊥
symbol-ends t [] k some h more either = omega arith
symbol-ends [] (c ∷ cs) k some h more either = omega arith
symbol-ends (x ∷ xs) (c ∷ cs) k some h more either = by_mark (or_cases (is_mark (x ∷ xs)) (is_stop c) either)
  where
    by_mark : (is_mark (x ∷ xs) ≡ true) ⊎ (is_stop c ≡ true) → ⊥
    by_mark (inl mark) = mark-alone x c xs (take k cs) mark h
    by_mark (inr stop) = stop-alone x c xs (take k cs) stop h

longest-symbol : (t rest : List ℕ) → IsToken Symbol t → IsTrue (is_mark t || stops_first rest) → IsLongestToken Symbol (t ++ rest) (length t)
longest-symbol t rest h either =
    (longest_token Symbol (t ++ rest) (length t) (omega (arith, length-append t rest)) (subst (IsToken Symbol) (sym (take-append_seam t rest)) h)
    (λ m short other. by_order m short other (cases_order m (length t)))).1
  where
    longer : (m k : ℕ) → m ≡ length t + suc k → m ≤ length (t ++ rest) → is_symbol (take m (t ++ rest)) ≡ true → ⊥
    longer m k e short other =
        symbol-ends t rest k (symbol_len_fits t h).0
        (ap is_symbol (sym (take-append-add t rest (suc k)) ∙ ap (λ n. take n (t ++ rest)) (sym e)) ∙ other)
        (omega (arith, e, short, length-append t rest)) either

    by_order : (m : ℕ) → m ≤ length (t ++ rest) → is_symbol (take m (t ++ rest)) ≡ true → (m ≡ length t) ⊎ ((m < length t) ⊎ (length t < m)) → m ≤ length t
    by_order m short other (inl same) = omega arith
    by_order m short other (inr (inl less)) = omega arith
    by_order m short other (inr (inr more)) = absurd (longer m (m - length t - 1) (omega arith) short other)

-- a token is the longest where it is a mark or stops before the rest
pub longest : (k : TokenKind) (t rest : List ℕ) → IsToken k t → IsTrue (is_mark t || stops_first rest) → IsLongestToken k (t ++ rest) (length t)
longest Lower [] rest h either = absurd h
longest Lower (c ∷ cs) rest h either =
    let lower : is_ascii_lowercase c ≡ true = h.0 in
    longest-letters Lower c cs rest h (inl refl) (grind (arith, nat_tests)) h.1 (stops-unless_mark Lower (c ∷ cs) rest h (λ e. cc) either)
longest Upper [] rest h either = absurd h
longest Upper (c ∷ cs) rest h either =
    let upper = h.0 in
    longest-letters Upper c cs rest h (inr refl) (grind (arith, nat_tests)) h.1 (stops-unless_mark Upper (c ∷ cs) rest h (λ e. cc) either)
longest Quoted t rest h either = longest-quoted Quoted single_quote t rest (λ e. omega arith) h (λ text q. q)
longest Distinct t rest h either = longest-quoted Distinct double_quote t rest (λ e. omega arith) h (λ text q. q)
longest Dollar t rest h either = longest-dollar t rest h (stops-unless_mark Dollar t rest h (λ e. cc) either)
longest Integer t rest h either = longest-integer t rest h (stops-unless_mark Integer t rest h (λ e. cc) either)
longest Symbol t rest h either = longest-symbol t rest h either
longest End t rest h either = absurd h
longest Bad t rest h either = absurd h

-- the first byte of pieces before which a token stops
mark-stops : (t rest : List ℕ) → is_mark t ≡ true → stops_first (t ++ rest) ≡ true
mark-stops [] rest h = cc
mark-stops (c ∷ []) rest h = among is_stop c (codes "()[],.:") h refl
mark-stops (c ∷ d ∷ cs) rest h = cc

stops-bytes : (ps : List Piece) → AreApart ps → stops ps ≡ true → stops_first (bytes_of ps) ≡ true
stops-bytes [] apart h = refl
stops-bytes (token k t d ∷ ps) apart h = mark-stops t (bytes_of ps) h
stops-bytes (gap c ∷ ps) apart h = among is_stop c (codes " \n") apart.0 refl

either-bytes : (t : List ℕ) (ps : List Piece) → AreApart ps → IsTrue (is_mark t || stops ps) → IsTrue (is_mark t || stops_first (bytes_of ps))
either-bytes t ps apart h = by_mark (or_cases (is_mark t) (stops ps) h)
  where
    by_mark : (is_mark t ≡ true) ⊎ (stops ps ≡ true) → (is_mark t || stops_first (bytes_of ps)) ≡ true
    by_mark (inl mark) = or_left (is_mark t) (stops_first (bytes_of ps)) mark
    by_mark (inr stop) = or_right (is_mark t) (stops_first (bytes_of ps)) (stops-bytes ps apart stop)

-- no token begins with white space
token-dark : (k : TokenKind) (t rest : List ℕ) → IsToken k t → fails_first is_white_space (t ++ rest) ≡ true
token-dark k [] rest h = refl_of (token_begins k [] h).0
  where
    refl_of : 0 < 0 → fails_first is_white_space rest ≡ true
    refl_of less = absurd (omega arith)
token-dark k (c ∷ cs) rest h = by_test (cases_Bool (is_white_space c))
  where
    by_test : (is_white_space c ≡ true) ⊎ (is_white_space c ≡ false) → not (is_white_space c) ≡ true
    by_test (inl white) =
        let bad : kind_of c ≡ Bad = (gap_begins (c ∷ []) (inl (white, λ i d short. absurd (omega arith)))).1 in
        absurd (subst (λ x. IsToken x (c ∷ cs)) (sym (token_begins k (c ∷ cs) h).1 ∙ bad) h)
    by_test (inr dark) = not_from_false (is_white_space c) dark

begins-dark : (ps : List Piece) → AreApart ps → begins ps ≡ true → fails_first is_white_space (bytes_of ps) ≡ true
begins-dark [] apart h = refl
begins-dark (token k t d ∷ ps) apart h = token-dark k t (bytes_of ps) apart.0
begins-dark (gap c ∷ ps) apart h = cc

longest-gap : (c : ℕ) (rest : List ℕ) → is_blank c ≡ true → fails_first is_white_space rest ≡ true → IsLongestGap (c ∷ rest) 1
longest-gap c rest blank dark =
    let white : is_white_space c ≡ true = among is_white_space c (codes " \n") blank refl in
    subst (IsLongestGap (c ∷ rest)) (prefix_len-run is_white_space (c ∷ []) rest (rw white refl) dark)
    (white_space (c ∷ rest) (omega arith) white).1

pub reads-pieces : (at : ℕ) (ps : List Piece) → AreApart ps → Reads at (bytes_of ps) (tokens_at at ps)
reads-pieces at [] apart = reading.end at
reads-pieces at (token k t d ∷ ps) apart =
    reading.token k at (length t) (t ++ bytes_of ps) (tokens_at (at + length t) ps) (longest k t (bytes_of ps) apart.0 (either-bytes t ps apart.2 apart.1))
    (subst (λ bs. Reads (at + length t) bs (tokens_at (at + length t) ps)) (sym (drop-append_seam t (bytes_of ps))) (reads-pieces (at + length t) ps apart.2))
reads-pieces at (gap c ∷ ps) apart =
    reading.gap at 1 (c ∷ bytes_of ps) (tokens_at (at + 1) ps) (longest-gap c (bytes_of ps) apart.0 (begins-dark ps apart.2 apart.1)) (reads-pieces (at + 1) ps apart.2)
