-- The longest words, integers and stretches of white space at the front of bytes.
use Rattle.std.proofs.Common.{◌≡◌, ℕ, zero, suc, ◌+◌, ◌-◌, ◌<◌, ◌≤◌, true, false, ◌⊎◌, inl, inr, List, [], ◌∷◌, length, get_or, take, drop, sym, ap, ◌∙◌, subst, arith}
use Rattle.std.specs.List.{prefix_len}
use Rattle.std.specs.Char.{is_ascii_lowercase, is_ascii_uppercase, is_ascii_digit}
use Rattle.std.proofs.lemmas.Bool.{false≢true}
use Rattle.std.proofs.lemmas.Bool.Decides.{nat_tests}
use Rattle.std.proofs.lemmas.List.Sums.{prefix_len-le-length, prefix_len_passes}
use Rattle.thf_grammar.specs.declared.token.TokenKind.{TokenKind}
use Rattle.thf_grammar.specs.declared.token.TokenKind.TheVariants.{Lower, Upper, Dollar, Integer}
use Rattle.thf_grammar.specs.Bytes.{is_word_byte, is_sign}
use Rattle.thf_grammar.specs.Texts.{IsInteger, IsDigits, IsDollarWord, IsLowerWord}
use Rattle.thf_grammar.specs.Longest.{IsLongestToken, BeginsNothing}
use Rattle.thf_grammar.proofs.Firsts.{lower_first, upper_first, integer_first, dollar_first}
use Rattle.thf_grammar.proofs.Pieces.{first_kind, longest_token, no_token}
use Rattle.thf_grammar.proofs.Runs.{longest_run}

lower_word : (bytes : List ℕ) → 0 < length bytes → first_kind bytes ≡ Lower → (0 < prefix_len is_word_byte bytes) × IsLongestToken Lower bytes (prefix_len is_word_byte bytes)
lower_word bytes some first =
    let begins = lower_first (get_or bytes 0 0) first in
    let run = longest_run is_ascii_lowercase is_word_byte bytes some begins.0 begins.1 in
    longest_token Lower bytes (prefix_len is_word_byte bytes) (prefix_len-le-length is_word_byte bytes) run.run run.longest

upper_word : (bytes : List ℕ) → 0 < length bytes → first_kind bytes ≡ Upper → (0 < prefix_len is_word_byte bytes) × IsLongestToken Upper bytes (prefix_len is_word_byte bytes)
upper_word bytes some first =
    let begins = upper_first (get_or bytes 0 0) first in
    let run = longest_run is_ascii_uppercase is_word_byte bytes some begins.0 begins.1 in
    longest_token Upper bytes (prefix_len is_word_byte bytes) (prefix_len-le-length is_word_byte bytes) run.run run.longest

pub letter_word : (kind : TokenKind) (bytes : List ℕ) → 0 < length bytes → first_kind bytes ≡ kind → (kind ≡ Lower) ⊎ (kind ≡ Upper)
    → (0 < prefix_len is_word_byte bytes) × IsLongestToken kind bytes (prefix_len is_word_byte bytes)
letter_word kind bytes some first (inl lower) = rw lower (lower_word bytes some (first ∙ lower))
letter_word kind bytes some first (inr upper) = rw upper (upper_word bytes some (first ∙ upper))

take_behind : (c : ℕ) (cs : List ℕ) (n : ℕ) → take (1 + n) (c ∷ cs) ≡ c ∷ take n cs
take_behind c cs n = let more : 1 + n ≡ suc n = omega arith in ap (λ k. take k (c ∷ cs)) more

-- a text of digits is an integer
digits_integer : (bytes : List ℕ) (n : ℕ) → IsDigits (take n bytes) → IsInteger (take n bytes)
digits_integer bytes n h = go (take n bytes) h
  where
    go : (text : List ℕ) → IsDigits text → IsInteger text
    go [] digits = absurd digits
    go (c ∷ cs) digits = inl digits

-- an integer without a sign is digits
integer_digits : (bytes : List ℕ) (n : ℕ) → is_sign (get_or bytes 0 0) ≡ false → IsInteger (take n bytes) → IsDigits (take n bytes)
integer_digits [] zero unsigned h = absurd h
integer_digits [] (suc n) unsigned h = absurd h
integer_digits (c ∷ cs) zero unsigned h = absurd h
integer_digits (c ∷ cs) (suc n) unsigned (inl digits) = digits
integer_digits (c ∷ cs) (suc n) unsigned (inr signed) = absurd (false≢true (sym unsigned ∙ signed.0))

pub unsigned_integer : (bytes : List ℕ) → 0 < length bytes → first_kind bytes ≡ Integer → is_sign (get_or bytes 0 0) ≡ false
    → (0 < prefix_len is_ascii_digit bytes) × IsLongestToken Integer bytes (prefix_len is_ascii_digit bytes)
unsigned_integer bytes some first unsigned =
    let begins = integer_first (get_or bytes 0 0) first unsigned in
    let run = longest_run is_ascii_digit is_ascii_digit bytes some begins begins in
    longest_token Integer bytes (prefix_len is_ascii_digit bytes) (prefix_len-le-length is_ascii_digit bytes)
    (digits_integer bytes _ run.run) (λ m short h. run.longest m short (integer_digits bytes m unsigned h))

-- an integer with a sign is digits behind its first byte
signed_digits : (c : ℕ) (cs : List ℕ) (m : ℕ) → is_sign c ≡ true → IsInteger (take (suc m) (c ∷ cs)) → IsDigits (take m cs)
signed_digits c cs m signed (inl digits) = let digit = digits.0 in absurd (grind (arith, nat_tests))
signed_digits c cs m signed (inr behind) = behind.1

pub signed_integer : (bytes : List ℕ) → 0 < length bytes → is_sign (get_or bytes 0 0) ≡ true → first_kind bytes ≡ Integer → 0 < prefix_len is_ascii_digit (drop 1 bytes)
    → (0 < 1 + prefix_len is_ascii_digit (drop 1 bytes)) × IsLongestToken Integer bytes (1 + prefix_len is_ascii_digit (drop 1 bytes))
signed_integer [] some signed first digits = absurd (omega arith)
signed_integer (c ∷ cs) some signed first digits =
    let n = prefix_len is_ascii_digit cs in
    let begins = prefix_len_passes is_ascii_digit cs 0 0 digits in
    let there : 0 < length cs = omega (arith, digits, prefix_len-le-length is_ascii_digit cs) in
    let run = longest_run is_ascii_digit is_ascii_digit cs there begins begins in
    longest_token Integer (c ∷ cs) (1 + n) (omega (arith, prefix_len-le-length is_ascii_digit cs))
    (subst IsInteger (sym (take_behind c cs n)) (inr (signed, run.run)))
    (λ m short h. within m short h run.longest)
  where
    within : (m : ℕ) → m ≤ length (c ∷ cs) → IsInteger (take m (c ∷ cs)) → ((k : ℕ) → k ≤ length cs → IsDigits (take k cs) → k ≤ prefix_len is_ascii_digit cs) → m ≤ 1 + prefix_len is_ascii_digit cs
    within zero short h longest = omega arith
    within (suc m) short h longest = omega (arith, longest m (omega arith) (signed_digits c cs m signed h))

-- a sign without digits
pub lone_sign : (bytes : List ℕ) → 0 < length bytes → is_sign (get_or bytes 0 0) ≡ true → first_kind bytes ≡ Integer → prefix_len is_ascii_digit (drop 1 bytes) ≡ 0 → BeginsNothing bytes
lone_sign [] some signed first digits = absurd (omega arith)
lone_sign (c ∷ cs) some signed first digits = no_token Integer (c ∷ cs) first (λ e. cc) none
  where
    no_digits : (m : ℕ) (ds : List ℕ) → prefix_len is_ascii_digit ds ≡ 0 → IsDigits (take m ds) → ⊥
    no_digits zero [] empty h = h
    no_digits (suc m) [] empty h = h
    no_digits zero (d ∷ ds) empty h = h
    no_digits (suc m) (d ∷ ds) empty h = let digit = h.0 in omega (arith, rw digit at empty)

    none : (m : ℕ) → IsInteger (take m (c ∷ cs)) → ⊥
    none zero h = h
    none (suc m) h = no_digits m cs digits (signed_digits c cs m signed h)

dollar_behind : (c : ℕ) (cs : List ℕ) (m : ℕ) → IsDollarWord (take m (c ∷ cs)) → (0 < m) × IsLowerWord (take (m - 1) cs)
dollar_behind c cs zero h = absurd h
dollar_behind c cs (suc m) h = (omega arith, subst (λ k. IsLowerWord (take k cs)) (omega arith) h.1)

pub dollar_word : (bytes : List ℕ) → 0 < length bytes → first_kind bytes ≡ Dollar → 0 < length (drop 1 bytes) → is_ascii_lowercase (get_or (drop 1 bytes) 0 0) ≡ true
    → (0 < 1 + prefix_len is_word_byte (drop 1 bytes)) × IsLongestToken Dollar bytes (1 + prefix_len is_word_byte (drop 1 bytes))
dollar_word [] some first more lower = absurd (omega arith)
dollar_word (c ∷ cs) some first more lower =
    let n = prefix_len is_word_byte cs in
    let fills : is_word_byte (get_or cs 0 0) ≡ true = grind (arith, nat_tests) in
    let run = longest_run is_ascii_lowercase is_word_byte cs more lower fills in
    longest_token Dollar (c ∷ cs) (1 + n) (omega (arith, prefix_len-le-length is_word_byte cs))
    (subst IsDollarWord (sym (take_behind c cs n)) (dollar_first c first, run.run))
    (λ m short h. let behind = dollar_behind c cs m h in omega (arith, run.longest (m - 1) (omega arith) behind.1))

-- `$` without a lower word
pub lone_dollar : (bytes : List ℕ) → 0 < length bytes → first_kind bytes ≡ Dollar → (0 < length (drop 1 bytes) → is_ascii_lowercase (get_or (drop 1 bytes) 0 0) ≡ false) → BeginsNothing bytes
lone_dollar [] some first lower = absurd (omega arith)
lone_dollar (c ∷ cs) some first lower = no_token Dollar (c ∷ cs) first (λ e. cc) none
  where
    no_word : (ds : List ℕ) (m : ℕ) → (0 < length ds → is_ascii_lowercase (get_or ds 0 0) ≡ false) → IsLowerWord (take m ds) → ⊥
    no_word [] zero upper h = h
    no_word [] (suc m) upper h = h
    no_word (d ∷ ds) zero upper h = h
    no_word (d ∷ ds) (suc m) upper h = false≢true (sym (upper (omega arith)) ∙ h.0)

    none : (m : ℕ) → IsDollarWord (take m (c ∷ cs)) → ⊥
    none zero h = h
    none (suc m) h = no_word cs m lower h.1
