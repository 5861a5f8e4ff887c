-- The longest white space or comment at the front of bytes.
use Rattle.std.proofs.Common.{◌≡◌, ◌≢◌, ℕ, zero, suc, ◌+◌, ◌-◌, ◌<◌, ◌≤◌, true, false, ◌⊎◌, inl, inr, List, [], ◌∷◌, length, get_or, take, sym, ap, ◌∙◌, subst, arith, eqb}
use Rattle.std.specs.List.{prefix_len}
use Rattle.std.proofs.lemmas.Bool.{cases_order}
use Rattle.std.proofs.lemmas.Bool.Decides.{nat_tests}
use Rattle.std.proofs.lemmas.List.{length-take, length-take-le, get_or-take}
use Rattle.std.proofs.lemmas.List.Sums.{prefix_len-le-length}
use Rattle.thf_grammar.specs.declared.token.TokenKind.TheVariants.{Bad}
use Rattle.thf_grammar.specs.Bytes.{is_white_space, is_in_line, percent, slash}
use Rattle.thf_grammar.specs.Internal.Kind.{kind_of}
use Rattle.thf_grammar.specs.Texts.{IsWhiteSpace, IsLineComment, IsBlockComment, IsClosedAt, IsGap}
use Rattle.thf_grammar.specs.Longest.{IsLongestGap, BeginsNothing}
use Rattle.thf_grammar.proofs.Pieces.{first_kind, longest_gap, no_gap}
use Rattle.thf_grammar.proofs.Runs.{longest_run}

-- the three kinds of gap by the first byte
first_white : (bytes : List ℕ) (m : ℕ) → IsWhiteSpace (take m bytes) → is_white_space (get_or bytes 0 0) ≡ true
first_white [] zero h = absurd h
first_white [] (suc m) h = absurd h
first_white (c ∷ cs) zero h = absurd h
first_white (c ∷ cs) (suc m) h = h.0

first_percent : (bytes : List ℕ) (m : ℕ) → IsLineComment (take m bytes) → get_or bytes 0 0 ≡ percent
first_percent [] zero h = absurd h
first_percent [] (suc m) h = absurd h
first_percent (c ∷ cs) zero h = absurd h
first_percent (c ∷ cs) (suc m) h = let begins = h.0 in grind (arith, nat_tests)

first_slash : (bytes : List ℕ) (m : ℕ) → IsBlockComment (take m bytes) → get_or bytes 0 0 ≡ slash
first_slash bytes m h =
    let some : 0 < m = omega (arith, h.long, length-take m bytes) in
    sym (get_or-take m bytes 0 0 some) ∙ h.slash_first

-- a gap whose first byte is known is of the kind of that byte
white_only : (bytes : List ℕ) (m : ℕ) → is_white_space (get_or bytes 0 0) ≡ true → IsGap (take m bytes) → IsWhiteSpace (take m bytes)
white_only bytes m white (inl h) = h
white_only bytes m white (inr (inl h)) = let begins = first_percent bytes m h in absurd (grind (arith, nat_tests))
white_only bytes m white (inr (inr h)) = let begins = first_slash bytes m h in absurd (grind (arith, nat_tests))

line_only : (bytes : List ℕ) (m : ℕ) → get_or bytes 0 0 ≡ percent → IsGap (take m bytes) → IsLineComment (take m bytes)
line_only bytes m begun (inl h) = let white = first_white bytes m h in absurd (grind (arith, nat_tests))
line_only bytes m begun (inr (inl h)) = h
line_only bytes m begun (inr (inr h)) = let begins = first_slash bytes m h in absurd (omega arith)

block_only : (bytes : List ℕ) (m : ℕ) → get_or bytes 0 0 ≡ slash → IsGap (take m bytes) → IsBlockComment (take m bytes)
block_only bytes m begun (inl h) = let white = first_white bytes m h in absurd (grind (arith, nat_tests))
block_only bytes m begun (inr (inl h)) = let begins = first_percent bytes m h in absurd (omega arith)
block_only bytes m begun (inr (inr h)) = h

pub white_space : (bytes : List ℕ) → 0 < length bytes → is_white_space (get_or bytes 0 0) ≡ true
    → (0 < prefix_len is_white_space bytes) × IsLongestGap bytes (prefix_len is_white_space bytes)
white_space bytes some white =
    let run = longest_run is_white_space is_white_space bytes some white white in
    longest_gap bytes (prefix_len is_white_space bytes) (prefix_len-le-length is_white_space bytes) (inl run.run)
    (λ m short h. run.longest m short (white_only bytes m white h))

pub line_comment : (bytes : List ℕ) → 0 < length bytes → get_or bytes 0 0 ≡ percent
    → (0 < prefix_len is_in_line bytes) × IsLongestGap bytes (prefix_len is_in_line bytes)
line_comment bytes some begun =
    let marks : eqb (get_or bytes 0 0) percent ≡ true = grind (arith, nat_tests) in
    let fills : is_in_line (get_or bytes 0 0) ≡ true = grind (arith, nat_tests) in
    let run = longest_run (λ c. eqb c percent) is_in_line bytes some marks fills in
    longest_gap bytes (prefix_len is_in_line bytes) (prefix_len-le-length is_in_line bytes) (inr (inl run.run))
    (λ m short h. run.longest m short (line_only bytes m begun h))

-- a comment that is closed goes on no longer
block_ends : (bytes : List ℕ) (n m : ℕ) → n ≤ length bytes → m ≤ length bytes → IsBlockComment (take n bytes) → IsBlockComment (take m bytes) → m ≤ n
block_ends bytes n m n_within m_within h other = by_order (cases_order n m)
  where
    same_byte : (i : ℕ) → (i < n) × (n < m) → get_or (take m bytes) i 0 ≡ get_or (take n bytes) i 0
    same_byte i h = get_or-take m bytes i 0 (omega arith) ∙ sym (get_or-take n bytes i 0 h.0)

    by_order : (n ≡ m) ⊎ ((n < m) ⊎ (m < n)) → m ≤ n
    by_order (inl same) = omega arith
    by_order (inr (inr less)) = omega arith
    by_order (inr (inl more)) =
        let n_long : length (take n bytes) ≡ n = length-take-le n bytes n_within in
        let m_long : length (take m bytes) ≡ m = length-take-le m bytes m_within in
        let i = n - 2 in
        let long : 4 ≤ n = omega (arith, h.long) in
        let closed : IsClosedAt (take n bytes) i = subst (λ k. IsClosedAt (take n bytes) (k - 2)) n_long h.closed in
        absurd (other.next i (omega arith) (omega arith) (same_byte i (omega arith, more) ∙ closed.0, same_byte (i + 1) (omega arith, more) ∙ closed.1))

pub block_comment : (bytes : List ℕ) (n : ℕ) → n ≤ length bytes → IsBlockComment (take n bytes) → (0 < n) × IsLongestGap bytes n
block_comment bytes n within h =
    longest_gap bytes n within (inr (inr h)) (λ m short gap. block_ends bytes n m within short h (block_only bytes m (first_slash bytes n h) gap))

pub lone_slash : (bytes : List ℕ) → get_or bytes 0 0 ≡ slash → ((m : ℕ) → IsBlockComment (take m bytes) → ⊥) → BeginsNothing bytes
lone_slash bytes begun none = no_gap bytes (ap kind_of begun) (λ m h. none m (block_only bytes m begun h))

pub odd_byte : (bytes : List ℕ) → first_kind bytes ≡ Bad → get_or bytes 0 0 ≢ percent → get_or bytes 0 0 ≢ slash → is_white_space (get_or bytes 0 0) ≡ false → BeginsNothing bytes
odd_byte bytes first no_percent no_slash no_white = no_gap bytes first none
  where
    none : (m : ℕ) → IsGap (take m bytes) → ⊥
    none m (inl h) = let white = first_white bytes m h in cc
    none m (inr (inl h)) = no_percent (first_percent bytes m h)
    none m (inr (inr h)) = no_slash (first_slash bytes m h)
