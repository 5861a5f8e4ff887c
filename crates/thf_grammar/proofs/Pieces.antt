-- The longest piece at the front of bytes, from the pieces of its kind alone.
use Rattle.std.proofs.Common.{◌≡◌, ◌≢◌, ℕ, ◌<◌, ◌≤◌, List, length, get_or, take, sym, ap, ◌∙◌, subst, arith}
use Rattle.std.proofs.lemmas.List.{length-take, get_or-take}
use Rattle.thf_grammar.specs.declared.token.TokenKind.{TokenKind}
use Rattle.thf_grammar.specs.declared.token.TokenKind.TheVariants.{Bad}
use Rattle.thf_grammar.specs.Internal.Kind.{kind_of}
use Rattle.thf_grammar.specs.Texts.{IsToken, IsGap}
use Rattle.thf_grammar.specs.Longest.{IsLongestToken, IsLongestGap, BeginsNothing}
use Rattle.thf_grammar.proofs.Firsts.{BeginsAs, token_begins, gap_begins}

-- the kind that begins with the first byte
abbrev pub first_kind : List ℕ → TokenKind
first_kind bytes = kind_of (get_or bytes 0 0)

begins_front : (kind : TokenKind) (bytes : List ℕ) (m : ℕ) → BeginsAs kind (take m bytes) → (0 < m) × (first_kind bytes ≡ kind)
begins_front kind bytes m h =
    let some : 0 < m = omega (arith, h.0, length-take m bytes) in
    (some, ap kind_of (sym (get_or-take m bytes 0 0 some)) ∙ h.1)

-- a token at the front has the kind of the first byte
pub token_front : (kind : TokenKind) (bytes : List ℕ) (m : ℕ) → IsToken kind (take m bytes) → (0 < m) × (first_kind bytes ≡ kind)
token_front kind bytes m h = begins_front kind bytes m (token_begins kind (take m bytes) h)

pub gap_front : (bytes : List ℕ) (m : ℕ) → IsGap (take m bytes) → (0 < m) × (first_kind bytes ≡ Bad)
gap_front bytes m h = begins_front Bad bytes m (gap_begins (take m bytes) h)

pub longest_token : (kind : TokenKind) (bytes : List ℕ) (n : ℕ) → n ≤ length bytes → IsToken kind (take n bytes)
    → ((m : ℕ) → m ≤ length bytes → IsToken kind (take m bytes) → m ≤ n)
    → (0 < n) × IsLongestToken kind bytes n
longest_token kind bytes n within token longest =
    let front = token_front kind bytes n token in (
      front.0,
      record {
        within = within;
        token = token;
        longest = λ other m short h. longest m short (subst (λ k. IsToken k (take m bytes)) (sym (token_front other bytes m h).1 ∙ front.1) h);
      },
    )

pub longest_gap : (bytes : List ℕ) (n : ℕ) → n ≤ length bytes → IsGap (take n bytes)
    → ((m : ℕ) → m ≤ length bytes → IsGap (take m bytes) → m ≤ n)
    → (0 < n) × IsLongestGap bytes n
longest_gap bytes n within gap longest =
    ((gap_front bytes n gap).0, record { within = within; gap = gap; longest = longest })

-- where no token of the first byte's kind is there, nothing is
pub no_token : (kind : TokenKind) (bytes : List ℕ) → first_kind bytes ≡ kind → kind ≢ Bad
    → ((m : ℕ) → IsToken kind (take m bytes) → ⊥) → BeginsNothing bytes
no_token kind bytes first other_kind none = record {
  token = λ other m h. none m (subst (λ k. IsToken k (take m bytes)) (sym (token_front other bytes m h).1 ∙ first) h);
  gap = λ m h. other_kind (sym first ∙ (gap_front bytes m h).1);
}

pub no_gap : (bytes : List ℕ) → first_kind bytes ≡ Bad → ((m : ℕ) → IsGap (take m bytes) → ⊥) → BeginsNothing bytes
no_gap bytes first none = record {
  token = λ other m h. subst (λ k. IsToken k (take m bytes)) (sym (token_front other bytes m h).1 ∙ first) h;
  gap = none;
}
