-- The reading, step by step from a place in the bytes.
use Rattle.std.proofs.Common.{◌≡◌, ℕ, ◌+◌, ◌<◌, List, [], ◌∷◌, length, take, drop, subst, refl, sym, ◌∙◌, arith}
use Rattle.std.proofs.lemmas.List.{drop-drop}
use Rattle.thf_grammar.specs.declared.token.TokenKind.{TokenKind}
use Rattle.thf_grammar.specs.declared.token.TokenKind.TheVariants.{Bad, End}
use Rattle.thf_grammar.specs.declared.token.Token.{Token}
use Rattle.thf_grammar.specs.Longest.{IsLongestToken, IsLongestGap, BeginsNothing}
use Rattle.thf_grammar.specs.Texts.{IsToken}
use Rattle.thf_grammar.proofs.Pieces.{token_front, gap_front}
use Rattle.thf_grammar.specs.Reading.{Reads, gap, token, bad, end, token_at}

pub reads_gap : (bytes : List ℕ) (at n : ℕ) (later : List Token) → IsLongestGap (drop at bytes) n → Reads (at + n) (drop (at + n) bytes) later → Reads at (drop at bytes) later
reads_gap bytes at n later longest h =
    gap at n (drop at bytes) later longest (subst (λ xs. Reads (at + n) xs later) (sym (drop-drop n at bytes)) h)

pub reads_token : (bytes : List ℕ) (kind : TokenKind) (at n : ℕ) (later : List Token) → IsLongestToken kind (drop at bytes) n → Reads (at + n) (drop (at + n) bytes) later → Reads at (drop at bytes) (token_at kind at (at + n) ∷ later)
reads_token bytes kind at n later longest h =
    token kind at n (drop at bytes) later longest (subst (λ xs. Reads (at + n) xs later) (sym (drop-drop n at bytes)) h)

pub reads_bad : (bytes : List ℕ) (at : ℕ) → 0 < length bytes → BeginsNothing bytes → Reads at bytes (token_at Bad at (at + 1) ∷ [])
reads_bad [] at some nothing = absurd (omega arith)
reads_bad (byte ∷ rest) at some nothing = bad at byte rest nothing

pub reads_end : (bytes : List ℕ) (at : ℕ) → bytes ≡ [] → Reads at bytes (token_at End at at ∷ [])
reads_end bytes at empty = subst (λ xs. Reads at xs (token_at End at at ∷ [])) (sym empty) (end at)

gap_or_token : (bytes : List ℕ) (n m : ℕ) (kind : TokenKind) → IsLongestGap bytes n → IsLongestToken kind bytes m → ⊥
gap_or_token bytes n m kind passed read =
    let bad_kind : kind ≡ Bad = sym (token_front kind bytes m read.token).1 ∙ (gap_front bytes n passed.gap).1 in
    subst (λ k. IsToken k (take m bytes)) bad_kind read.token

gap_some : (n : ℕ) → IsLongestGap [] n → ⊥
gap_some n h = omega (arith, (gap_front [] n h.gap).0, h.within)

token_some : (kind : TokenKind) (n : ℕ) → IsLongestToken kind [] n → ⊥
token_some kind n h = omega (arith, (token_front kind [] n h.token).0, h.within)

-- bytes have one reading
pub reads_same : (at : ℕ) (bytes : List ℕ) (ts us : List Token) → Reads at bytes ts → Reads at bytes us → ts ≡ us
reads_same _ _ _ _ (gap at n bytes later one h) (gap _ m _ others other g) =
    let same : m ≡ n = omega (arith, one.longest m other.within other.gap, other.longest n one.within one.gap) in
    reads_same (at + n) (drop n bytes) later others h (subst (λ i. Reads (at + i) (drop i bytes) others) same g)
reads_same _ _ _ _ (gap at n bytes later one h) (token kind _ m _ others other g) = absurd (gap_or_token bytes n m kind one other)
reads_same _ _ _ _ (gap at n bytes later one h) (bad _ byte rest nothing) = absurd (nothing.gap n one.gap)
reads_same _ _ _ _ (gap at n bytes later one h) (end _) = absurd (gap_some n one)
reads_same _ _ _ _ (token kind at n bytes later one h) (gap _ m _ others other g) = absurd (gap_or_token bytes m n kind other one)
reads_same _ _ _ _ (token kind at n bytes later one h) (token kind' _ m _ others other g) =
    let same : m ≡ n = omega (arith, one.longest kind' m other.within other.token, other.longest kind n one.within one.token) in
    let kinds : kind' ≡ kind = sym (token_front kind' bytes m other.token).1 ∙ (token_front kind bytes n one.token).1 in
    let rest = reads_same (at + n) (drop n bytes) later others h (subst (λ i. Reads (at + i) (drop i bytes) others) same g) in
    cc
reads_same _ _ _ _ (token kind at n bytes later one h) (bad _ byte rest nothing) = absurd (nothing.token kind n one.token)
reads_same _ _ _ _ (token kind at n bytes later one h) (end _) = absurd (token_some kind n one)
reads_same _ _ _ _ (bad at byte rest nothing) (gap _ m _ others other g) = absurd (nothing.gap m other.gap)
reads_same _ _ _ _ (bad at byte rest nothing) (token kind _ m _ others other g) = absurd (nothing.token kind m other.token)
reads_same _ _ _ _ (bad at byte rest nothing) (bad _ _ _ _) = refl
reads_same _ _ _ _ (end at) (gap _ m _ others other g) = absurd (gap_some m other)
reads_same _ _ _ _ (end at) (token kind _ m _ others other g) = absurd (token_some kind m other)
reads_same _ _ _ _ (end at) (end _) = refl
