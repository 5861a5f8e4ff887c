-- Facts about the clauses that were learned last.
use Rattle.std.proofs.Common.{◌≡◌, ◌<◌, ◌++◌, ◌+◌, ◌-◌, ◌*◌, ◌/◌, ◌%◌, ◌^◌, ℕ, zero, suc, List, [], ◌∷◌, Some, inl, inr, length, take, get_or, set, refl, sym, ap, subst, ◌∙◌, arith, append_assoc, length-set}
use Rattle.std.specs.List.{Contains, slice_get}
use Rattle.std.specs.Int.Bits.{bit_and, bit_or, and_self, and_zero_r, or_zero_l, or_zero_r}
use Rattle.std.proofs.Math.Nat.{mod-eq_of_lt, mod-lt}
use Rattle.std.proofs.Math.Pow.{pow-lt}
use Rattle.std.proofs.lemmas.List.{append-nil, get_or-set_same}
use Rattle.std.proofs.lemmas.Bool.{cases_lt}
use Rattle.std.proofs.lemmas.Nat.{and-not, and_comm}
use Rattle.std.specs.Int.{bit_at}
use Rattle.std.proofs.lemmas.Nat.Bits.{bit_at-lt, bit_at_or, same_from_bits}
use Rattle.std.proofs.lemmas.Option.{slice_get-get_or}
use Rattle.std.proofs.lemmas.List.Elements.{Contains-append_left, All-append, All-nil}
use Rattle.sat_propagate.specs.declared.recent.Block.{Block}
use Rattle.sat_base.specs.declared.literal.SatLit.{SatLit}
use Rattle.sat_laws.specs.Internal.Packing.{packed}
use Rattle.sat_propagate.specs.Internal.Recent.{literal_bit, signature, HasBits, AppendsCovered}

pub appends_none : (blocks : List Block) (clauses : List ℕ) (bits : ℕ) (xs : List ℕ) → AppendsCovered blocks clauses bits xs xs
appends_none blocks clauses bits xs = record { more = []; appended = sym (append-nil xs); covered = All-nil (λ n. HasBits blocks clauses bits n) }

pub appends_more : (blocks : List Block) (clauses : List ℕ) (bits : ℕ) (xs ys zs : List ℕ)
    → AppendsCovered blocks clauses bits xs ys → AppendsCovered blocks clauses bits ys zs → AppendsCovered blocks clauses bits xs zs
appends_more blocks clauses bits xs ys zs a b = record {
  more = a.more ++ b.more;
  appended = b.appended ∙ ap (λ (list : List ℕ). list ++ b.more) a.appended ∙ append_assoc xs a.more b.more;
  covered = All-append (λ n. HasBits blocks clauses bits n) a.more b.more a.covered b.covered;
}

-- what stood in the list is in the longer one
pub appends_contains : (blocks : List Block) (clauses : List ℕ) (bits n : ℕ) (xs ys : List ℕ) → AppendsCovered blocks clauses bits xs ys → Contains xs n → Contains ys n
appends_contains blocks clauses bits n xs ys a h = subst (λ (zs : List ℕ). Contains zs n) (sym a.appended) (Contains-append_left xs a.more n h)

-- an element that was read by its place
pub slice_get-read : {X : Type 0} (xs ys : List X) (i : ℕ) (x : X) → xs ≡ ys → i < length xs × ((d : X) → x ≡ get_or xs i d) → slice_get ys i ≡ Some x
slice_get-read xs ys i x same read = ap (λ (zs : List _). slice_get zs i) (sym same) ∙ slice_get-get_or xs i x read.0 ∙ ap Some (sym (read.1 x))

-- one clause more that has the bits, by its place in a block
pub appends_one : (blocks : List Block) (clauses : List ℕ) (bits at i start n : ℕ) (block : Block) (xs ys zs : List ℕ)
    → slice_get blocks at ≡ Some block → slice_get clauses (start + i) ≡ Some n → start ≡ at * 8 → i < 8 → bit_and bits (get_or block.absent i 0) ≡ 0
    → zs ≡ ys ++ n ∷ [] → AppendsCovered blocks clauses bits xs ys → AppendsCovered blocks clauses bits xs zs
appends_one blocks clauses bits at i start n block xs ys zs beside there first h absent last before =
    let row : (start + i) / 8 ≡ at = omega (arith, first) in
    let column : (start + i) % 8 ≡ i = omega (arith, first) in
    let covered : HasBits blocks clauses bits n = record {
      place = start + i;
      block = block;
      clause = there;
      beside = ap (slice_get blocks) row ∙ beside;
      bits_are_there = ap (λ k. bit_and bits (get_or block.absent k 0)) column ∙ absent;
    } in
    appends_more blocks clauses bits xs ys zs before (record {
      more = n ∷ [];
      appended = last;
      covered = λ k d within. first_is k d within covered;
    })
  where
    first_is : (k d : ℕ) → k < length (n ∷ []) → HasBits blocks clauses bits n → HasBits blocks clauses bits (get_or (n ∷ []) k d)
    first_is zero d h covered = covered
    first_is (suc k) d h covered = absurd (omega arith)

or-assoc : (a b c : ℕ) → bit_or (bit_or a b) c ≡ bit_or a (bit_or b c)
or-assoc a b c =
    same_from_bits (bit_or (bit_or a b) c) (bit_or a (bit_or b c))
    (λ i. omega (arith, bit_at_or (bit_or a b) c i, bit_at_or a b i, bit_at_or a (bit_or b c) i, bit_at_or b c i))

signature-next : (ls : List SatLit) (k : ℕ) (d : SatLit) → k < length ls → signature (take (suc k) ls) ≡ bit_or (signature (take k ls)) (literal_bit (get_or ls k d))
signature-next [] k d h = absurd (omega arith)
signature-next (l ∷ ls) zero d h = or_zero_r (literal_bit l) ∙ sym (or_zero_l (literal_bit l))
signature-next (l ∷ ls) (suc k) d h =
    ap (bit_or (literal_bit l)) (signature-next ls k d (omega arith))
    ∙ sym (or-assoc (literal_bit l) (signature (take k ls)) (literal_bit (get_or ls k d)))

-- one of the 64 bits, as it is computed
bit_fits : (k : ℕ) → 1 * 2 ^ (k % 64) % 2 ^ 64 ≡ 2 ^ (k % 64)
bit_fits k =
    let one : 1 * 2 ^ (k % 64) ≡ 2 ^ (k % 64) = omega arith in
    ap (λ n. n % 2 ^ 64) one ∙ mod-eq_of_lt (pow-lt (mod-lt k (omega arith)))

-- the bits of one literal more
pub signature_on : (ls : List SatLit) (k bits number : ℕ) (l d : SatLit) → k < length ls → l ≡ get_or ls k d → number ≡ packed l → bits ≡ signature (take k ls) → bit_or bits (1 * 2 ^ (number * 2654435761 % 2 ^ 64 / 2 ^ 26 % 64) % 2 ^ 64) ≡ signature (take (k + 1) ls)
signature_on ls k bits number l d h there as_number so =
    let long : suc k ≡ k + 1 = omega arith in
    ap (bit_or bits) (bit_fits (number * 2654435761 % 2 ^ 64 / 2 ^ 26))
    ∙ ap (λ n. bit_or bits (2 ^ (n * 2654435761 % 2 ^ 64 / 2 ^ 26 % 64))) as_number
    ∙ ap (λ (x : SatLit). bit_or bits (literal_bit x)) there
    ∙ ap (λ n. bit_or n (literal_bit (get_or ls k d))) so
    ∙ sym (signature-next ls k d h)
    ∙ ap (λ n. signature (take n ls)) long

-- no bit is in what is absent of it
and-absent : (bits : ℕ) → bits < 2 ^ 64 → bit_and bits (18446744073709551615 - bits) ≡ 0
and-absent bits fits =
    let sum : bit_and (2 ^ 64 - 1 - bits) bits + bit_and bits bits ≡ bits = and-not 64 bits bits fits fits in
    and_comm bits (18446744073709551615 - bits) ∙ omega (arith, sum, and_self bits)

written : (bits : ℕ) (xs : List ℕ) (i y : ℕ) → bit_and bits y ≡ 0 → bit_and bits (get_or (set xs i y) i 0) ≡ 0
written bits [] i y h = and_zero_r bits
written bits (x ∷ xs) zero y h = h
written bits (x ∷ xs) (suc i) y h = written bits xs i y h

-- a clause that was written with its bits is covered by them
pub has_bits_written : (blocks : List Block) (clauses : List ℕ) (place bits n : ℕ) (block : Block)
    → place / 8 < length blocks → bits < 2 ^ 64 → slice_get clauses place ≡ Some n
    → HasBits (set blocks (place / 8) (record { absent = set block.absent (place % 8) (18446744073709551615 - bits) })) clauses bits n
has_bits_written blocks clauses place bits n block within fits there =
    let now : Block = record { absent = set block.absent (place % 8) (18446744073709551615 - bits) } in
    let inside : place / 8 < length (set blocks (place / 8) now) = omega (arith, within, length-set blocks (place / 8) now) in
    record {
      place = place;
      block = now;
      clause = there;
      beside = slice_get-get_or (set blocks (place / 8) now) (place / 8) now inside ∙ ap Some (get_or-set_same blocks (place / 8) now now within);
      bits_are_there = written bits block.absent (place % 8) (18446744073709551615 - bits) (and-absent bits fits);
    }

-- the clauses of the first places of a block that have the bits are found
abbrev pub FoundBelow : List Block → List ℕ → ℕ → ℕ → ℕ → List ℕ → Type 0
FoundBelow blocks clauses bits at i found = (n : ℕ) (h : HasBits blocks clauses bits n) → h.place / 8 ≡ at → h.place % 8 < i → Contains found n

-- one place more
pub found_below-next : (blocks : List Block) (clauses : List ℕ) (bits at i : ℕ) (before after : List ℕ) → FoundBelow blocks clauses bits at i before
    → ((n : ℕ) → Contains before n → Contains after n)
    → ((n : ℕ) (h : HasBits blocks clauses bits n) → h.place / 8 ≡ at → h.place % 8 ≡ i → Contains after n)
    → FoundBelow blocks clauses bits at (i + 1) after
found_below-next blocks clauses bits at i before after so longer now n h row within =
    elim (cases_lt (h.place % 8) i) [
      | inl less ↦ longer n (so n h row less)
      | inr least ↦ now n h row (omega (arith, within, least))
    ]

-- the bits are there in the block that stands beside the clause
pub bits_beside : (blocks : List Block) (clauses : List ℕ) (bits n at i : ℕ) (block : Block) (h : HasBits blocks clauses bits n) → slice_get blocks at ≡ Some block
    → h.place / 8 ≡ at → h.place % 8 ≡ i → bit_and bits (get_or block.absent i 0) ≡ 0
bits_beside blocks clauses bits n at i block h beside row column =
    let known : Some h.block ≡ Some block = sym h.beside ∙ ap (slice_get blocks) row ∙ beside in
    let same : h.block ≡ block = cc in
    sym (ap (λ (b : Block). bit_and bits (get_or b.absent i 0)) same) ∙ sym (ap (λ k. bit_and bits (get_or h.block.absent k 0)) column) ∙ h.bits_are_there

-- the clause at the place is the one that was found
pub clause_beside : (blocks : List Block) (clauses : List ℕ) (bits n m place : ℕ) (h : HasBits blocks clauses bits n) → slice_get clauses place ≡ Some m → h.place ≡ place → n ≡ m
clause_beside blocks clauses bits n m place h there same =
    let known : Some n ≡ Some m = sym h.clause ∙ ap (slice_get clauses) same ∙ there in
    cc

-- the bit at the top stays
pub top_kept : (tops more : ℕ) → bit_at tops 63 ≡ 1 → bit_at (bit_or tops more) 63 ≡ 1
top_kept tops more h = omega (arith, bit_at_or tops more 63, bit_at-lt more 63, h)

-- and it comes where nothing is lacking
pub top_new : (tops lacking : ℕ) → lacking ≡ 0 → bit_at (bit_or tops (bit_and ((lacking + 18446744073709551615) % 18446744073709551616) (18446744073709551615 - lacking))) 63 ≡ 1
top_new tops lacking e =
    let all : bit_at 18446744073709551615 63 ≡ 1 = refl in
    ap (λ n. bit_at (bit_or tops (bit_and ((n + 18446744073709551615) % 18446744073709551616) (18446744073709551615 - n))) 63) e
    ∙ omega (arith, bit_at_or tops 18446744073709551615 63, bit_at-lt tops 63, all)
