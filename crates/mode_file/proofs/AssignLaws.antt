-- The number that a line assigns to a name, and that it assigns no other.
use Rattle.std.proofs.Common.{◌≡◌, ℕ, ◌≤◌, ◌^◌, Bool, true, false, List, ◌∷◌, ◌++◌, replicate, Some, None, refl, sym, ap, ◌∙◌, arith, nat_lt, if◌then◌else◌}
use Rattle.std.proofs.lemmas.Bool.Decides.{nat_tests}
use Rattle.std.proofs.lemmas.List.{append_cancel_left}
use Rattle.outside.specs.Fronts.{behind_front}
use Rattle.outside.specs.Decimal.{is_decimal, number_from}
use Rattle.mode_file.specs.declared.bytes.ByteClass.TheVariants.{InWord}
use Rattle.mode_file.specs.declared.number.NumberRefused.TheVariants.{Missing, TooGreat}
use Rattle.mode_file.specs.Internal.Fronts.{is_in}
use Rattle.mode_file.specs.Internal.Reader.{digits_in}
use Rattle.mode_file.specs.Grammar.{first_word, Assigns, HasNoNumber}
use Rattle.mode_file.proofs.NumeralLaws.{front-after, number_stands, number_found}

-- the digits that are assigned to a first word stand behind it
pub assigned_digits : (line name : List ℕ) (n : ℕ) (s : Assigns line name n) → first_word line ≡ name → digits_in (behind_front (is_in InWord) line) ≡ Some s.digits
assigned_digits line name n s named =
    let rest = replicate s.gap 32 ++ (s.digits ++ (replicate s.spaces 32 ++ s.ending)) in
    let parted : name ++ behind_front (is_in InWord) line ≡ name ++ (32 ∷ rest) = ap (λ (w : List ℕ). w ++ behind_front (is_in InWord) line) (sym named) ∙ front-after (is_in InWord) line ∙ s.line_is in
    ap digits_in (append_cancel_left name (behind_front (is_in InWord) line) (32 ∷ rest) parted)
    ∙ number_found (32 ∷ rest) s.digits (record { gap = s.gap; spaces = s.spaces; ending = s.ending; bytes_are = refl; decimal = s.decimal; ends = s.ends })

-- and what stands behind a first word is assigned to it
pub assigned : (line digits : List ℕ) → digits_in (behind_front (is_in InWord) line) ≡ Some digits → Assigns line (first_word line) (number_from 0 digits)
assigned line digits h =
    let stands = number_stands (behind_front (is_in InWord) line) digits h in
    record {
      gap = stands.gap;
      digits = digits;
      spaces = stands.spaces;
      ending = stands.ending;
      line_is = sym (front-after (is_in InWord) line) ∙ ap (λ (r : List ℕ). first_word line ++ r) stands.bytes_are;
      decimal = stands.decimal;
      number_is = refl;
      ends = stands.ends;
    }

pub one_assigned : (line name : List ℕ) (m n : ℕ) → first_word line ≡ name → Assigns line name m → Assigns line name n → m ≡ n
one_assigned line name m n named s t =
    let first = assigned_digits line name m s named in
    let second = assigned_digits line name n t named in
    let same : s.digits ≡ t.digits = cc in
    sym s.number_is ∙ ap (number_from 0) same ∙ t.number_is

pub decimal : (bytes digits : List ℕ) → digits_in bytes ≡ Some digits → is_decimal digits ≡ true
decimal bytes digits h = (number_stands bytes digits h).decimal

-- a number that is read is the number of its digits, and one that isn't read is too great for 64 bits
within : (n m : ℕ) → Some n ≡ (if nat_lt m (2 ^ 64) then Some m else None) → n ≡ m
within n m h = go (nat_lt m (2 ^ 64)) h
  where
    go : (b : Bool) → Some n ≡ (if b then Some m else None) → n ≡ m
    go true e = cc
    go false e = absurd (cc)

beyond : (m : ℕ) → None ≡ (if nat_lt m (2 ^ 64) then Some m else None) → 2 ^ 64 ≤ m
beyond m h = go (nat_lt m (2 ^ 64)) refl h
  where
    go : (b : Bool) → nat_lt m (2 ^ 64) ≡ b → None ≡ (if b then Some m else None) → 2 ^ 64 ≤ m
    go true t e = absurd (cc)
    go false t e = grind (arith, nat_tests, t)

pub no_number : (line : List ℕ) → digits_in (behind_front (is_in InWord) line) ≡ None → HasNoNumber line Missing
no_number line none = λ n s. let some = assigned_digits line (first_word line) n s refl in absurd (cc)

module _ (line digits : List ℕ) (there : digits_in (behind_front (is_in InWord) line) ≡ Some digits) where
  pub number_read : (n : ℕ) → Some n ≡ (if nat_lt (number_from 0 digits) (2 ^ 64) then Some (number_from 0 digits) else None) → Assigns line (first_word line) n
  number_read n h = rw (within n (number_from 0 digits) h) (assigned line digits there)

  pub too_great : None ≡ (if nat_lt (number_from 0 digits) (2 ^ 64) then Some (number_from 0 digits) else None) → HasNoNumber line TooGreat
  too_great h = (number_from 0 digits, assigned line digits there, beyond (number_from 0 digits) h)
