-- The digits behind a key: what is read is what stands there.
use Rattle.std.proofs.Common.{◌≡◌, ◌⊎◌, inl, inr, ℕ, zero, suc, ◌==◌, ◌&&◌, not, Bool, true, false, List, [], ◌∷◌, ◌++◌, replicate, length, Some, None, refl, sym, ap, ◌∙◌, subst, arith, if◌then◌else◌}
use Rattle.std.specs.List.{list_all}
use Rattle.std.proofs.lemmas.Bool.{and_parts}
use Rattle.std.proofs.lemmas.Bool.Decides.{nat_tests}
use Rattle.outside.specs.Fronts.{front, behind_front}
use Rattle.outside.specs.Decimal.{is_digit, is_decimal}
use Rattle.mode_file.specs.Internal.Fronts.{is_space}
use Rattle.mode_file.specs.Internal.Reader.{has_no_bytes, is_ending, behind_spaces, digits_in}
use Rattle.mode_file.proofs.Numbers.{digits_of}

pub front-after : (p : ℕ → Bool) (xs : List ℕ) → front p xs ++ behind_front p xs ≡ xs
front-after p [] = refl
front-after p (x ∷ xs) = go (p x) (front-after p xs)
  where
    go : (b : Bool) → front p xs ++ behind_front p xs ≡ xs → (if b then x ∷ front p xs else []) ++ (if b then behind_front p xs else x ∷ xs) ≡ x ∷ xs
    go true h = ap (λ (ys : List ℕ). x ∷ ys) h
    go false h = refl

list_all-front : (p : ℕ → Bool) (xs : List ℕ) → list_all p (front p xs) ≡ true
list_all-front p [] = refl
list_all-front p (x ∷ xs) = go (p x) refl (list_all-front p xs)
  where
    go : (b : Bool) → p x ≡ b → list_all p (front p xs) ≡ true → list_all p (if b then x ∷ front p xs else []) ≡ true
    go true e h = simp (e, h)
    go false e h = refl

space_is : (c : ℕ) → (c == 32) ≡ true → c ≡ 32
space_is c h = grind (arith, nat_tests, h)

return_is : (c : ℕ) → (c == 13) ≡ true → c ≡ 13
return_is c h = grind (arith, nat_tests, h)

spaces_are : (xs : List ℕ) → list_all is_space xs ≡ true → xs ≡ replicate (length xs) 32
spaces_are [] h = refl
spaces_are (c ∷ cs) h =
    let parts = and_parts (c == 32) (list_all is_space cs) h in
    ap (λ (x : ℕ). x ∷ cs) (space_is c parts.0) ∙ ap (λ (xs : List ℕ). 32 ∷ xs) (spaces_are cs parts.1)

ending_is : (xs : List ℕ) → is_ending xs ≡ true → (xs ≡ []) ⊎ (xs ≡ 13 ∷ [])
ending_is [] h = inl refl
ending_is (c ∷ []) h = inr (ap (λ (x : ℕ). x ∷ []) (return_is c h))
ending_is (c ∷ d ∷ ds) h = absurd (cc)

-- the digits of a number stand behind some spaces, and before any spaces and at most one carriage return
pub record NumberStands (bytes digits : List ℕ) : Type 0 where
  pub gap : ℕ
  pub spaces : ℕ
  pub ending : List ℕ
  pub bytes_are : bytes ≡ replicate (suc gap) 32 ++ (digits ++ (replicate spaces 32 ++ ending))
  pub decimal : is_decimal digits ≡ true
  pub ends : (ending ≡ []) ⊎ (ending ≡ 13 ∷ [])

some_spaces : (xs : List ℕ) → not (has_no_bytes xs) ≡ true → list_all is_space xs ≡ true → (gap : ℕ) × (xs ≡ replicate (suc gap) 32)
some_spaces [] h k = absurd (cc)
some_spaces (c ∷ cs) h k = (length cs, spaces_are (c ∷ cs) k)

parted : (bytes : List ℕ) → not (has_no_bytes (front is_space bytes)) ≡ true → is_decimal (front is_digit (behind_spaces bytes)) ≡ true → is_ending (behind_spaces (behind_front is_digit (behind_spaces bytes))) ≡ true → NumberStands bytes (front is_digit (behind_spaces bytes))
parted bytes some decimal ending =
    let gap = some_spaces (front is_space bytes) some (list_all-front is_space bytes) in
    let rest = behind_spaces bytes in
    let tail = behind_front is_digit rest in
    record {
      gap = gap.0;
      spaces = length (front is_space tail);
      ending = behind_front is_space tail;
      bytes_are =
          sym (front-after is_space bytes)
          ∙ ap (λ (xs : List ℕ). xs ++ rest) gap.1
          ∙ ap (λ (xs : List ℕ). replicate (suc gap.0) 32 ++ xs)
          (sym (front-after is_digit rest)
          ∙ ap (λ (xs : List ℕ). front is_digit rest ++ xs)
          (sym (front-after is_space tail) ∙ ap (λ (xs : List ℕ). xs ++ behind_front is_space tail) (spaces_are (front is_space tail) (list_all-front is_space tail))));
      decimal = decimal;
      ends = ending_is (behind_front is_space tail) ending;
    }

pub number_stands : (bytes digits : List ℕ) → digits_in bytes ≡ Some digits → NumberStands bytes digits
number_stands bytes digits h =
    go (not (has_no_bytes (front is_space bytes))) (is_decimal (front is_digit (behind_spaces bytes))) (is_ending (behind_spaces (behind_front is_digit (behind_spaces bytes)))) refl refl refl h
  where
    go : (a b c : Bool) → not (has_no_bytes (front is_space bytes)) ≡ a → is_decimal (front is_digit (behind_spaces bytes)) ≡ b → is_ending (behind_spaces (behind_front is_digit (behind_spaces bytes))) ≡ c → (if a && b && c then Some (front is_digit (behind_spaces bytes)) else None) ≡ Some digits → NumberStands bytes digits
    go true true true some decimal ending e =
        let same : front is_digit (behind_spaces bytes) ≡ digits = cc in
        subst (NumberStands bytes) same (parted bytes some decimal ending)
    go true true false some decimal ending e = absurd (cc)
    go true false c some decimal ending e = absurd (cc)
    go false b c some decimal ending e = absurd (cc)

-- and what stands there is read
after-spaces : (n : ℕ) (xs : List ℕ) → behind_front is_space (replicate n 32 ++ xs) ≡ behind_front is_space xs
after-spaces zero xs = refl
after-spaces (suc n) xs = after-spaces n xs

other_than_space : (c : ℕ) → is_digit c ≡ true → (c == 32) ≡ false
other_than_space c h = grind (arith, nat_tests, h)

digits_stay : (digits xs : List ℕ) → list_all is_digit digits ≡ true → is_decimal digits ≡ true → behind_front is_space (digits ++ xs) ≡ digits ++ xs
digits_stay [] xs h k = absurd (cc)
digits_stay (c ∷ cs) xs h k =
    let parts = and_parts (is_digit c) (list_all is_digit cs) h in
    ap (λ b. if b then behind_front is_space (cs ++ xs) else c ∷ (cs ++ xs)) (other_than_space c parts.0)

digits_front : (digits xs : List ℕ) → list_all is_digit digits ≡ true → front is_digit xs ≡ [] → front is_digit (digits ++ xs) ≡ digits
digits_front [] xs h k = k
digits_front (c ∷ cs) xs h k =
    let parts = and_parts (is_digit c) (list_all is_digit cs) h in
    ap (λ b. if b then c ∷ front is_digit (cs ++ xs) else []) parts.0 ∙ ap (λ (ys : List ℕ). c ∷ ys) (digits_front cs xs parts.1 k)

digits_after : (digits xs : List ℕ) → list_all is_digit digits ≡ true → behind_front is_digit xs ≡ xs → behind_front is_digit (digits ++ xs) ≡ xs
digits_after [] xs h k = k
digits_after (c ∷ cs) xs h k =
    let parts = and_parts (is_digit c) (list_all is_digit cs) h in
    ap (λ b. if b then behind_front is_digit (cs ++ xs) else c ∷ (cs ++ xs)) parts.0 ∙ digits_after cs xs parts.1 k

-- what follows the digits
record IsTail (tail ending : List ℕ) : Type 0 where
  no_digit : front is_digit tail ≡ []
  stays : behind_front is_digit tail ≡ tail
  leaves : is_ending (behind_front is_space tail) ≡ true

ending_tail : (ending : List ℕ) → (ending ≡ []) ⊎ (ending ≡ 13 ∷ []) → IsTail ending ending
ending_tail ending (inl e) = subst (λ (x : List ℕ). IsTail x x) (sym e) (record { no_digit = refl; stays = refl; leaves = refl })
ending_tail ending (inr e) = subst (λ (x : List ℕ). IsTail x x) (sym e) (record { no_digit = refl; stays = refl; leaves = refl })

tail_is : (n : ℕ) (ending : List ℕ) → (ending ≡ []) ⊎ (ending ≡ 13 ∷ []) → IsTail (replicate n 32 ++ ending) ending
tail_is zero ending ends = ending_tail ending ends
tail_is (suc n) ending ends =
    let rest = ending_tail ending ends in
    record { no_digit = refl; stays = refl; leaves = ap is_ending (after-spaces n ending) ∙ rest.leaves }

pub number_found : (bytes digits : List ℕ) → NumberStands bytes digits → digits_in bytes ≡ Some digits
number_found bytes digits s =
    let tail = replicate s.spaces 32 ++ s.ending in
    let all = (digits_of digits s.decimal).0 in
    let is_tail = tail_is s.spaces s.ending s.ends in
    let behind : behind_spaces (replicate (suc s.gap) 32 ++ (digits ++ tail)) ≡ digits ++ tail = after-spaces (suc s.gap) (digits ++ tail) ∙ digits_stay digits tail all s.decimal in
    let digits_are = ap (front is_digit) behind ∙ digits_front digits tail all is_tail.no_digit in
    let tail_are = ap (behind_front is_digit) behind ∙ digits_after digits tail all is_tail.stays in
    ap digits_in s.bytes_are
    ∙ ap (λ (xs : List ℕ). if is_decimal xs && is_ending (behind_spaces (behind_front is_digit (behind_spaces (replicate (suc s.gap) 32 ++ (digits ++ tail))))) then Some xs else None) digits_are
    ∙ ap (λ (xs : List ℕ). if is_decimal digits && is_ending (behind_spaces xs) then Some digits else None) tail_are
    ∙ ap (λ b. if b && is_ending (behind_spaces tail) then Some digits else None) s.decimal
    ∙ ap (λ b. if b then Some digits else None) is_tail.leaves

-- the parts into which bytes are split, one prefix after the other
pub record IsSplit (bytes gap rest digits tail ending : List ℕ) : Type 0 where
  pub gap_is : gap ≡ front is_space bytes
  pub rest_is : rest ≡ behind_front is_space bytes
  pub digits_are : digits ≡ front is_digit rest
  pub tail_is : tail ≡ behind_front is_digit rest
  pub ending_is : ending ≡ behind_front is_space tail

digits_by : (bytes gap rest digits tail ending : List ℕ) → IsSplit bytes gap rest digits tail ending → (if not (has_no_bytes gap) && is_decimal digits && is_ending ending then Some digits else None) ≡ digits_in bytes
digits_by bytes gap rest digits tail ending s =
    let rest_is = s.rest_is in
    let gap_is = s.gap_is in
    let digits_are : digits ≡ front is_digit (behind_front is_space bytes) = s.digits_are ∙ ap (front is_digit) s.rest_is in
    let ending_is : ending ≡ behind_front is_space (behind_front is_digit (behind_front is_space bytes)) = s.ending_is ∙ ap (behind_front is_space) (s.tail_is ∙ ap (behind_front is_digit) s.rest_is) in
    ap (λ (xs : List ℕ). if not (has_no_bytes xs) && is_decimal digits && is_ending ending then Some digits else None) gap_is
    ∙ ap (λ (xs : List ℕ). if not (has_no_bytes (front is_space bytes)) && is_decimal xs && is_ending ending then Some xs else None) digits_are
    ∙ ap (λ (xs : List ℕ). if not (has_no_bytes (front is_space bytes)) && is_decimal (front is_digit (behind_front is_space bytes)) && is_ending xs then Some (front is_digit (behind_front is_space bytes)) else None) ending_is

is_nil-length : (xs : List ℕ) → has_no_bytes xs ≡ (length xs == 0)
is_nil-length [] = refl
is_nil-length (c ∷ cs) = grind (arith, nat_tests)

all_pass : (a b c : Bool) (digits : List ℕ) → a ≡ false → b ≡ true → c ≡ true → Some digits ≡ (if not a && b && c then Some digits else None)
all_pass a b c digits e f h = simp (e, f, h)

pub digits_some : (bytes gap rest digits tail ending : List ℕ) → IsSplit bytes gap rest digits tail ending → (length gap == 0) ≡ false → is_decimal digits ≡ true → is_ending ending ≡ true → Some digits ≡ digits_in bytes
digits_some bytes gap rest digits tail ending s a b c =
    all_pass (has_no_bytes gap) (is_decimal digits) (is_ending ending) digits (is_nil-length gap ∙ a) b c ∙ digits_by bytes gap rest digits tail ending s

none_passes : (a b c : Bool) (digits : List ℕ) → ((a ≡ true) ⊎ ((b ≡ false) ⊎ (c ≡ false))) → None ≡ (if not a && b && c then Some digits else None)
none_passes true b c digits h = refl
none_passes false false c digits h = refl
none_passes false true false digits h = refl
none_passes false true true digits (inl e) = absurd (cc)
none_passes false true true digits (inr (inl e)) = absurd (cc)
none_passes false true true digits (inr (inr e)) = absurd (cc)

pub digits_none : (bytes gap rest digits tail ending : List ℕ) → IsSplit bytes gap rest digits tail ending → (((length gap == 0) ≡ true) ⊎ ((is_decimal digits ≡ false) ⊎ (is_ending ending ≡ false))) → None ≡ digits_in bytes
digits_none bytes gap rest digits tail ending s (inl a) = none_passes (has_no_bytes gap) (is_decimal digits) (is_ending ending) digits (inl (is_nil-length gap ∙ a)) ∙ digits_by bytes gap rest digits tail ending s
digits_none bytes gap rest digits tail ending s (inr h) = none_passes (has_no_bytes gap) (is_decimal digits) (is_ending ending) digits (inr h) ∙ digits_by bytes gap rest digits tail ending s
