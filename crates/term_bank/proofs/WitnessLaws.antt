-- The greatest witness of a term.
use Rattle.std.proofs.Common.{◌≡◌, ℕ, ◌≤◌, max, Option, Some, None, inl, inr, refl, sym, ap, ◌∙◌, arith}
use Rattle.std.specs.Prelude.{IfSome, Bool, true, false, nat_le}
use Rattle.std.proofs.lemmas.Bool.{leb-true, leb-false}
use Rattle.std.proofs.lemmas.Option.{same_Some}
use Rattle.stt_core.specs.Lambda.{Constant, name, witness, falsity, negation, implication, all, equality, choice, description, Lambda, bound, constant, lam, app}
use Rattle.stt_core.specs.Occurrence.{Occurs}
use Rattle.term_bank.specs.Internal.Marks.{greater, witness_number, greatest_witness}

-- a number that is there, and another one that is no greater
pub record UpTo (o : Option ℕ) (w : ℕ) : Type 0 where
  pub greatest : ℕ
  pub is : o ≡ Some greatest
  pub at_most : w ≤ greatest

left_up : (o p : Option ℕ) (w : ℕ) → UpTo o w → UpTo (greater o p) w
left_up o None w h = record { greatest = h.greatest; is = ap (λ x. greater x None) h.is; at_most = h.at_most }
left_up o (Some n) w h = record { greatest = max h.greatest n; is = ap (λ x. greater x (Some n)) h.is; at_most = omega (arith, h.at_most) }

right_up : (o p : Option ℕ) (w : ℕ) → UpTo p w → UpTo (greater o p) w
right_up None p w h = h
right_up (Some m) p w h = record { greatest = max m h.greatest; is = ap (greater (Some m)) h.is; at_most = omega (arith, h.at_most) }

constant_up : (c : Constant) (w : ℕ) → c ≡ witness w → UpTo (witness_number c) w
constant_up c w e = record { greatest = w; is = ap witness_number e; at_most = omega arith }

up_to : (t : Lambda) (w : ℕ) → Occurs (witness w) t → UpTo (greatest_witness t) w
up_to (bound k) w o = absurd o
up_to (constant c) w o = constant_up c w o
up_to (lam a s) w o = up_to s w o
up_to (app s u) w (inl o) = left_up (greatest_witness s) (greatest_witness u) w (up_to s w o)
up_to (app s u) w (inr o) = right_up (greatest_witness s) (greatest_witness u) w (up_to u w o)

pub greatest_is : (t : Lambda) (result : Option ℕ) → result ≡ greatest_witness t → (w : ℕ) → Occurs (witness w) t → (m : ℕ) × (result ≡ Some m) × (w ≤ m)
greatest_is t result e w o = let u = up_to t w o in (u.greatest, e ∙ u.is, u.at_most)

-- a witness that is found occurs
constant_found : (c : Constant) (w : ℕ) → witness_number c ≡ Some w → c ≡ witness w
constant_found (name k) w e = cc
constant_found (witness k) w e = ap witness (same_Some k w e)
constant_found falsity w e = cc
constant_found negation w e = cc
constant_found implication w e = cc
constant_found (all a) w e = cc
constant_found (equality a) w e = cc
constant_found (choice a) w e = cc
constant_found (description a) w e = cc

max_cases : (P : Type 0) (m n w : ℕ) → max m n ≡ w → (m ≡ w → P) → (n ≡ w → P) → P
max_cases P m n w e f g = go (nat_le m n) refl
  where
    go : (b : Bool) → nat_le m n ≡ b → P
    go true h = g (omega (arith, leb-true m n h, e))
    go false h = f (omega (arith, leb-false m n h, e))

greater_found : (P : Type 0) (o p : Option ℕ) (w : ℕ) → greater o p ≡ Some w → (o ≡ Some w → P) → (p ≡ Some w → P) → P
greater_found P None p w e f g = g e
greater_found P (Some m) None w e f g = f e
greater_found P (Some m) (Some n) w e f g =
    max_cases P m n w (same_Some (max m n) w e) (λ h. f (ap Some h)) (λ h. g (ap Some h))

found : (t : Lambda) (w : ℕ) → greatest_witness t ≡ Some w → Occurs (witness w) t
found (bound k) w e = cc
found (constant c) w e = constant_found c w e
found (lam a s) w e = found s w e
found (app s u) w e = greater_found (Occurs (witness w) (app s u)) (greatest_witness s) (greatest_witness u) w e (λ h. inl (found s w h)) (λ h. inr (found u w h))

pub found_occurs : (t : Lambda) (result : Option ℕ) → result ≡ greatest_witness t → IfSome result (λ w. Occurs (witness w) t)
found_occurs t None e = tt
found_occurs t (Some w) e = found t w (sym e)
