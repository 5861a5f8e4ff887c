-- A head is a variable or a constant.
use Rattle.std.proofs.Common.{◌≡◌, ℕ, Bool, true, refl, sym, ap, ◌∙◌}
use Rattle.stt_core.specs.SimpleType.{SimpleType, same_type}
use Rattle.stt_core.proofs.TypeLaws.{same_type_tells}
use Rattle.stt_core.proofs.SpineLaws.{IsAtom}
use Rattle.stt_core.specs.Lambda.{Constant, name, witness, falsity, negation, implication, all, equality, choice, description, Lambda, constant}
use Rattle.stt_core.specs.View.{the_type, the_head}
use Rattle.stt_core.specs.declared.nf.Head.{Head}
use Rattle.stt_core.specs.declared.nf.Head.TheVariants.{Bound, Name, Wit, False, Not, Imp, All, Eq, Choice, Desc}

pub constant_head : (h : Head) → ((k : ℕ) → h ≡ Bound k → ⊥) → (c : Constant) × (the_head h ≡ constant c)
constant_head (Bound k) other = absurd (other k refl)
constant_head (Name k) other = (name k, refl)
constant_head (Wit k) other = (witness k, refl)
constant_head False other = (falsity, refl)
constant_head Not other = (negation, refl)
constant_head Imp other = (implication, refl)
constant_head (All a) other = (all (the_type a), refl)
constant_head (Eq a) other = (equality (the_type a), refl)
constant_head (Choice a) other = (choice (the_type a), refl)
constant_head (Desc a) other = (description (the_type a), refl)

-- heads that hold a type are the same where the types are
pub heads_tell : (f : SimpleType → Lambda) → ((x y : SimpleType) → f x ≡ f y → x ≡ y) → (a b : SimpleType) (h k : Lambda) (r : Bool) → h ≡ f a → k ≡ f b → r ≡ same_type a b → (r ≡ true → h ≡ k) × (h ≡ k → r ≡ true)
heads_tell f inj a b h k r p q e =
    let t = same_type_tells a b r e in
    (λ o. p ∙ ap f (t.0 o) ∙ sym q, λ o. t.1 (inj a b (sym p ∙ o ∙ q)))

pub atom_head : (h : Head) → IsAtom (the_head h)
atom_head (Bound k) = tt
atom_head (Name k) = tt
atom_head (Wit k) = tt
atom_head False = tt
atom_head Not = tt
atom_head Imp = tt
atom_head (All a) = tt
atom_head (Eq a) = tt
atom_head (Choice a) = tt
atom_head (Desc a) = tt
