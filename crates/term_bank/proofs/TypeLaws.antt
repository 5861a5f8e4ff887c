-- The types of terms under their binders, and of a head with its arguments.
use Rattle.std.proofs.Common.{◌≡◌, ℕ, zero, suc, List, [], ◌∷◌, slice_get, Some, option_map, IsTrue, refl, sym, ap, subst, ◌∙◌, arith}
use Rattle.std.specs.Prelude.{IsSome}
use Rattle.std.proofs.lemmas.Option.{same_Some}
use Rattle.stt_core.specs.SimpleType.{SimpleType, base, arrow, is_declared, target}
use Rattle.stt_core.specs.Lambda.{Lambda, bound, constant, lam, app, applied}
use Rattle.stt_core.specs.Typing.{Scope, type_of}
use Rattle.stt_core.specs.Canonical.{IsBase, IsCanonical, IsNeutral}
use Rattle.stt_core.specs.Internal.Missing.{missing_binders}
use Rattle.stt_core.proofs.TypeLaws.{type_of-neutral}
use Rattle.stt_core.proofs.SpineLaws.{IsAtom}
use Rattle.term_bank.specs.Internal.MarksView.{HasTypeIn}
use Rattle.term_bank.specs.Terms.{IsTypedTerm}
use Rattle.term_bank.proofs.ClosedLaws.{canonical-front}

-- A FUNCTION'S BODY

-- the type of a body
pub record Body (scope : Scope) (ctx : List SimpleType) (a type : SimpleType) (s : Lambda) : Type 0 where
  pub declared : IsTrue (is_declared scope.bases a)
  pub result : SimpleType
  pub type_is : type ≡ arrow a result
  pub canonical : IsCanonical scope (a ∷ ctx) result s

pub body_of : (scope : Scope) (ctx : List SimpleType) (a type : SimpleType) (s : Lambda) → IsCanonical scope ctx type (lam a s) → Body scope ctx a type s
body_of scope ctx a (base n) s h = absurd h.1
body_of scope ctx a (arrow c b) s h =
    record { declared = h.0; result = b; type_is = ap (λ x. arrow x b) h.1.0; canonical = h.1.1 }

pub body_typed : (scope : Scope) (ctx : List SimpleType) (a : SimpleType) (s : Lambda) → HasTypeIn scope ctx (lam a s) → HasTypeIn scope (a ∷ ctx) s
body_typed scope ctx a s h = let b = body_of scope ctx a h.type s h.canonical in record { type = b.result; canonical = b.canonical }

-- A HEAD WITH ITS ARGUMENTS

abbrev NotLam : Lambda → Type 0
NotLam (bound k) = Unit {0}
NotLam (constant c) = Unit {0}
NotLam (lam a s) = ⊥
NotLam (app s u) = Unit {0}

atom_no_function : (h : Lambda) → IsAtom h → NotLam h
atom_no_function (bound k) o = tt
atom_no_function (constant c) o = tt
atom_no_function (lam a s) o = o
atom_no_function (app s u) o = tt

-- the head's type ends as the whole's does
pub record Head (scope : Scope) (ctx : List SimpleType) (type : SimpleType) (h : Lambda) : Type 0 where
  pub head_type : SimpleType
  pub neutral : IsNeutral scope ctx head_type h
  pub ends : target head_type ≡ target type

module _ (scope : Scope) (ctx : List SimpleType) where
  neutral_spine : (a : SimpleType) (t : Lambda) (us : List Lambda) → NotLam t → IsCanonical scope ctx a (applied t us) → IsBase a × IsNeutral scope ctx a (applied t us)
  neutral_spine a (bound k) [] o h = h
  neutral_spine a (constant c) [] o h = h
  neutral_spine a (lam b s) [] o h = absurd o
  neutral_spine a (app s u) [] o h = h
  neutral_spine a t (u ∷ us) o h = neutral_spine a (app t u) us tt h

  head_of : (a : SimpleType) (t : Lambda) (us : List Lambda) → IsNeutral scope ctx a (applied t us) → Head scope ctx a t
  head_of a t [] h = record { head_type = a; neutral = h; ends = refl }
  head_of a t (u ∷ us) h =
      let r = head_of a (app t u) us h in
      record { head_type = arrow r.neutral.0 r.head_type; neutral = r.neutral.1; ends = r.ends }

  pub head_typed : (a : SimpleType) (h : Lambda) (us : List Lambda) → IsAtom h → IsCanonical scope ctx a (applied h us) → IsSome (type_of scope ctx h)
  head_typed a h us o c =
      let n = neutral_spine a h us (atom_no_function h o) c in
      let r = head_of a h us n.1 in
      subst IsSome (sym (type_of-neutral scope ctx r.head_type h r.neutral)) refl

  based : (a : SimpleType) → IsBase a → base (target a) ≡ a
  based (base n) h = refl
  based (arrow a b) h = absurd h

  -- the base type at which the head's type ends is the whole's type
  pub spine_typed : (a b : SimpleType) (h : Lambda) (us : List Lambda) → IsAtom h → IsCanonical scope ctx a (applied h us) → Some b ≡ option_map (λ x. base (target x)) (type_of scope ctx h) → IsCanonical scope ctx b (applied h us)
  spine_typed a b h us o c e =
      let n = neutral_spine a h us (atom_no_function h o) c in
      let r = head_of a h us n.1 in
      let k : Some b ≡ Some (base (target r.head_type)) = e ∙ ap (option_map (λ x. base (target x))) (type_of-neutral scope ctx r.head_type h r.neutral) in
      let q : b ≡ base (target r.head_type) = same_Some b (base (target r.head_type)) k in
      let w : a ≡ b = sym (based a n.0) ∙ ap base (sym r.ends) ∙ sym q in
      subst (λ x. IsCanonical scope ctx x (applied h us)) w c

-- a typed term that needs no binder has its type without a context
pub closed_typed : (scope : Scope) (t : Lambda) → IsTypedTerm scope t → missing_binders t ≡ 0 → HasTypeIn scope [] t
closed_typed scope t h m = record { type = h.type; canonical = canonical-front scope h.ctx [] [] h.type t (omega (arith, m)) h.canonical }

pub argument_typed : (scope : Scope) (ctx : List SimpleType) (a : SimpleType) (h : Lambda) (us : List Lambda) (i : ℕ) (u : Lambda) → IsAtom h → IsCanonical scope ctx a (applied h us) → slice_get us i ≡ Some u → HasTypeIn scope ctx u
argument_typed scope ctx a h us i u o c g = go h us i (neutral_spine scope ctx a h us (atom_no_function h o) c).1 g
  where
    go : (t : Lambda) (vs : List Lambda) (i : ℕ) → IsNeutral scope ctx a (applied t vs) → slice_get vs i ≡ Some u → HasTypeIn scope ctx u
    go t [] i n g = cc
    go t (v ∷ vs) zero n g =
        let r = head_of scope ctx a (app t v) vs n in
        let e : v ≡ u = same_Some v u g in
        record { type = r.neutral.0; canonical = subst (IsCanonical scope ctx r.neutral.0) e r.neutral.2 }
    go t (v ∷ vs) (suc i) n g = go (app t v) vs i n g
