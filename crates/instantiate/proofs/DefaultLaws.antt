-- Default terms as applied heads.
use Rattle.std.specs.Prelude.{◌≡◌, ◌&&◌, ℕ, false, List, [], ◌∷◌, map, slice_get, length, Some, refl}
use Rattle.std.proofs.Common.{ap, arith}
use Rattle.std.proofs.lemmas.Option.{same_Some}
use Rattle.stt_core.specs.Lambda.{Lambda, bound, constant, lam, app, applied}
use Rattle.stt_core.proofs.SpineLaws.{IsAtom}
use Rattle.search_spec.specs.Defaults.{is_value_choice, is_falsehood, holds_of_nothing, is_default_term}

falsehood_app : (s u : Lambda) (ts : List Lambda) → is_falsehood (applied (app s u) ts) ≡ false
falsehood_app s u [] = refl
falsehood_app s u (v ∷ ts) = falsehood_app (app s u) v ts

pub falsehood-others : (h : Lambda) (ts : List Lambda) → (length ts ≡ 0 → ⊥) → is_falsehood (applied h ts) ≡ false
falsehood-others h [] n = absurd (n refl)
falsehood-others h (t ∷ ts) n = falsehood_app h t ts

pub falsehood-alone : (h : Lambda) (ts : List Lambda) → length ts ≡ 0 → is_falsehood h ≡ is_falsehood (applied h ts)
falsehood-alone h [] n = refl
falsehood-alone h (t ∷ ts) n = absurd (omega (arith, n))

nothing_app : (s u : Lambda) (ts : List Lambda) → holds_of_nothing (applied (app s u) ts) ≡ false
nothing_app s u [] = refl
nothing_app s u (v ∷ ts) = nothing_app (app s u) v ts

pub nothing-applied : (h : Lambda) → IsAtom h → (ts : List Lambda) → holds_of_nothing (applied h ts) ≡ false
nothing-applied (bound k) a [] = refl
nothing-applied (constant c) a [] = refl
nothing-applied (lam b s) a [] = absurd a
nothing-applied (app s u) a [] = absurd a
nothing-applied h a (t ∷ ts) = nothing_app h t ts

default_two : (s t u : Lambda) (ts : List Lambda) → is_default_term (applied (app (app s t) u) ts) ≡ false
default_two s t u [] = refl
default_two s t u (v ∷ ts) = default_two (app s t) u v ts

default_leaf : (h : Lambda) → IsAtom h → is_default_term h ≡ false
default_leaf (bound k) a = refl
default_leaf (constant c) a = refl
default_leaf (lam b s) a = absurd a
default_leaf (app s u) a = absurd a

pub default-others : (h : Lambda) → IsAtom h → (ts : List Lambda) → (length ts ≡ 1 → ⊥) → is_default_term (applied h ts) ≡ false
default-others h a [] n = default_leaf h a
default-others h a (t ∷ []) n = absurd (n refl)
default-others h a (t ∷ u ∷ ts) n = default_two h t u ts

pub default-single : (h : Lambda) (f : ℕ → Lambda) (is : List ℕ) (i : ℕ) → length is ≡ 1 → slice_get is 0 ≡ Some i → is_default_term (applied h (map f is)) ≡ (is_value_choice h && holds_of_nothing (f i))
default-single h f [] i n e = cc
default-single h f (k ∷ []) i n e = ap (λ x. is_value_choice h && holds_of_nothing (f x)) (same_Some k i e)
default-single h f (k ∷ l ∷ is) i n e = absurd (omega (arith, n))

pub default-unchosen : (h : Lambda) (ts : List Lambda) → length ts ≡ 1 → is_value_choice h ≡ false → is_default_term (applied h ts) ≡ false
default-unchosen h [] n e = cc
default-unchosen h (t ∷ []) n e = ap (λ b. b && holds_of_nothing t) e
default-unchosen h (t ∷ u ∷ ts) n e = absurd (omega (arith, n))
