-- A value depends on what occurs in the term.
use Rattle.std.proofs.Common.{◌≡◌, ℕ, zero, suc, ◌^◌, List, ◌∷◌, slice_index, unwrap_or, refl, ap, ap₂, ◌∙◌, inl, inr}
use mathlib.Core.Path.{fun_ext}
use Rattle.stt_core.specs.SimpleType.{SimpleType, base, arrow, formula}
use Rattle.stt_core.specs.Lambda.{Constant, name, witness, falsity, negation, implication, all, equality, choice, description, Lambda, bound, constant, lam, app}
use Rattle.stt_core.specs.Typing.{Scope, type_of}
use Rattle.stt_core.specs.Digits.{entry, table}
use Rattle.stt_core.specs.Meaning.{Model, size, result_size, constant_value, value, all_ones}
use Rattle.stt_core.specs.Occurrence.{IsFree}
use Rattle.stt_core.specs.OccurrenceLaw.{AgreeOn}
use Rattle.std.specs.Prelude.{Option, Some, None, nat_eq, if◌then◌else◌}

module _ (m n : Model) where
  size_same : ((k : ℕ) → m.sizes (suc k) ≡ n.sizes (suc k)) → (a : SimpleType) → size m a ≡ size n a
  size_same h (base zero) = refl
  size_same h (base (suc k)) = h k
  size_same h (arrow a b) = ap₂ (λ x y. y ^ x) (size_same h a) (size_same h b)

  result_size_same : ((k : ℕ) → m.sizes (suc k) ≡ n.sizes (suc k)) → (o : Option SimpleType) → result_size m o ≡ result_size n o
  result_size_same h (Some (arrow a b)) = size_same h b
  result_size_same h (Some (base k)) = refl
  result_size_same h None = refl

  constant_value_same : (env other : List ℕ) (c : Constant) → AgreeOn m n env other (constant c) → constant_value m c ≡ constant_value n c
  constant_value_same env other (name k) h = h.names k refl
  constant_value_same env other (witness k) h = h.witnesses k refl
  constant_value_same env other falsity h = refl
  constant_value_same env other negation h = refl
  constant_value_same env other implication h = refl
  constant_value_same env other (all a) h = ap (λ x. table 2 (2 ^ x) (λ p. all_ones p x)) (size_same h.sizes a)
  constant_value_same env other (equality a) h =
      ap (λ b. table (2 ^ b) b (λ x. table 2 b (λ y. if nat_eq x y then 1 else 0))) (size_same h.sizes a)
  constant_value_same env other (choice a) h = h.choices a refl
  constant_value_same env other (description a) h = h.descriptions a refl

  in_body : (env other : List ℕ) (x : ℕ) (a : SimpleType) (s : Lambda) → AgreeOn m n env other (lam a s) → AgreeOn m n (x ∷ env) (x ∷ other) s
  in_body env other x a s h = record { sizes = h.sizes; names = h.names; witnesses = h.witnesses; choices = h.choices; descriptions = h.descriptions; variables = inner }
    where
      inner : (k : ℕ) → IsFree k s → slice_index (x ∷ env) k ≡ slice_index (x ∷ other) k
      inner zero f = refl
      inner (suc k) f = h.variables k f

  in_function : (env other : List ℕ) (s u : Lambda) → AgreeOn m n env other (app s u) → AgreeOn m n env other s
  in_function env other s u h = record {
    sizes = h.sizes;
    names = λ k o. h.names k (inl o);
    witnesses = λ k o. h.witnesses k (inl o);
    choices = λ a o. h.choices a (inl o);
    descriptions = λ a o. h.descriptions a (inl o);
    variables = λ k f. h.variables k (inl f);
  }

  in_argument : (env other : List ℕ) (s u : Lambda) → AgreeOn m n env other (app s u) → AgreeOn m n env other u
  in_argument env other s u h = record {
    sizes = h.sizes;
    names = λ k o. h.names k (inr o);
    witnesses = λ k o. h.witnesses k (inr o);
    choices = λ a o. h.choices a (inr o);
    descriptions = λ a o. h.descriptions a (inr o);
    variables = λ k f. h.variables k (inr f);
  }

  pub value_same : (scope : Scope) (ctx : List SimpleType) (env other : List ℕ) (t : Lambda) → AgreeOn m n env other t → value scope m ctx env t ≡ value scope n ctx other t
  value_same scope ctx env other (bound k) h = h.variables k refl
  value_same scope ctx env other (constant c) h = constant_value_same env other c h
  value_same scope ctx env other (lam a s) h =
      ap (λ x. table x (size m a) (λ y. value scope m (a ∷ ctx) (y ∷ env) s)) (size_same h.sizes (unwrap_or (type_of scope (a ∷ ctx) s) formula))
      ∙ ap₂ (λ x g. table (size n (unwrap_or (type_of scope (a ∷ ctx) s) formula)) x g) (size_same h.sizes a)
      (fun_ext (λ y. value_same scope (a ∷ ctx) (y ∷ env) (y ∷ other) s (in_body env other y a s h)))
  value_same scope ctx env other (app s u) h =
      ap (λ x. entry x (value scope m ctx env s) (value scope m ctx env u)) (result_size_same h.sizes (type_of scope ctx s))
      ∙ ap₂ (entry (result_size n (type_of scope ctx s))) (value_same scope ctx env other s (in_function env other s u h)) (value_same scope ctx env other u (in_argument env other s u h))
