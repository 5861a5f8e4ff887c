-- The worth of an expression depends on the symbols within its reach.
use Rattle.std.proofs.Common.{◌≡◌, ℕ, ◌+◌, ◌-◌, ◌*◌, ◌%◌, ◌<◌, ◌≤◌, List, [], ◌∷◌, slice_get, Some, nat_eq, if◌then◌else◌, refl, ap, ap₂, subst, ◌∙◌, ⊎_elim, arith}
use Rattle.std.proofs.Math.Nat.{eq-or-lt_of_le}
use mathlib.Core.Path.{fun_ext}
use Rattle.stt_core.specs.Digits.{entry, table}
use Rattle.finite_models.specs.Internal.Worth.{worth, all_one}
use Rattle.finite_models.specs.Internal.Search.{SameFront, reach_of, PassesAll, AreReady}
use Rattle.finite_models.specs.declared.expr.Expr.{Expr}
use Rattle.finite_models.specs.declared.expr.Expr.TheVariants.{Bound, Symbol, False, Not', Imp', All', Eq', Apply', Table', Repeat', Whole'}
use Rattle.finite_models.specs.declared.search.Check.{Check}

pub worth_front : (e : Expr) (vs ws env : List ℕ) → SameFront (reach_of e) vs ws → worth e vs env ≡ worth e ws env
worth_front (Bound k) vs ws env h = refl
worth_front (Symbol i) vs ws env h = h i (omega arith)
worth_front False vs ws env h = refl
worth_front (Not' p e) vs ws env h = ap (λ x. 1 - x) (worth_front e vs ws env h)
worth_front (Imp' p a q b) vs ws env h =
    ap₂ (λ x y. if nat_eq x 1 then y else 1) (worth_front a vs ws env (λ j l. h j (omega arith))) (worth_front b vs ws env (λ j l. h j (omega arith)))
worth_front (All' n p e) vs ws env h = ap (all_one n) (fun_ext (λ x. worth_front e vs ws (x ∷ env) h))
worth_front (Eq' p a q b) vs ws env h =
    ap₂ (λ x y. if nat_eq x y then 1 else 0) (worth_front a vs ws env (λ j l. h j (omega arith))) (worth_front b vs ws env (λ j l. h j (omega arith)))
worth_front (Apply' b p f q x) vs ws env h =
    ap₂ (entry b) (worth_front f vs ws env (λ j l. h j (omega arith))) (worth_front x vs ws env (λ j l. h j (omega arith)))
worth_front (Table' b n p e) vs ws env h = ap (table b n) (fun_ext (λ x. worth_front e vs ws (x ∷ env) h))
worth_front (Repeat' n p e) vs ws env h = ap (λ x. x * n) (worth_front e vs ws (0 ∷ env) h)
worth_front (Whole' n p e) vs ws env h = ap (λ x. x % n) (worth_front e vs ws (0 ∷ env) h)

pub fails_by_reach : (checks : List Check) (vs : List ℕ) (i : ℕ) (c : Check) → slice_get checks i ≡ Some c → AreReady checks vs → (worth c.expr vs [] ≡ c.wanted → ⊥) → (ws : List ℕ) → SameFront c.reach vs ws → PassesAll checks ws → ⊥
fails_by_reach checks vs i c g ready n ws same all =
    let reach = (ready i c g).1 in
    n (worth_front c.expr vs ws [] (subst (λ r. SameFront r vs ws) reach same) ∙ all i c g)

pub passes_more : (checks : List Check) (vs : List ℕ) (i : ℕ) (c : Check) → slice_get checks i ≡ Some c → ((k : ℕ) (d : Check) → k < i → slice_get checks k ≡ Some d → worth d.expr vs [] ≡ d.wanted) → worth c.expr vs [] ≡ c.wanted → (k : ℕ) (d : Check) → k < i + 1 → slice_get checks k ≡ Some d → worth d.expr vs [] ≡ d.wanted
passes_more checks vs i c g before here k d l r =
    ⊎_elim
    (λ e. let q : slice_get checks i ≡ Some d = subst (λ j. slice_get checks j ≡ Some d) e r in let same : c ≡ d = cc in subst (λ x. worth x.expr vs [] ≡ x.wanted) same here)
    (λ m. before k d m r)
    (eq-or-lt_of_le (below k i l))
  where
    below : (k i : ℕ) → k < i + 1 → k ≤ i
    below k i l = omega arith
