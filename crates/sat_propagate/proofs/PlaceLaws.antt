-- Places of literals on a trail.
use Rattle.std.proofs.Common.{◌≡◌, inl, inr, ◌<◌, ℕ, zero, suc, true, false, List, [], ◌∷◌, Some, drop, refl, sym, ap, ◌∙◌, arith}
use Rattle.std.specs.List.{slice_get}
use Rattle.std.specs.Option.{option_map}
use Rattle.std.proofs.lemmas.Bool.{false≢true, or_cases, or_right, false_from_ne_true}
use Rattle.std.proofs.lemmas.Option.{slice_get-map, same_Some}
use Rattle.sat_base.specs.declared.literal.Var.{Var}
use Rattle.sat_base.specs.declared.literal.SatLit.{SatLit}
use Rattle.sat_base.specs.Literal.{same_var, mentions_variable, HoldsNoVariableTwice}
use Rattle.sat_base.proofs.LiteralLaws.{same_var-true, mentions-held}
use Rattle.sat_laws.proofs.TrailLaws.{held_at}
use Rattle.sat_propagate.specs.Internal.Trail.{literals}
use Rattle.sat_propagate.specs.declared.trail.Step.{Step}

pub literal_at : (steps : List Step) (i : ℕ) (step : Step) → slice_get steps i ≡ Some step → slice_get (literals steps) i ≡ Some step.literal
literal_at steps i step at = slice_get-map (λ (s : Step). s.literal) steps i ∙ ap (option_map (λ (s : Step). s.literal)) at

-- a variable that is mentioned stands at some place
pub place_of : (steps : List Step) (v : Var) → mentions_variable (literals steps) v ≡ true → (i : ℕ) × (step : Step) × (slice_get steps i ≡ Some step) × (step.literal.var ≡ v)
place_of [] v h = absurd (false≢true h)
place_of (s ∷ steps) v h =
    elim (or_cases (same_var v s.literal.var) (mentions_variable (literals steps) v) h) [
      | inl here ↦ (zero, s, refl, sym (same_var-true v s.literal.var here))
      | inr later ↦ let some = place_of steps v later in (suc some.0, some.1, some.2, some.3)
    ]

-- a variable that stands at some place is mentioned
pub mentioned_at : (steps : List Step) (i : ℕ) (step : Step) → slice_get steps i ≡ Some step → mentions_variable (literals steps) step.literal.var ≡ true
mentioned_at steps i step at = mentions-held (literals steps) step.literal (held_at (literals steps) i step.literal (literal_at steps i step at))

-- a variable stands at one place alone
pub once_place : (some : List SatLit) (i j : ℕ) (a b : SatLit) → HoldsNoVariableTwice some → slice_get some i ≡ Some a → slice_get some j ≡ Some b → a.var ≡ b.var → i ≡ j
once_place [] i j a b once at_i at_j same = absurd (cc)
once_place (x ∷ some) zero zero a b once at_i at_j same = refl
once_place (x ∷ some) zero (suc j) a b once at_i at_j same =
    absurd (false≢true (sym once.0 ∙ ap (mentions_variable some) (ap (λ (k : SatLit). k.var) (same_Some x a at_i) ∙ same) ∙ mentions-held some b (held_at some j b at_j)))
once_place (x ∷ some) (suc i) zero a b once at_i at_j same =
    absurd (false≢true (sym once.0 ∙ ap (mentions_variable some) (ap (λ (k : SatLit). k.var) (same_Some x b at_j) ∙ sym same) ∙ mentions-held some a (held_at some i a at_i)))
once_place (x ∷ some) (suc i) (suc j) a b once at_i at_j same = ap suc (once_place some i j a b once.1 at_i at_j same)

mentions_drop : (some : List SatLit) (n : ℕ) (v : Var) → mentions_variable (drop n some) v ≡ true → mentions_variable some v ≡ true
mentions_drop some zero v h = h
mentions_drop [] (suc n) v h = h
mentions_drop (l ∷ some) (suc n) v h = or_right (same_var v l.var) _ (mentions_drop some n v h)

pub not_after : (steps : List Step) (i start : ℕ) (step : Step) → HoldsNoVariableTwice (literals steps) → slice_get steps i ≡ Some step → i < start → mentions_variable (drop start (literals steps)) step.literal.var ≡ false
not_after [] i start step once at h = absurd (cc)
not_after (s ∷ steps) i zero step once at h = absurd (omega arith)
not_after (s ∷ steps) zero (suc start) step once at h =
    let same : s ≡ step = same_Some s step at in
    false_from_ne_true (mentions_variable (drop start (literals steps)) step.literal.var)
    (λ t. false≢true (sym once.0 ∙ ap (λ (k : Step). mentions_variable (literals steps) k.literal.var) same ∙ mentions_drop (literals steps) start step.literal.var t))
not_after (s ∷ steps) (suc i) (suc start) step once at h = not_after steps i start step once.1 at (omega arith)
