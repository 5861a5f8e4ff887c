-- Arguments of one head.
use Rattle.std.proofs.Common.{◌≡◌, Bool, List, [], ◌∷◌, Some, None, refl, sym, ap, ap₂, subst, ◌∙◌, true, false, if◌then◌else◌, ⊎_elim, inl, inr}
use Rattle.std.proofs.Math.Nat.{mod-one}
use Rattle.stt_core.specs.SimpleType.{SimpleType, base, arrow, predicate, is_declared}
use Rattle.stt_core.specs.Lambda.{Constant, equality, Lambda, constant, app, applied, eq}
use Rattle.stt_core.specs.Typing.{Scope, type_of, constant_type, applied_type}
use Rattle.stt_core.specs.Canonical.{IsBase, IsCanonical, IsNeutral}
use Rattle.stt_core.specs.Digits.{entry}
use Rattle.stt_core.specs.Meaning.{Model, size, result_size, value, IsModel}
use Rattle.stt_core.proofs.TypeLaws.{type_of-canonical, applied as applied_is}
use Rattle.stt_core.proofs.ValueLaws.{value-app}
use Rattle.tableau_calculus.specs.Literals.{minus}
use Rattle.tableau_calculus.specs.Meets.{MeetsLiteral, MeetsOne}
use Rattle.tableau_calculus.specs.Rules.{differ_each}
use Rattle.tableau_calculus.proofs.EquationLaws.{same_or_not, meets-differ}

module _ (scope : Scope) where
  -- a function of the first type takes these canonical arguments, and gives a value of the second
  abbrev pub Takes : SimpleType → List Lambda → SimpleType → Type 0
  Takes a [] b = a ≡ b
  Takes (base n) (u ∷ us) b = ⊥
  Takes (arrow c d) (u ∷ us) b = IsCanonical scope [] c u × Takes d us b

  takes : (h : Lambda) (us : List Lambda) (b : SimpleType) → IsNeutral scope [] b (applied h us) → (a : SimpleType) × IsNeutral scope [] a h × Takes a us b
  takes h [] b n = (b, n, refl)
  takes h (u ∷ us) b n =
      let rest = takes (app h u) us b n in
      (arrow rest.1.0 rest.0, rest.1.1, (rest.1.2, rest.2))

  neutral_of : (t u : Lambda) (us : List Lambda) (b : SimpleType) → IsCanonical scope [] b (applied (app t u) us) → IsNeutral scope [] b (applied (app t u) us)
  neutral_of t u [] b h = h.1
  neutral_of t u (v ∷ us) b h = neutral_of (app t u) v us b h

  -- what the arguments of a canonical term's head are
  pub arguments_taken : (c : Constant) (a : SimpleType) (u : Lambda) (us : List Lambda) (b : SimpleType) → constant_type scope c ≡ Some a → IsCanonical scope [] b (applied (constant c) (u ∷ us)) → Takes a (u ∷ us) b
  arguments_taken c a u us b e h =
      let found = takes (constant c) (u ∷ us) b (neutral_of (constant c) u us b h) in
      let same : Some found.0 ≡ Some a = sym found.1 ∙ e in
      let p : found.0 ≡ a = cc in
      subst (λ x. Takes x (u ∷ us) b) p found.2

-- where the type of its sides isn't declared, an equation has the value 0
value-undeclared : (scope : Scope) (m : Model) (a : SimpleType) (s t : Lambda) → is_declared scope.bases a ≡ false → value scope m [] [] (eq a s t) ≡ 0
value-undeclared scope m a s t d =
    ap (λ b. entry (result_size m (applied_type (if b then Some (arrow a (predicate a)) else None) (type_of scope [] s))) (value scope m [] [] (app (constant (equality a)) s)) (value scope m [] [] t)) d
    ∙ mod-one _

no_arrow : (c d b : SimpleType) → IsBase b → arrow c d ≡ b → ⊥
no_arrow c d (base n) h e = cc
no_arrow c d (arrow x y) h e = h

module _ (scope : Scope) (m : Model) (good : IsModel scope m) where
  -- where one head at two lists of arguments has two values, the arguments at some place have
  pub differ_one : (a b : SimpleType) (h k : Lambda) (ss ts : List Lambda) → IsBase b → type_of scope [] h ≡ Some a → type_of scope [] k ≡ Some a → value scope m [] [] h ≡ value scope m [] [] k → Takes scope a ss b → Takes scope a ts b → (value scope m [] [] (applied h ss) ≡ value scope m [] [] (applied k ts) → ⊥) → MeetsOne scope m (differ_each a ss ts)
  differ_one (base n) b h k [] [] of_base p q e hs ht apart = apart e
  differ_one (base n) b h k [] (t ∷ ts) of_base p q e hs ht apart = absurd ht
  differ_one (base n) b h k (s ∷ ss) ts of_base p q e hs ht apart = absurd hs
  differ_one (arrow c f) b h k [] ts of_base p q e hs ht apart = absurd (no_arrow c f b of_base hs)
  differ_one (arrow c f) b h k (s ∷ ss) [] of_base p q e hs ht apart = absurd (no_arrow c f b of_base ht)
  differ_one (arrow c f) b h k (s ∷ ss) (t ∷ ts) of_base p q e hs ht apart =
      let st = type_of-canonical scope [] c s hs.0 in
      let tt' = type_of-canonical scope [] c t ht.0 in
      let rest = λ (x : value scope m [] [] s ≡ value scope m [] [] t).
      differ_one f b (app h s) (app k t) ss ts of_base (ap₂ applied_type p st ∙ applied_is c f) (ap₂ applied_type q tt' ∙ applied_is c f)
      (value-app scope m [] [] c f h s p ∙ ap₂ (entry (size m f)) e x ∙ sym (value-app scope m [] [] c f k t q)) hs.1 ht.1 apart in
      ⊎_elim (λ x. inr (rest x)) (λ n. inl (differ_there (is_declared scope.bases c) refl n, tt)) (same_or_not (value scope m [] [] s) (value scope m [] [] t))
    where
      differ_there : (d : Bool) → is_declared scope.bases c ≡ d → (value scope m [] [] s ≡ value scope m [] [] t → ⊥) → MeetsLiteral scope m (minus (eq c s t))
      differ_there true d n = meets-differ scope m good c s t (record { declared = d; left = hs.0; right = ht.0 }) n
      differ_there false d n = value-undeclared scope m c s t d
