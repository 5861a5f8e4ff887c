-- Canonical terms, which are eta-long and beta-normal: binders over a head with all its arguments, which are canonical themselves, so
-- that what stands under the binders has a base type.
use Rattle.std.specs.Prelude.{◌≡◌, List, ◌∷◌, Some, slice_get, IsTrue}
use Rattle.stt_core.specs.SimpleType.{SimpleType, base, arrow, is_declared}
use Rattle.stt_core.specs.Lambda.{Lambda, bound, constant, lam, app}
use Rattle.stt_core.specs.Typing.{Scope, constant_type}

abbrev pub IsBase : SimpleType → Type 0
IsBase (base n) = Unit {0}
IsBase (arrow a b) = ⊥

-- the second type is one of functions from the first, and what they give is as wanted
abbrev pub IsFrom : SimpleType → SimpleType → (SimpleType → Type 0) → Type 0
IsFrom a (base n) Wanted = ⊥
IsFrom a (arrow c b) Wanted = (c ≡ a) × Wanted b

abbrev mutual
  -- the term is canonical and has this type
  pub IsCanonical : Scope → List SimpleType → SimpleType → Lambda → Type 0
  IsCanonical scope ctx a (bound k) = IsBase a × (slice_get ctx k ≡ Some a)
  IsCanonical scope ctx a (constant c) = IsBase a × (constant_type scope c ≡ Some a)
  IsCanonical scope ctx a (app s u) = IsBase a × ((c : SimpleType) × IsNeutral scope ctx (arrow c a) s × IsCanonical scope ctx c u)
  IsCanonical scope ctx a (lam c s) = IsTrue (is_declared scope.bases c) × IsFrom c a (λ b. IsCanonical scope (c ∷ ctx) b s)

  -- the term is a head with canonical arguments and has this type
  pub IsNeutral : Scope → List SimpleType → SimpleType → Lambda → Type 0
  IsNeutral scope ctx a (bound k) = slice_get ctx k ≡ Some a
  IsNeutral scope ctx a (constant c) = constant_type scope c ≡ Some a
  IsNeutral scope ctx a (app s u) = (c : SimpleType) × IsNeutral scope ctx (arrow c a) s × IsCanonical scope ctx c u
  IsNeutral scope ctx a (lam c s) = ⊥
