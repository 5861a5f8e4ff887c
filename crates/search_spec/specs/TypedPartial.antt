-- Partial terms with types: canonical terms, where a hole is taken as a term of its base type.
use Rattle.std.specs.Prelude.{◌≡◌, List, ◌∷◌, IsTrue}
use Rattle.stt_core.specs.SimpleType.{SimpleType, base, arrow, is_declared}
use Rattle.stt_core.specs.Lambda.{IsLeaf}
use Rattle.stt_core.specs.Typing.{Scope}
use Rattle.stt_core.specs.Canonical.{IsBase, IsFrom, IsNeutral}
use Rattle.search_spec.specs.Partial.{Partial, hole, head, function, application}

abbrev mutual
  -- the partial term is canonical and has this type
  pub IsPartial : Scope → List SimpleType → SimpleType → Partial → Type 0
  IsPartial scope ctx a (hole n) = a ≡ base n
  IsPartial scope ctx a (head h) = IsBase a × IsLeaf h × IsNeutral scope ctx a h
  IsPartial scope ctx a (application p q) = IsBase a × ((c : SimpleType) × IsPartialSpine scope ctx (arrow c a) p × IsPartial scope ctx c q)
  IsPartial scope ctx a (function c p) = IsTrue (is_declared scope.bases c) × IsFrom c a (λ b. IsPartial scope (c ∷ ctx) b p)

  -- the partial term is a head with canonical arguments and has this type
  pub IsPartialSpine : Scope → List SimpleType → SimpleType → Partial → Type 0
  IsPartialSpine scope ctx a (hole n) = ⊥
  IsPartialSpine scope ctx a (head h) = IsLeaf h × IsNeutral scope ctx a h
  IsPartialSpine scope ctx a (application p q) = (c : SimpleType) × IsPartialSpine scope ctx (arrow c a) p × IsPartial scope ctx c q
  IsPartialSpine scope ctx a (function c p) = ⊥
