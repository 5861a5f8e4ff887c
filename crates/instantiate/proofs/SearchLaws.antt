-- The words of the search on growing partial terms.
use Rattle.std.specs.Prelude.{◌≡◌, true, List, [], Some, unwrap_or}
use Rattle.std.proofs.Common.{ap, ◌∙◌, eq-eqb}
use Rattle.stt_core.specs.SimpleType.{SimpleType, target}
use Rattle.stt_core.specs.Lambda.{Lambda, bound, constant, lam, app, IsLeaf}
use Rattle.stt_core.specs.Typing.{Scope, type_of}
use Rattle.stt_core.specs.Canonical.{IsNeutral}
use Rattle.search_spec.specs.Partial.{Partial, first_hole}
use Rattle.search_spec.specs.State.{Sketch}
use Rattle.search_spec.specs.TypedState.{GrowsSketch}
use Rattle.search_spec.specs.Commands.{filling_at, growth_by}
use Rattle.instantiate.specs.Growing.{IsTypedPartialTerm, TakesHead, gives, fits}

module _ (scope : Scope) (p : Sketch) (h : Lambda) where
  leaf_type : (t : Lambda) (ctx : List SimpleType) (a : SimpleType) → IsLeaf t → IsNeutral scope ctx a t → type_of scope ctx t ≡ Some a
  leaf_type (bound k) ctx a l n = n
  leaf_type (constant c) ctx a l n = n
  leaf_type (lam b s) ctx a l n = absurd l
  leaf_type (app s u) ctx a l n = absurd l

  -- where a command to grow has its head, the partial term can be grown ..
  pub sketch_typed : GrowsSketch scope p h → IsTypedPartialTerm scope p.partial
  sketch_typed g = record { type = p.type; sketch = g.sketch }

  pub sketch_takes : GrowsSketch scope p h → TakesHead scope p.partial h
  sketch_takes g = record { hole = g.hole; is_first = g.is_first; type = g.fits.type; has_type = leaf_type h g.hole.context g.fits.type g.fits.leaf g.fits.has_type }

  -- .. there is an answer ..
  pub sketch_fits : GrowsSketch scope p h → fits scope h (first_hole [] p.partial) ≡ true
  sketch_fits g =
      ap (fits scope h) g.is_first ∙ ap (gives g.hole.base) (leaf_type h g.hole.context g.fits.type g.fits.leaf g.fits.has_type)
      ∙ eq-eqb (target g.fits.type) g.hole.base g.fits.gives

  -- .. and the answer is the search's
  pub grown_by-filled : (q : Partial) → filling_at scope h p.partial (first_hole [] p.partial) ≡ Some q → (growth_by scope h p).partial ≡ q
  grown_by-filled q e = ap (λ o. unwrap_or o p.partial) e
