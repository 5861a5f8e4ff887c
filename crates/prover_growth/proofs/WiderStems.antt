-- Partial terms stay what they are where witnesses are added.
use Rattle.std.specs.Prelude.{◌≡◌, List, [], ◌∷◌, ◌++◌, Option, Some, unwrap_or, refl}
use Rattle.std.proofs.Common.{sym, ap, subst, ◌∙◌}
use Rattle.stt_core.specs.SimpleType.{SimpleType, formula}
use Rattle.stt_core.specs.Lambda.{witness, Lambda, constant}
use Rattle.stt_core.specs.Typing.{Scope, type_of}
use Rattle.tableau_calculus.specs.Witnesses.{Row, with_rows}
use Rattle.search_spec.specs.Commands.{filling_at, growth_by}
use Rattle.search_spec.specs.Partial.{Partial, head, first_hole, with_filling, with_holes}
use Rattle.search_spec.specs.State.{Sketch}
use Rattle.search_spec.proofs.WiderLaws.{neutral_wider}
use Rattle.instantiate.specs.Growing.{TakesHead}
use Rattle.prover_state.specs.declared.head.HoleHead.{HoleHead}
use Rattle.prover_state.specs.declared.head.HoleHead.TheVariants.{Bound, Name, Wit, False, Not, Imp, All, Eq, Choice}
use Rattle.prover_state.specs.declared.stem.Stem.{Stem}
use Rattle.prover_state.specs.declared.stem.Stem.TheVariants.{Blank, Grown}
use Rattle.prover_state.specs.Internal.Heads.{the_hole_head, sketch_of, sketches_after, IsStem, AreStems}
use Rattle.prover_state.specs.Internal.Names.{sketch_at}

module _ (scope : Scope) (more rows : List Row) where
  abbrev old : Scope
  old = with_rows scope rows

  abbrev new : Scope
  new = with_rows scope (rows ++ more)

  head_wider : (h : HoleHead) (ctx : List SimpleType) (a : SimpleType) → type_of old ctx (the_hole_head h) ≡ Some a → type_of new ctx (the_hole_head h) ≡ Some a
  head_wider (Bound k) ctx a e = e
  head_wider (Name k) ctx a e = e
  head_wider (Wit k) ctx a e = neutral_wider scope more rows ctx a (constant (witness k)) e
  head_wider False ctx a e = e
  head_wider Not ctx a e = e
  head_wider Imp ctx a e = e
  head_wider (All b) ctx a e = e
  head_wider (Eq b) ctx a e = e
  head_wider (Choice b) ctx a e = e

  takes_wider : (p : Partial) (h : HoleHead) → TakesHead old p (the_hole_head h) → TakesHead new p (the_hole_head h)
  takes_wider p h t = record { hole = t.hole; is_first = t.is_first; type = t.type; has_type = head_wider h t.hole.context t.type t.has_type }

  -- what the first hole becomes, where the head has a type there
  filled_with : (s : Scope) (p : Partial) (h : Lambda) (t : TakesHead s p h) → filling_at s h p (first_hole [] p) ≡ with_filling (with_holes t.type (head h)) p
  filled_with s p h t =
      ap (filling_at s h p) t.is_first
      ∙ ap (λ (o : Option SimpleType). with_filling (with_holes (unwrap_or o formula) (head h)) p) t.has_type

  grown_same : (p : Sketch) (h : HoleHead) → TakesHead old p.partial (the_hole_head h) → growth_by new (the_hole_head h) p ≡ growth_by old (the_hole_head h) p
  unfolding takes_wider
  grown_same p h t =
      ap (λ (o : Option Partial). record p { partial = unwrap_or o p.partial })
      (filled_with new p.partial (the_hole_head h) (takes_wider p.partial h t) ∙ sym (filled_with old p.partial (the_hole_head h) t))

  sketch_same : (earlier : List Sketch) (s : Stem) → IsStem old earlier s → sketch_of new earlier s ≡ sketch_of old earlier s
  sketch_same earlier (Blank a) h = refl
  sketch_same earlier (Grown p k) h = grown_same (sketch_at earlier p) k h.1

  stem_wider : (earlier : List Sketch) (s : Stem) → IsStem old earlier s → IsStem new earlier s
  stem_wider earlier (Blank a) h = tt
  stem_wider earlier (Grown p k) h = (h.0, takes_wider (sketch_at earlier p).partial k h.1)

  pub sketches-wider : (earlier : List Sketch) (stems : List Stem) → AreStems old earlier stems → sketches_after new earlier stems ≡ sketches_after old earlier stems
  sketches-wider earlier [] h = refl
  sketches-wider earlier (s ∷ stems) h =
      ap (λ (p : Sketch). sketches_after new (earlier ++ p ∷ []) stems) (sketch_same earlier s h.0)
      ∙ sketches-wider (earlier ++ sketch_of old earlier s ∷ []) stems h.1

  pub stems-wider : (earlier : List Sketch) (stems : List Stem) → AreStems old earlier stems → AreStems new earlier stems
  stems-wider earlier [] h = tt
  stems-wider earlier (s ∷ stems) h =
      let A : Sketch → Type 0 = λ p. AreStems new (earlier ++ p ∷ []) stems in
      (stem_wider earlier s h.0, subst A (sym (sketch_same earlier s h.0)) (stems-wider (earlier ++ sketch_of old earlier s ∷ []) stems h.1))
