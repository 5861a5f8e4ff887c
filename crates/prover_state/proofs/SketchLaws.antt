-- Partial terms by the stems from which they grew.
use Rattle.std.specs.Prelude.{◌≡◌, ◌<◌, ◌+◌, ℕ, zero, suc, List, [], ◌∷◌, ◌++◌, get_or, length, slice_get, Some, refl}
use Rattle.std.proofs.Common.{sym, ap, ap₂, subst, ◌∙◌, arith, append-nil, append_assoc, length-append}
use Rattle.std.proofs.lemmas.Option.{same_Some}
use Rattle.stt_core.specs.SimpleType.{formula}
use Rattle.stt_core.specs.Typing.{Scope}
use Rattle.stt_core.specs.View.{the_type}
use Rattle.command_queue.specs.Queue.{Queue}
use Rattle.term_bank.proofs.ListLaws.{get_or-front}
use Rattle.search_spec.specs.Commands.{growth_by}
use Rattle.search_spec.specs.Partial.{hole, blank_partial}
use Rattle.search_spec.specs.State.{Sketch}
use Rattle.instantiate.specs.Growing.{TakesHead}
use Rattle.prover_state.specs.declared.command.Planned.{Planned}
use Rattle.prover_state.specs.declared.command.Delays.{Delays}
use Rattle.prover_state.specs.declared.head.HoleHead.{HoleHead}
use Rattle.prover_state.specs.declared.stem.Stem.{Stem}
use Rattle.prover_state.specs.declared.stem.Stem.TheVariants.{Blank, Grown}
use Rattle.prover_state.specs.declared.tables.Tables.{Tables}
use Rattle.prover_state.specs.Internal.Heads.{the_hole_head, sketch_of, sketches_after, IsStem, AreStems}
use Rattle.prover_state.specs.Internal.Names.{sketch_at}
use Rattle.prover_state.specs.Internal.Standing.{scope_by, sketches_in, IsRightState}
use Rattle.prover_state.proofs.PlaceLaws.{at-end}

module _ (scope : Scope) where
  pub sketches-last : (earlier : List Sketch) (stems : List Stem) (s : Stem) → sketches_after scope earlier (stems ++ s ∷ []) ≡ sketches_after scope earlier stems ++ sketch_of scope (sketches_after scope earlier stems) s ∷ []
  sketches-last earlier [] s = refl
  sketches-last earlier (x ∷ stems) s = sketches-last (earlier ++ sketch_of scope earlier x ∷ []) stems s

  pub stems-last : (earlier : List Sketch) (stems : List Stem) (s : Stem) → AreStems scope earlier stems → IsStem scope (sketches_after scope earlier stems) s → AreStems scope earlier (stems ++ s ∷ [])
  stems-last earlier [] s a i = (i, tt)
  stems-last earlier (x ∷ stems) s a i = (a.0, stems-last (earlier ++ sketch_of scope earlier x ∷ []) stems s a.1 i)

  pub sketches-length : (earlier : List Sketch) (stems : List Stem) → length (sketches_after scope earlier stems) ≡ length earlier + length stems
  sketches-length earlier [] = omega arith
  sketches-length earlier (x ∷ stems) =
      let further = sketches-length (earlier ++ sketch_of scope earlier x ∷ []) stems in
      let n = length-append earlier (sketch_of scope earlier x ∷ []) in
      omega (arith, further, n)

  -- the partial terms before a stem's own, and those behind it
  pub record StandsAt (earlier : List Sketch) (stems : List Stem) (i : ℕ) (s : Stem) : Type 0 where
    pub before : List Sketch
    pub behind : List Sketch
    pub are : sketches_after scope earlier stems ≡ before ++ sketch_of scope before s ∷ behind
    pub place : length before ≡ length earlier + i
    pub stem : IsStem scope before s

  begins : (earlier : List Sketch) (stems : List Stem) → (more : List Sketch) × (sketches_after scope earlier stems ≡ earlier ++ more)
  begins earlier [] = ([], sym (append-nil earlier))
  begins earlier (x ∷ stems) =
      let y = sketch_of scope earlier x in
      let b = begins (earlier ++ y ∷ []) stems in
      (y ∷ b.0, b.1 ∙ append_assoc earlier (y ∷ []) b.0)

  pub stands-at : (earlier : List Sketch) (stems : List Stem) (i : ℕ) (s : Stem) → AreStems scope earlier stems → slice_get stems i ≡ Some s → StandsAt earlier stems i s
  stands-at earlier [] i s a h = cc
  stands-at earlier (x ∷ stems) zero s a h =
      let y = sketch_of scope earlier x in
      let b = begins (earlier ++ y ∷ []) stems in
      let At : Stem → Type 0 = λ z. StandsAt earlier (x ∷ stems) 0 z in
      subst At (same_Some x s h) (record { before = earlier; behind = b.0; are = b.1 ∙ append_assoc earlier (y ∷ []) b.0; place = omega arith; stem = a.0 })
  stands-at earlier (x ∷ stems) (suc i) s a h =
      let later = stands-at (earlier ++ sketch_of scope earlier x ∷ []) stems i s a.1 h in
      let n = length-append earlier (sketch_of scope earlier x ∷ []) in
      record { before = later.before; behind = later.behind; are = later.are; place = omega (arith, later.place, n); stem = later.stem }

module _ (t : Tables) (q : Queue Planned Delays) (r : IsRightState t q) (p : ℕ) where
  abbrev sketches : List Sketch
  sketches = sketches_in t

  abbrev no_sketch : Sketch
  no_sketch = record { type = formula; partial = hole 0 }

  pub stems-length : length (sketches_in t) ≡ length t.stems.items
  stems-length = let n = sketches-length (scope_by t.basis) [] t.stems.items in omega (arith, n)

  module _ (s : Stem) (at : slice_get t.stems.items p ≡ Some s) where
    stands : StandsAt (scope_by t.basis) [] t.stems.items p s
    stands = stands-at (scope_by t.basis) [] t.stems.items p s r.stems at

    sketch_there : sketch_at sketches p ≡ sketch_of (scope_by t.basis) stands.before s
    sketch_there =
        let n : p ≡ length stands.before = let e = stands.place in omega (arith, e) in
        ap₂ (λ (xs : List Sketch) k. get_or xs k no_sketch) stands.are n ∙ at-end stands.before (sketch_of (scope_by t.basis) stands.before s) stands.behind no_sketch

    before_there : (m : ℕ) → m < length stands.before → sketch_at stands.before m ≡ sketch_at sketches m
    before_there m h = sym (ap (λ (xs : List Sketch). get_or xs m no_sketch) stands.are ∙ get_or-front stands.before (sketch_of (scope_by t.basis) stands.before s ∷ stands.behind) m no_sketch h)

  pub sketch-blank : (a : _) → slice_get t.stems.items p ≡ Some (Blank a) → sketch_at sketches p ≡ record { type = the_type a.value; partial = blank_partial (the_type a.value) }
  sketch-blank a at = sketch_there (Blank a) at

  module _ (m : ℕ) (h : HoleHead) (at : slice_get t.stems.items p ≡ Some (Grown m h)) where
    pub parent-before : m < p
    parent-before = let s = stands (Grown m h) at in omega (arith, s.stem.0, s.place)

    pub parent-takes : TakesHead (scope_by t.basis) (sketch_at sketches m).partial (the_hole_head h)
    parent-takes =
        let s = stands (Grown m h) at in
        let T : Sketch → Type 0 = λ x. TakesHead (scope_by t.basis) x.partial (the_hole_head h) in
        subst T (before_there (Grown m h) at m s.stem.0) s.stem.1

    pub sketch-grown : sketch_at sketches p ≡ growth_by (scope_by t.basis) (the_hole_head h) (sketch_at sketches m)
    sketch-grown =
        let s = stands (Grown m h) at in
        sketch_there (Grown m h) at ∙ ap (growth_by (scope_by t.basis) (the_hole_head h)) (before_there (Grown m h) at m s.stem.0)
