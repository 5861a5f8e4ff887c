-- The holes of parked partial terms.
use Rattle.std.specs.Prelude.{◌≡◌, ◌<◌, ℕ, zero, suc, List, [], ◌∷◌, ◌++◌, map, get_or, length, slice_get, Some, refl}
use Rattle.std.proofs.Common.{sym, ap, ap₂, subst, ◌∙◌, arith}
use Rattle.std.proofs.lemmas.List.{length-map}
use Rattle.stt_core.specs.SimpleType.{SimpleType, base, formula}
use Rattle.stt_core.proofs.ListLaws.{mapped_get}
use Rattle.command_queue.specs.Queue.{Queue}
use Rattle.tableau_calculus.specs.Each.{Each}
use Rattle.search_spec.specs.Partial.{Hole, Partial, hole, head, function, application, or_else, first_hole}
use Rattle.search_spec.specs.State.{Sketch, Command as Meant, grow}
use Rattle.search_spec.specs.Witness.{has_hole_of}
use Rattle.instantiate.specs.Listing.{ids_of}
use Rattle.prover_state.specs.declared.command.Command.TheVariants.{Grow}
use Rattle.prover_state.specs.declared.command.Planned.{Planned}
use Rattle.prover_state.specs.declared.command.Delays.{Delays}
use Rattle.prover_state.specs.declared.tables.Tables.{Tables}
use Rattle.prover_state.specs.Internal.HeadNumbers.{head_numbered}
use Rattle.prover_state.specs.Internal.Holes.{holes_in, leftmost}
use Rattle.prover_state.specs.Internal.Names.{sketch_at, command_at}
use Rattle.prover_state.specs.Internal.Pending.{base_of, over_parked}
use Rattle.prover_state.specs.Internal.Standing.{naming_in, sketches_in, sources, IsRightState}
use Rattle.prover_state.proofs.PlaceLaws.{filter-places, places-below, map-mapped}

leftmost_of : (xs ys : List Hole) → leftmost (xs ++ ys) ≡ or_else (leftmost xs) (leftmost ys)
leftmost_of [] ys = refl
leftmost_of (x ∷ xs) ys = refl

pub leftmost-first : (context : List SimpleType) (p : Partial) → leftmost (holes_in context p) ≡ first_hole context p
leftmost-first context (hole n) = refl
leftmost-first context (head h) = refl
leftmost-first context (function a p) = leftmost-first (a ∷ context) p
leftmost-first context (application p q) = leftmost_of (holes_in context p) (holes_in context q) ∙ ap₂ or_else (leftmost-first context p) (leftmost-first context q)

abbrev no_sketch : Sketch
no_sketch = record { type = formula; partial = hole 0 }

-- what stands at a place that is there
pub there-is : {X : Type 0} (xs : List X) (i : ℕ) (d : X) → i < length xs → slice_get xs i ≡ Some (get_or xs i d)
there-is [] i d h = absurd (omega (arith, h))
there-is (x ∷ xs) zero d h = refl
there-is (x ∷ xs) (suc i) d h = there-is xs i d (omega (arith, h))

module _ (t : Tables) (q : Queue Planned Delays) (r : IsRightState t q) where
  abbrev sketches : List Sketch
  sketches = sketches_in t

  -- the holes of a parked partial term
  pub holes-at : (p : ℕ) → p < length sketches → slice_get t.open_holes p ≡ Some (holes_in [] (sketch_at sketches p).partial)
  holes-at p h = ap (λ hs. slice_get hs p) r.open_holes ∙ mapped_get (λ (s : Sketch). holes_in [] s.partial) sketches p (sketch_at sketches p) (there-is sketches p no_sketch h)

  pub base-at : (p : ℕ) → p < length sketches → (b : ℕ) → ((holes : List Hole) → slice_get t.open_holes p ≡ Some holes → b ≡ base_of (leftmost holes)) → b ≡ base_of (first_hole [] (sketch_at sketches p).partial)
  base-at p h b told = told (holes_in [] (sketch_at sketches p).partial) (holes-at p h) ∙ ap base_of (leftmost-first [] (sketch_at sketches p).partial)

  -- the loop over the partial terms that take a head
  pub parked-loop : (p h : ℕ) → over_parked (sources t) (command_at (naming_in t) (Grow p h)) ≡ map (λ i. command_at (naming_in t) (Grow i h)) (ids_of (base (base_of (first_hole [] (sketch_at sketches p).partial))) t.holes)
  parked-loop p h =
      let n = base_of (first_hole [] (sketch_at sketches p).partial) in
      let with : Sketch → Meant = λ s. grow s (head_numbered h) in
      ap (map with) (filter-places (has_hole_of n) no_sketch [] sketches)
      ∙ map-mapped with (sketch_at sketches) _
      ∙ ap (map (λ i. command_at (naming_in t) (Grow i h))) (sym (r.holes n))

  pub parked-below : (n : ℕ) → Each (λ i. i < length sketches) (ids_of (base n) t.holes)
  parked-below n = subst (Each (λ i. i < length sketches)) (sym (r.holes n)) (places-below (has_hole_of n) sketches)

  pub holes-length : length t.open_holes ≡ length sketches
  holes-length = ap length r.open_holes ∙ length-map sketches (λ (s : Sketch). holes_in [] s.partial)
