-- Parked partial terms that take a head.
use Rattle.std.specs.Prelude.{◌≡◌, ℕ, true, List, [], ◌∷◌, map, filter, slice_get, Option, Some, None}
use Rattle.std.proofs.Common.{sym, ap, subst, ◌∙◌, eqb-true}
use Rattle.stt_core.specs.SimpleType.{base, formula}
use Rattle.stt_core.specs.Lambda.{Lambda}
use Rattle.command_queue.specs.Queue.{Queue}
use Rattle.tableau_calculus.specs.Each.{Each}
use Rattle.search_spec.specs.Partial.{Hole, hole, first_hole}
use Rattle.search_spec.specs.State.{Sketch, grow}
use Rattle.search_spec.specs.Witness.{is_hole_of, has_hole_of}
use Rattle.instantiate.specs.Listing.{ids_of}
use Rattle.prover_state.specs.declared.command.Command.TheVariants.{Grow}
use Rattle.prover_state.specs.declared.command.Planned.{Planned}
use Rattle.prover_state.specs.declared.command.Delays.{Delays}
use Rattle.prover_state.specs.declared.tables.Tables.{Tables}
use Rattle.prover_state.specs.Internal.HeadNumbers.{head_numbered}
use Rattle.prover_state.specs.Internal.Names.{sketch_at, command_at}
use Rattle.prover_state.specs.Internal.Pending.{base_of, over_parked}
use Rattle.prover_state.specs.Internal.Standing.{naming_in, sketches_in, sources, IsRightState}
use Rattle.prover_state.proofs.EachLaws.{each-at, each-unmapped}
use Rattle.prover_state.proofs.PlaceLaws.{each-passes, filter-places, map-mapped}

abbrev no_sketch : Sketch
no_sketch = record { type = formula; partial = hole 0 }

hole_base : (n : ℕ) (o : Option Hole) → is_hole_of n o ≡ true → base_of o ≡ n
hole_base n None e = cc
hole_base n (Some k) e = eqb-true k.base n e

each_of : (sketches : List Sketch) → Each (λ (p : Sketch). Unit {0}) sketches
each_of [] = tt
each_of (p ∷ sketches) = (tt, each_of sketches)

module _ (t : Tables) (q : Queue Planned Delays) (r : IsRightState t q) (n : ℕ) where
  abbrev sketches : List Sketch
  sketches = sketches_in t

  abbrev ids : List ℕ
  ids = ids_of (base n) t.holes

  pub passing-are : filter (has_hole_of n) sketches ≡ map (sketch_at sketches) ids
  passing-are = filter-places (has_hole_of n) no_sketch [] sketches ∙ ap (map (sketch_at sketches)) (sym (r.holes n))

  each_passing : Each (λ (i : ℕ). Unit {0} × (has_hole_of n (sketch_at sketches i) ≡ true)) ids
  each_passing =
      let P : Sketch → Type 0 = λ p. Unit {0} × (has_hole_of n p ≡ true) in
      each-unmapped P (sketch_at sketches) ids
      (subst (Each P) passing-are (each-passes (λ (p : Sketch). Unit {0}) (has_hole_of n) sketches (each_of sketches)))

  module _ (h : ℕ) (w : Lambda) (is : head_numbered h ≡ w) where
    -- the commands for the partial terms whose first hole has the base type
    pub parked-commands : map (λ (p : Sketch). grow p w) (filter (has_hole_of n) sketches) ≡ map (λ i. command_at (naming_in t) (Grow i h)) ids
    parked-commands =
        ap (λ u. map (λ (p : Sketch). grow p u) (filter (has_hole_of n) sketches)) (sym is)
        ∙ ap (map (λ (p : Sketch). grow p (head_numbered h))) passing-are
        ∙ map-mapped (λ (p : Sketch). grow p (head_numbered h)) (sketch_at sketches) ids

    -- they are the loop of the first one
    pub parked-are : (i : ℕ) → slice_get ids 0 ≡ Some i → over_parked (sources t) (command_at (naming_in t) (Grow i h)) ≡ map (λ j. command_at (naming_in t) (Grow j h)) ids
    parked-are i at =
        let e = each-at (λ (j : ℕ). Unit {0} × (has_hole_of n (sketch_at sketches j) ≡ true)) ids 0 i each_passing at in
        ap (λ b. map (λ (p : Sketch). grow p (head_numbered h)) (filter (has_hole_of b) sketches)) (hole_base n (first_hole [] (sketch_at sketches i).partial) e.1)
        ∙ ap (map (λ (p : Sketch). grow p (head_numbered h))) passing-are
        ∙ map-mapped (λ (p : Sketch). grow p (head_numbered h)) (sketch_at sketches) ids
