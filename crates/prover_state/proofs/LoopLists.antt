-- Loops of commands, by numbers.
use Rattle.std.specs.Prelude.{◌≡◌, ◌<◌, ◌≤◌, ℕ, List, [], ◌∷◌, map, length, slice_get, Some, refl}
use Rattle.std.proofs.Common.{ap, ◌∙◌, arith}
use Rattle.std.proofs.lemmas.List.{length-map}
use Rattle.stt_core.proofs.ListLaws.{mapped_get}
use Rattle.tableau_calculus.specs.Literals.{Literal}
use Rattle.sat_base.specs.declared.literal.SatLit.{SatLit}
use Rattle.command_queue.specs.Queue.{Queue}
use Rattle.search_spec.specs.State.{Command as Meant, inst}
use Rattle.term_bank.specs.Terms.{term_at}
use Rattle.literal_map.specs.Atoms.{bank_literal}
use Rattle.instantiate.specs.Listing.{ids_of}
use Rattle.prover_state.specs.declared.command.Command.TheVariants.{Inst}
use Rattle.prover_state.specs.declared.command.Planned.{Planned}
use Rattle.prover_state.specs.declared.command.Delays.{Delays}
use Rattle.prover_state.specs.declared.tables.Tables.{Tables}
use Rattle.prover_state.specs.Internal.Names.{command_at}
use Rattle.prover_state.specs.Internal.Pending.{range_of, over_terms, over_universals, BeginsWith}
use Rattle.prover_state.specs.Internal.Standing.{naming_in, sources, IsRightState}
use Rattle.prover_state.proofs.PlaceLaws.{terms-of, map-mapped}
use Rattle.prover_state.proofs.TermLaws.{noted_at, universals-are}

-- what stands in a list that is another one mapped
module _ {X Y : Type 0} (ys : List Y) (f : X → Y) (xs : List X) (are : ys ≡ map f xs) where
  pub got-mapped : (i : ℕ) (x : X) → slice_get xs i ≡ Some x → slice_get ys i ≡ Some (f x)
  got-mapped i x at = ap (λ zs. slice_get zs i) are ∙ mapped_get f xs i x at

  pub length-mapped : length ys ≡ length xs
  length-mapped = ap length are ∙ length-map xs f

  pub within-mapped : (i : ℕ) → i < length ys → i < length xs
  within-mapped i h = let n = length-mapped in omega (arith, h, n)

  pub begins-mapped : (x : X) (more : List X) → xs ≡ x ∷ more → BeginsWith (f x) ys
  begins-mapped x more is = (map f more, are ∙ ap (map f) is)

pub no-items : {X : Type 0} (xs : List X) → length xs ≤ 0 → xs ≡ []
no-items [] h = refl
no-items (x ∷ xs) h = absurd (omega (arith, h))

module _ (t : Tables) (q : Queue Planned Delays) (r : IsRightState t q) where
  abbrev d : SatLit → Literal
  d = bank_literal t.basis.bank.terms t.basis.lits

  -- the loop over the terms of the type over which a literal ranges
  pub terms-loop : (l : SatLit) (u : ℕ) → over_terms (sources t) (command_at (naming_in t) (Inst l u)) ≡ map (λ i. command_at (naming_in t) (Inst l i)) (ids_of (range_of (d l).atom) t.terms)
  terms-loop l u =
      ap (map (inst (d l))) (terms-of t.basis.bank.terms (range_of (d l).atom) t.terms)
      ∙ map-mapped (inst (d l)) (term_at t.basis.bank.terms) (ids_of (range_of (d l).atom) t.terms)

  -- the loop over the universal literals of that type
  pub universal-loop : (l : SatLit) (u : ℕ) → over_universals (sources t) (command_at (naming_in t) (Inst l u)) ≡ map (λ i. command_at (naming_in t) (Inst (noted_at t q r (range_of (d l).atom) i) u)) (ids_of (range_of (d l).atom) t.universals)
  universal-loop l u =
      let a = range_of (d l).atom in
      let with : Literal → Meant = λ k. inst k (term_at t.basis.bank.terms u) in
      ap (map with) (universals-are t q r a)
      ∙ map-mapped with d (map (noted_at t q r a) (ids_of a t.universals))
      ∙ map-mapped (λ k. with (d k)) (noted_at t q r a) (ids_of a t.universals)
