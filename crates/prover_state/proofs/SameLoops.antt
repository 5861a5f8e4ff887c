-- Each command of a loop has the loop.
use Rattle.std.specs.Prelude.{◌≡◌, ◌&&◌, not, ℕ, zero, suc, Bool, true, false, List, [], ◌∷◌, map, filter, slice_get, Option, Some, None, refl, if◌then◌else◌}
use Rattle.std.proofs.Common.{sym, ap, subst, ◌∙◌, eqb-true}
use Rattle.std.proofs.lemmas.Bool.{and_parts}
use Rattle.std.proofs.lemmas.Option.{same_Some}
use Rattle.stt_core.specs.Typing.{Scope}
use Rattle.tableau_calculus.specs.Literals.{Literal}
use Rattle.search_spec.specs.Partial.{Hole, first_hole}
use Rattle.search_spec.specs.Partners.{positive_first}
use Rattle.search_spec.specs.Terms.{terms_of, ranges_over, universals}
use Rattle.search_spec.specs.Witness.{is_hole_of, has_hole_of}
use Rattle.search_spec.specs.State.{State, Sketch, Command as Meant, process, mate, confront, inst, grow, choose, describe}
use Rattle.prover_state.specs.declared.command.Over.{Over}
use Rattle.prover_state.specs.declared.command.Over.TheVariants.{Terms, Universals, Negatives, Positives, Heads, Parked}
use Rattle.prover_state.specs.Internal.Pending.{range_of, base_of, over_terms, over_universals, over_negatives, over_positives, over_heads, over_parked, loop_over, IsSigned}
use Rattle.prover_state.proofs.TermLaws.{range-is}

-- what stands in a mapped list comes from an element
pub mapped-at : {X Y : Type 0} (f : X → Y) (xs : List X) (i : ℕ) (y : Y) → slice_get (map f xs) i ≡ Some y → (x : X) × ((slice_get xs i ≡ Some x) × (y ≡ f x))
mapped-at f [] i y h = cc
mapped-at f (x ∷ xs) zero y h = (x, (refl, sym (same_Some (f x) y h)))
mapped-at f (x ∷ xs) (suc i) y h = mapped-at f xs i y h

-- what stands in a filtered list passes
pub passes-at : {X : Type 0} (test : X → Bool) (xs : List X) (i : ℕ) (x : X) → slice_get (filter test xs) i ≡ Some x → test x ≡ true
passes-at test [] i x h = cc
passes-at {X} test (y ∷ xs) i x h = go (test y) refl i h (λ j k. passes-at test xs j x k)
  where
    go : (b : Bool) → test y ≡ b → (i : ℕ) → slice_get (if b then y ∷ filter test xs else filter test xs) i ≡ Some x → ((j : ℕ) → slice_get (filter test xs) j ≡ Some x → test x ≡ true) → test x ≡ true
    go true e zero k rest = ap test (sym (same_Some y x k)) ∙ e
    go true e (suc j) k rest = rest j k
    go false e j k rest = rest j k

module _ (scope : Scope) (s : State) where
  in_terms : (i : ℕ) (c c' : Meant) → slice_get (over_terms s c) i ≡ Some c' → over_terms s c' ≡ over_terms s c
  in_terms i (inst l u) c' h = let m = mapped-at (inst l) (terms_of (range_of l.atom) s) i c' h in ap (over_terms s) m.1.1
  in_terms i (process l) c' h = cc
  in_terms i (mate l m) c' h = cc
  in_terms i (confront l m) c' h = cc
  in_terms i (grow p k) c' h = cc
  in_terms i (choose a f) c' h = cc
  in_terms i (describe a f) c' h = cc

  in_universals : (i : ℕ) (c c' : Meant) → slice_get (over_universals s c) i ≡ Some c' → over_universals s c' ≡ over_universals s c
  in_universals i (inst l u) c' h =
      let m = mapped-at (λ k. inst k u) (universals (range_of l.atom) s) i c' h in
      let e = passes-at (λ (k : Literal). k.positive && ranges_over (range_of l.atom) k.atom) s.noted i m.0 m.1.0 in
      ap (over_universals s) m.1.1 ∙ ap (λ a. map (λ k. inst k u) (universals a s)) (range-is (range_of l.atom) m.0 e)
  in_universals i (process l) c' h = cc
  in_universals i (mate l m) c' h = cc
  in_universals i (confront l m) c' h = cc
  in_universals i (grow p k) c' h = cc
  in_universals i (choose a f) c' h = cc
  in_universals i (describe a f) c' h = cc

  positive_mate : (l m : Literal) (b : Bool) → b ≡ true → (if b then mate l m else mate m l) ≡ mate l m
  positive_mate l m true e = refl
  positive_mate l m false e = cc

  negative_mate : (l m : Literal) (b : Bool) → b ≡ false → (if b then mate l m else mate m l) ≡ mate m l
  negative_mate l m true e = cc
  negative_mate l m false e = refl

  positive_confront : (l m : Literal) (b : Bool) → b ≡ true → (if b then confront l m else confront m l) ≡ confront l m
  positive_confront l m true e = refl
  positive_confront l m false e = cc

  negative_confront : (l m : Literal) (b : Bool) → b ≡ false → (if b then confront l m else confront m l) ≡ confront m l
  negative_confront l m true e = cc
  negative_confront l m false e = refl

  unsigned : (b : Bool) → not b ≡ true → b ≡ false
  unsigned true e = cc
  unsigned false e = refl

  in_negatives : (i : ℕ) (c c' : Meant) → IsSigned Negatives c → slice_get (over_negatives s c) i ≡ Some c' → (over_negatives s c' ≡ over_negatives s c) × IsSigned Negatives c'
  in_negatives i (mate l m) c' g h =
      let x = mapped-at (positive_first mate l) _ i c' h in
      let e : c' ≡ mate l x.0 = x.1.1 ∙ positive_mate l x.0 l.positive (and_parts _ _ g).0 in
      let S : Meant → Type 0 = λ d. IsSigned Negatives d in
      (ap (over_negatives s) e, subst S (sym e) g)
  in_negatives i (confront l m) c' g h =
      let x = mapped-at (positive_first confront l) _ i c' h in
      let e : c' ≡ confront l x.0 = x.1.1 ∙ positive_confront l x.0 l.positive (and_parts _ _ g).0 in
      let S : Meant → Type 0 = λ d. IsSigned Negatives d in
      (ap (over_negatives s) e, subst S (sym e) g)
  in_negatives i (process l) c' g h = cc
  in_negatives i (inst l u) c' g h = cc
  in_negatives i (grow p k) c' g h = cc
  in_negatives i (choose a f) c' g h = cc
  in_negatives i (describe a f) c' g h = cc

  in_positives : (i : ℕ) (c c' : Meant) → IsSigned Positives c → slice_get (over_positives s c) i ≡ Some c' → (over_positives s c' ≡ over_positives s c) × IsSigned Positives c'
  in_positives i (mate l m) c' g h =
      let x = mapped-at (positive_first mate m) _ i c' h in
      let e : c' ≡ mate x.0 m = x.1.1 ∙ negative_mate m x.0 m.positive (unsigned m.positive (and_parts _ _ g).0) in
      let S : Meant → Type 0 = λ d. IsSigned Positives d in
      (ap (over_positives s) e, subst S (sym e) g)
  in_positives i (confront l m) c' g h =
      let x = mapped-at (positive_first confront m) _ i c' h in
      let e : c' ≡ confront x.0 m = x.1.1 ∙ negative_confront m x.0 m.positive (unsigned m.positive (and_parts _ _ g).0) in
      let S : Meant → Type 0 = λ d. IsSigned Positives d in
      (ap (over_positives s) e, subst S (sym e) g)
  in_positives i (process l) c' g h = cc
  in_positives i (inst l u) c' g h = cc
  in_positives i (grow p k) c' g h = cc
  in_positives i (choose a f) c' g h = cc
  in_positives i (describe a f) c' g h = cc

  in_heads : (n i : ℕ) (c c' : Meant) → slice_get (over_heads scope s n c) i ≡ Some c' → over_heads scope s n c' ≡ over_heads scope s n c
  in_heads n i (grow p k) c' h = let m = mapped-at (grow p) _ i c' h in ap (over_heads scope s n) m.1.1
  in_heads n i (process l) c' h = cc
  in_heads n i (mate l m) c' h = cc
  in_heads n i (confront l m) c' h = cc
  in_heads n i (inst l u) c' h = cc
  in_heads n i (choose a f) c' h = cc
  in_heads n i (describe a f) c' h = cc

  same_base : (n : ℕ) (q : Sketch) → has_hole_of n q ≡ true → base_of (first_hole [] q.partial) ≡ n
  same_base n q h = go (first_hole [] q.partial) h
    where
      go : (o : Option Hole) → is_hole_of n o ≡ true → base_of o ≡ n
      go None e = cc
      go (Some k) e = eqb-true k.base n e

  in_parked : (i : ℕ) (c c' : Meant) → slice_get (over_parked s c) i ≡ Some c' → over_parked s c' ≡ over_parked s c
  in_parked i (grow p k) c' h =
      let b = base_of (first_hole [] p.partial) in
      let m = mapped-at (λ q. grow q k) (filter (has_hole_of b) s.parked) i c' h in
      let e = passes-at (has_hole_of b) s.parked i m.0 m.1.0 in
      ap (over_parked s) m.1.1 ∙ ap (λ n. map (λ q. grow q k) (filter (has_hole_of n) s.parked)) (same_base b m.0 e)
  in_parked i (process l) c' h = cc
  in_parked i (mate l m) c' h = cc
  in_parked i (confront l m) c' h = cc
  in_parked i (inst l u) c' h = cc
  in_parked i (choose a f) c' h = cc
  in_parked i (describe a f) c' h = cc

  pub same-loop : (o : Over) (i : ℕ) (c c' : Meant) → IsSigned o c → slice_get (loop_over scope s o c) i ≡ Some c' → (loop_over scope s o c' ≡ loop_over scope s o c) × IsSigned o c'
  same-loop Terms i c c' g h = (in_terms i c c' h, tt)
  same-loop Universals i c c' g h = (in_universals i c c' h, tt)
  same-loop Negatives i c c' g h = in_negatives i c c' g h
  same-loop Positives i c c' g h = in_positives i c c' g h
  same-loop (Heads n) i c c' g h = (in_heads n i c c' h, tt)
  same-loop Parked i c c' g h = (in_parked i c c' h, tt)
