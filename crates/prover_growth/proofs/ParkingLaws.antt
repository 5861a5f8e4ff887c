-- A partial term more.
use Rattle.std.specs.Prelude.{◌≡◌, ◌<◌, ◌+◌, ◌||◌, nat_eq, ℕ, zero, suc, Bool, true, false, List, [], ◌∷◌, ◌++◌, map, get_or, length, slice_get, Option, Some, None, option_map, refl, if◌then◌else◌}
use Rattle.std.specs.List.{list_any}
use Rattle.std.proofs.Common.{Vec, Global, sym, ap, ap₂, subst, ◌∙◌, append-nil, arith, length-append}
use Rattle.std.proofs.Math.Bool.{or-false}
use Rattle.std.proofs.lemmas.Option.{same_Some}
use Rattle.stt_core.specs.SimpleType.{SimpleType, base, formula, same_type}
use Rattle.stt_core.proofs.ListLaws.{map-append, slice_get-end}
use Rattle.command_queue.specs.Queue.{Queue}
use Rattle.search_spec.specs.Partial.{Hole, hole, first_hole}
use Rattle.search_spec.specs.Heads.{heads_for}
use Rattle.head_offers.specs.Offering.{the_offers}
use Rattle.search_spec.specs.State.{Sketch, grow, with_commands}
use Rattle.search_spec.specs.Terms.{with_opening}
use Rattle.search_spec.specs.Witness.{is_hole_of, has_hole_of}
use Rattle.search_spec.specs.Internal.Loops.{queue_of}
use Rattle.term_bank.specs.Content.{content_scope}
use Rattle.instantiate.specs.Listing.{Listing, ids_of}
use Rattle.prover_state.specs.declared.command.Planned.{Planned}
use Rattle.prover_state.specs.declared.command.Delays.{Delays}
use Rattle.prover_state.specs.declared.stem.Stem.{Stem}
use Rattle.prover_state.specs.declared.tables.Basis.{Basis}
use Rattle.prover_state.specs.declared.tables.Tables.{Tables}
use Rattle.prover_state.specs.Internal.Growing.{Longer, Continues, ExtendsState}
use Rattle.prover_state.specs.Internal.Heads.{sketch_of, sketches_of, IsStem, AreStems}
use Rattle.prover_state.specs.Internal.Holes.{holes_in, leftmost}
use Rattle.prover_state.specs.Internal.Names.{sketch_at}
use Rattle.prover_state.specs.Internal.Standing.{without_witnesses, scope_by, setting_by, sketches_in, naming_in, sources, state_parts, loops_in, the_state, places_where, IsBasis, IsRightState}
use Rattle.prover_state.proofs.HoleLaws.{leftmost-first, holes-length}
use Rattle.prover_state.proofs.LoopStays.{loops-stay, entries-stay}
use Rattle.prover_state.proofs.NamesLaws.{command-stays, numbers-stay}
use Rattle.prover_state.proofs.NotingLaws.{places-last}
use Rattle.prover_state.proofs.PlaceLaws.{at-end}
use Rattle.prover_state.proofs.SketchLaws.{sketches-last, stems-last, stems-length}

-- the witnesses that have types are those of the rows
pub scope-is : (g : Basis) → IsBasis g → scope_by g ≡ content_scope g.bank
scope-is g good = λ i. record { bases = length g.bank.bases; names = map (λ c. c.type) g.bank.consts; witnesses = good.typed i }

-- THEIR TYPES

any_last : {X : Type 0} (test : X → Bool) (xs : List X) (x : X) → list_any test (xs ++ x ∷ []) ≡ (list_any test xs || test x)
any_last test [] x = or-false (test x)
any_last {X} test (y ∷ xs) x = go (test y) (any_last test xs x)
  where
    go : (b : Bool) → list_any test (xs ++ x ∷ []) ≡ (list_any test xs || test x) → (b || list_any test (xs ++ x ∷ [])) ≡ ((b || list_any test xs) || test x)
    go true e = refl
    go false e = e

any_there : {X : Type 0} (test : X → Bool) (xs : List X) (i : ℕ) (d : X) → i < length xs → (list_any test xs || test (get_or xs i d)) ≡ list_any test xs
any_there test [] i d h = absurd (omega (arith, h))
any_there {X} test (x ∷ xs) zero d h = go (test x) (list_any test xs)
  where
    go : (a b : Bool) → ((a || b) || a) ≡ (a || b)
    go true b = refl
    go false true = refl
    go false false = refl
any_there {X} test (x ∷ xs) (suc i) d h = go (test x) (any_there test xs i d (omega (arith, h)))
  where
    go : (a : Bool) → (list_any test xs || test (get_or xs i d)) ≡ list_any test xs → ((a || list_any test xs) || test (get_or xs i d)) ≡ (a || list_any test xs)
    go true e = refl
    go false e = e

module _ (xs : List Sketch) (x : Sketch) (rs : List SimpleType) (roots : (a : SimpleType) → list_any (λ (p : Sketch). same_type a p.type) xs ≡ list_any (same_type a) rs) where
  pub roots-blank : (rs' : List SimpleType) (b : SimpleType) → b ≡ x.type → rs' ≡ rs ++ b ∷ [] → (a : SimpleType) → list_any (λ (p : Sketch). same_type a p.type) (xs ++ x ∷ []) ≡ list_any (same_type a) rs'
  roots-blank rs' b e is a =
      any_last (λ (p : Sketch). same_type a p.type) xs x
      ∙ ap₂ (λ (c d : Bool). c || d) (roots a) (ap (same_type a) (sym e))
      ∙ sym (any_last (same_type a) rs b)
      ∙ ap (list_any (same_type a)) (sym is)

  pub roots-grown : (p : ℕ) → p < length xs → x.type ≡ (sketch_at xs p).type → (a : SimpleType) → list_any (λ (p : Sketch). same_type a p.type) (xs ++ x ∷ []) ≡ list_any (same_type a) rs
  roots-grown p h e a =
      any_last (λ (p : Sketch). same_type a p.type) xs x
      ∙ ap (λ (b : SimpleType). list_any (λ (p : Sketch). same_type a p.type) xs || same_type a b) e
      ∙ any_there (λ (p : Sketch). same_type a p.type) xs p (record { type = formula; partial = hole 0 }) h
      ∙ roots a

-- THEIR FIRST HOLES

pub listed-hole : (n m p : ℕ) (all new : List Listing) (o : Option Hole) → Some m ≡ option_map (λ (h : Hole). h.base) o → ((k : ℕ) → ids_of (base k) new ≡ (if nat_eq m k then ids_of (base k) all ++ p ∷ [] else ids_of (base k) all)) → ids_of (base n) new ≡ (if is_hole_of n o then ids_of (base n) all ++ p ∷ [] else ids_of (base n) all)
listed-hole n m p all new None e is = cc
listed-hole n m p all new (Some h) e is = is n ∙ ap (λ k. if nat_eq k n then ids_of (base n) all ++ p ∷ [] else ids_of (base n) all) (same_Some m h.base e)

pub listed-none : (n p : ℕ) (all : List Listing) (o : Option Hole) → None ≡ option_map (λ (h : Hole). h.base) o → ids_of (base n) all ≡ (if is_hole_of n o then ids_of (base n) all ++ p ∷ [] else ids_of (base n) all)
listed-none n p all None e = refl
listed-none n p all (Some h) e = cc

-- A PARTIAL TERM MORE

itself : {X : Type 0} (xs : List X) → Longer xs xs
itself xs = ([], sym (append-nil xs))

module _ (t : Tables) (q : Queue Planned Delays) (r : IsRightState t q) (stem : Stem) (is : IsStem (scope_by t.basis) (sketches_in t) stem) where
  abbrev pub newest : Sketch
  newest = sketch_of (scope_by t.basis) (sketches_in t) stem

  stems_length : length (sketches_in t) ≡ length t.stems.items
  stems_length = stems-length t q r 0

  module _ (hs : List (List Hole)) (holes : hs ≡ t.open_holes ++ holes_in [] newest.partial ∷ []) where
    pub place-within : length t.stems.items < length hs
    place-within =
        let all = ap length holes in
        let more = length-append t.open_holes (holes_in [] newest.partial ∷ []) in
        let before = holes-length t q r in
        let stems = stems_length in
        omega (arith, all, more, before, stems)

    pub holes-there : slice_get hs (length t.stems.items) ≡ Some (holes_in [] newest.partial)
    holes-there =
        ap (λ ks. slice_get ks (length t.stems.items)) holes
        ∙ ap (slice_get (t.open_holes ++ holes_in [] newest.partial ∷ [])) (sym (holes-length t q r ∙ stems_length))
        ∙ slice_get-end t.open_holes (holes_in [] newest.partial)

    module _ (ss : Vec Stem Global) (stems : ss.items ≡ t.stems.items ++ stem ∷ []) (ls : List Listing) (rs : List SimpleType) where
      abbrev t' : Tables
      t' = record t { stems = ss; open_holes = hs; holes = ls; roots = rs }

      pub sketches-more : sketches_in t' ≡ sketches_in t ++ newest ∷ []
      sketches-more = ap (sketches_of (scope_by t.basis)) stems ∙ sketches-last (scope_by t.basis) [] t.stems.items stem

      end_is : length t.stems.items ≡ 0 + length (sketches_in t)
      end_is = let e = stems_length in omega (arith, e)

      continues : Continues (naming_in t) (naming_in t')
      continues = record {
        within = λ k d h. (r.basis.atoms k d h).within;
        terms = itself t.basis.bank.terms;
        atoms = itself t.basis.lits;
        sketches = (newest ∷ [], sketches-more);
      }

      extends : ExtendsState (sources t) (sources t')
      extends = record {
        noted = itself (sources t).noted;
        terms = itself (sources t).terms;
        rows = itself (sources t).rows;
        parked = (newest ∷ [], sketches-more);
        offers = refl;
      }

      loops_same : loops_in t' q.entries ≡ loops_in t q.entries
      loops_same =
          loops-stay (without_witnesses t.basis.bank) (sources t) (sources t') extends (naming_in t) (naming_in t')
          (command-stays (naming_in t) (naming_in t') continues) (numbers-stay (naming_in t) (naming_in t') continues) q.entries r.queue

      pub state-parked : the_state t' q ≡ record (the_state t q) { parked = (the_state t q).parked ++ newest ∷ [] }
      state-parked = ap₂ (λ (ps : List Sketch) loops. record (state_parts t) { parked = ps; queue = queue_of loops; pushes = q.pushes }) sketches-more loops_same

      pub right-parked : ((n : ℕ) (ks : List Hole) → slice_get hs (length t.stems.items) ≡ Some ks → ids_of (base n) ls ≡ (if is_hole_of n (leftmost ks) then ids_of (base n) t.holes ++ length t.stems.items ∷ [] else ids_of (base n) t.holes))
          → ((a : SimpleType) → list_any (λ p. same_type a p.type) (sketches_in t ++ newest ∷ []) ≡ list_any (same_type a) rs)
          → IsRightState t' q
      right-parked listed roots = record {
        basis = r.basis;
        clauses = r.clauses;
        solver = r.solver;
        seen = r.seen;
        noted = r.noted;
        index = r.index;
        paired = r.paired;
        universals = r.universals;
        terms = r.terms;
        chosen = r.chosen;
        described = r.described;
        walked = r.walked;
        taken = r.taken;
        offered = r.offered;
        takers = r.takers;
        stems = subst (AreStems (scope_by t.basis) []) (sym stems) (stems-last (scope_by t.basis) [] t.stems.items stem r.stems is);
        open_holes =
            holes
            ∙ ap (λ ks. ks ++ holes_in [] newest.partial ∷ []) r.open_holes
            ∙ sym (map-append (λ (p : Sketch). holes_in [] p.partial) (sketches_in t) (newest ∷ []))
            ∙ ap (map (λ (p : Sketch). holes_in [] p.partial)) (sym sketches-more);
        roots = λ a. ap (list_any (λ (p : Sketch). same_type a p.type)) sketches-more ∙ roots a;
        holes = λ n.
            listed n (holes_in [] newest.partial) holes-there
            ∙ ap (λ (o : Option Hole). if is_hole_of n o then ids_of (base n) t.holes ++ length t.stems.items ∷ [] else ids_of (base n) t.holes) (leftmost-first [] newest.partial)
            ∙ ap₂ (λ (ks : List ℕ) k. if has_hole_of n newest then ks ++ k ∷ [] else ks) (r.holes n) end_is
            ∙ sym (places-last (has_hole_of n) 0 (sketches_in t) newest)
            ∙ ap (places_where (has_hole_of n) 0) (sym sketches-more);
        budget = r.budget;
        queue =
            entries-stay (without_witnesses t.basis.bank) (sources t) (sources t') extends (naming_in t) (naming_in t')
            (command-stays (naming_in t) (naming_in t') continues) (numbers-stay (naming_in t) (naming_in t') continues) q.entries r.queue;
      }

  pub newest-at : (xs : List Sketch) (p : ℕ) → xs ≡ sketches_in t ++ newest ∷ [] → p ≡ length t.stems.items → sketch_at xs p ≡ newest
  newest-at xs p are place =
      ap₂ (λ (ys : List Sketch) k. sketch_at ys k) are (place ∙ sym stems_length)
      ∙ at-end (sketches_in t) newest [] (record { type = formula; partial = hole 0 })

  -- with the heads that fit it is opened
  pub opened-newest : (t1 : Tables) (q1 : Queue Planned Delays) (p : ℕ) (are : sketches_in t1 ≡ sketches_in t ++ newest ∷ []) (same : t1.basis ≡ t.basis) (plan : q1 ≡ q) (place : p ≡ length t.stems.items) → the_state t1 q1 ≡ record (the_state t q) { parked = (the_state t q).parked ++ newest ∷ [] }
      → with_commands q1.rule.mode (map (grow (sketch_at (sketches_in t1) p)) (heads_for (the_offers t1.offers) (scope_by t1.basis) (first_hole [] (sketch_at (sketches_in t1) p).partial))) (the_state t1 q1) ≡ with_opening (setting_by t q) newest (the_state t q)
  opened-newest t1 q1 p are same plan place state =
      let x = newest-at (sketches_in t1) p are place in
      λ i. with_commands (plan i).rule.mode (map (grow (x i)) (heads_for (state i).offers (scope_by (same i)) (first_hole [] (x i).partial))) (state i)

  -- the same after the writes, one after the other
  module _ (t1 t2 t3 : Tables) (e1 : t1 ≡ record t { open_holes = t1.open_holes }) (e2 : t2 ≡ record t1 { roots = t2.roots }) (e3 : t3 ≡ record t2 { holes = t3.holes }) (p : ℕ) (place : p ≡ length t.stems.items) (holes : t1.open_holes ≡ t.open_holes ++ holes_in [] newest.partial ∷ []) where
    two : t2 ≡ record t { open_holes = t1.open_holes; roots = t2.roots }
    two = e2 ∙ ap (λ (u : Tables). record u { roots = t2.roots }) e1

    three : t3 ≡ record t { open_holes = t1.open_holes; roots = t2.roots; holes = t3.holes }
    three = e3 ∙ ap (λ (u : Tables). record u { holes = t3.holes }) two

    pub within-later : p < length t2.open_holes
    within-later =
        let n = place-within t1.open_holes holes in
        let e = ap (λ (u : Tables). length u.open_holes) two in
        omega (arith, n, e, place)

    module _ (ss : Vec Stem Global) (stems : ss.items ≡ t3.stems.items ++ stem ∷ []) where
      stems_here : ss.items ≡ t.stems.items ++ stem ∷ []
      stems_here = stems ∙ ap (λ (u : Tables). u.stems.items ++ stem ∷ []) three

      written : record t3 { stems = ss } ≡ record t { stems = ss; open_holes = t1.open_holes; holes = t3.holes; roots = t2.roots }
      written = ap (λ (u : Tables). record u { stems = ss }) three

      pub sketches-written : sketches_in (record t3 { stems = ss }) ≡ sketches_in t ++ newest ∷ []
      sketches-written = ap sketches_in written ∙ sketches-more t1.open_holes holes ss stems_here t3.holes t2.roots

      pub state-written : the_state (record t3 { stems = ss }) q ≡ record (the_state t q) { parked = (the_state t q).parked ++ newest ∷ [] }
      state-written = ap (λ u. the_state u q) written ∙ state-parked t1.open_holes holes ss stems_here t3.holes t2.roots

      pub right-written : ((n : ℕ) (ks : List Hole) → slice_get t2.open_holes p ≡ Some ks → ids_of (base n) t3.holes ≡ (if is_hole_of n (leftmost ks) then ids_of (base n) t2.holes ++ p ∷ [] else ids_of (base n) t2.holes))
          → ((a : SimpleType) → list_any (λ p. same_type a p.type) (sketches_in t1 ++ sketch_of (scope_by t1.basis) (sketches_in t1) stem ∷ []) ≡ list_any (same_type a) t2.roots)
          → IsRightState (record t3 { stems = ss }) q
      right-written listed roots =
          let Listed : Tables → ℕ → Type 0 = λ u k. (n : ℕ) (ks : List Hole) → slice_get u.open_holes k ≡ Some ks → ids_of (base n) t3.holes ≡ (if is_hole_of n (leftmost ks) then ids_of (base n) u.holes ++ k ∷ [] else ids_of (base n) u.holes) in
          let Roots : Tables → Type 0 = λ u. (a : SimpleType) → list_any (λ p. same_type a p.type) (sketches_in u ++ sketch_of (scope_by u.basis) (sketches_in u) stem ∷ []) ≡ list_any (same_type a) t2.roots in
          let R : Tables → Type 0 = λ u. IsRightState u q in
          subst R (sym written)
          (right-parked t1.open_holes holes ss stems_here t3.holes t2.roots (subst (λ u. Listed u (length t.stems.items)) two (subst (Listed t2) place listed)) (subst Roots e1 roots))
