-- Tables in which nothing was done yet.
use Rattle.std.specs.Prelude.{◌≡◌, ◌<◌, ◌≤◌, ◌+◌, nat_eq, ℕ, zero, suc, Bool, true, false, List, [], ◌∷◌, ◌++◌, map, filter, drop, length, slice_get, Some, option_map, refl, if◌then◌else◌}
use Rattle.std.specs.List.{list_any}
use Rattle.std.proofs.Common.{sym, ap, subst, ◌∙◌, arith}
use Rattle.std.proofs.lemmas.Bool.{eqb-true, eq-eqb, ne_eqb}
use Rattle.stt_core.specs.SimpleType.{SimpleType, base, same_type, target}
use Rattle.stt_core.specs.TypedName.{TypedName}
use Rattle.tableau_calculus.specs.Witnesses.{Row}
use Rattle.sat_core.specs.Solver.{SolverState, learned}
use Rattle.command_queue.specs.Queue.{Queue}
use Rattle.command_queue.specs.declared.entry.Entry.{Entry}
use Rattle.literal_map.specs.Atoms.{bank_literal}
use Rattle.term_bank.specs.Terms.{term_at}
use Rattle.witness_names.specs.Rows.{rows_of}
use Rattle.tableau_clauses.specs.Table.{Table, the_clauses}
use Rattle.instantiate.specs.Listing.{Listing, ids_of, with_listed}
use Rattle.search_spec.specs.After.{nothing_yet}
use Rattle.tableau_calculus.specs.Each.{Each}
use Rattle.search_spec.specs.Heads.{places_to}
use Rattle.search_spec.specs.State.{Sketch}
use Rattle.search_spec.specs.Witness.{has_hole_of}
use Rattle.search_spec.specs.Internal.Loops.{queue_of}
use Rattle.prover_state.specs.declared.command.Planned.{Planned}
use Rattle.prover_state.specs.declared.command.Delays.{Delays}
use Rattle.prover_state.specs.declared.stem.Stem.{Stem}
use Rattle.head_offers.specs.declared.offers.Offers.{Offers}
use Rattle.prover_state.specs.declared.offers.Offered.{Offered}
use Rattle.prover_state.specs.declared.tables.Basis.{Basis}
use Rattle.prover_state.specs.declared.tables.Tables.{Tables}
use Rattle.prover_state.specs.Internal.Empty.{AreEmpty}
use Rattle.prover_state.specs.Internal.Selecting.{AreTaken}
use Rattle.prover_state.specs.Internal.Heads.{sketches_of, AreStems}
use Rattle.prover_state.specs.Internal.Holes.{holes_in}
use Rattle.prover_state.specs.Internal.Names.{typed_at, IsNumberIn, IsPlace}
use Rattle.head_offers.specs.Offering.{the_offers}
use Rattle.prover_state.specs.Internal.Offering.{ListsOffers}
use Rattle.prover_state.specs.Internal.Pending.{loop_at, IsEntry}
use Rattle.prover_state.specs.Internal.Standing.{without_witnesses, rows_in, scope_by, sketches_in, naming_in, sources, the_state, is_universal, can_pair, places_where, IsBasis, IsRightState}
use Rattle.prover_state.proofs.EachLaws.{each-weaker, each-last}
use Rattle.prover_state.proofs.NotingLaws.{listed-last}
use Rattle.prover_state.proofs.OfferingLaws.{offered-step}

module _ (g : Basis) (given : Offers) (listed : Offered) (t : Tables) (e : AreEmpty g given listed t) (w : g.witnesses ≡ []) (q : Queue Planned Delays) (entries : q.entries ≡ []) (pushes : q.pushes ≡ 0) where
  no_witnesses : t.basis.witnesses ≡ []
  no_witnesses = ap (λ (h : Basis). h.witnesses) e.basis ∙ w

  no_rows : rows_in t.basis ≡ []
  no_rows = ap (rows_of t.basis.bank.terms) no_witnesses

  no_sketches : sketches_in t ≡ []
  no_sketches = ap (λ (stems : List Stem). sketches_of (scope_by t.basis) stems) e.stems

  pub state-empty : the_state t q ≡ record nothing_yet { offers = the_offers given }
  state-empty = λ i. record {
    clauses = map (map (bank_literal t.basis.bank.terms t.basis.lits)) (the_clauses (e.steps i));
    seen = map (bank_literal t.basis.bank.terms t.basis.lits) (e.seen i);
    noted = map (bank_literal t.basis.bank.terms t.basis.lits) (e.noted i);
    terms = map (typed_at t.basis.bank.terms) (e.terms i);
    chosen = map (term_at t.basis.bank.terms) (e.chosen i);
    described = map (term_at t.basis.bank.terms) (e.described i);
    rows = no_rows i;
    parked = no_sketches i;
    queue = queue_of (map (loop_at (without_witnesses t.basis.bank) (naming_in t) (sources t)) (entries i));
    pushes = pushes i;
    done = e.done i;
    moment = e.moment i;
    offers = the_offers (e.offers i);
  }

  offers_listed : ListsOffers (the_offers given) listed.names listed.bases.items (without_witnesses g.bank) → ListsOffers (the_offers t.offers) t.names t.bases.items (without_witnesses t.basis.bank)
  offers_listed l =
      subst (λ (o : Offers). ListsOffers (the_offers o) t.names t.bases.items (without_witnesses t.basis.bank)) (sym e.offers)
      (subst (λ (ls : List Listing). ListsOffers (the_offers given) ls t.bases.items (without_witnesses t.basis.bank)) (sym e.names)
      (subst (λ (bs : List ℕ). ListsOffers (the_offers given) listed.names bs (without_witnesses t.basis.bank)) (sym e.bases)
      (subst (λ (h : Basis). ListsOffers (the_offers given) listed.names listed.bases.items (without_witnesses h.bank)) (sym e.basis) l)))

  pub right-empty : IsBasis g → ListsOffers (the_offers given) listed.names listed.bases.items (without_witnesses g.bank) → IsRightState t q
  right-empty good named =
      let C : Table → Type 0 = λ x. Each (Each (IsNumberIn t.basis.lits)) (the_clauses x) in
      let B : SolverState → Type 0 = λ x. length (learned x) ≤ q.rule.mode.conflicts in
      let Q : List (Entry Planned) → Type 0 = λ es. Each (λ x. IsEntry (without_witnesses t.basis.bank) (naming_in t) (sources t) x.command) es in
      record {
        basis = subst IsBasis (sym e.basis) good;
        clauses = subst C (sym e.steps) tt;
        solver = ap (λ (x : SolverState). x.clauses) e.solver ∙ sym (ap the_clauses e.steps);
        seen = subst (Each (IsNumberIn t.basis.lits)) (sym e.seen) tt;
        noted = subst (Each (IsNumberIn t.basis.lits)) (sym e.noted) tt;
        index = e.indexed t.basis.bank.terms t.basis.lits;
        paired = ap (λ x. x.noted) e.index ∙ sym (ap (filter (can_pair t.basis.bank.terms t.basis.lits)) e.noted);
        universals = λ a. ap (ids_of a) e.universals ∙ sym (ap (places_where (is_universal t.basis.bank.terms t.basis.lits a) 0) e.noted);
        terms = subst (Each (λ u. IsPlace t.basis.bank.terms u.1)) (sym e.terms) tt;
        chosen = subst (Each (IsPlace t.basis.bank.terms)) (sym e.chosen) tt;
        described = subst (Each (IsPlace t.basis.bank.terms)) (sym e.described) tt;
        walked = subst (Each (IsPlace t.basis.bank.terms)) (sym e.walked) tt;
        taken = subst (AreTaken (map (term_at t.basis.bank.terms) t.chosen) (map (term_at t.basis.bank.terms) t.described) t.basis.bank.terms) (sym e.walked) tt;
        offered = offers_listed named;
        takers = λ n. ap (ids_of (base n)) e.takers ∙ sym (ap (λ (rows : List Row). places_to n 0 (map (λ r. r.type) rows)) no_rows);
        stems = subst (AreStems (scope_by t.basis) []) (sym e.stems) tt;
        open_holes = e.open_holes ∙ sym (ap (map (λ (p : Sketch). holes_in [] p.partial)) no_sketches);
        roots = λ a. ap (list_any (λ (p : Sketch). same_type a p.type)) no_sketches ∙ sym (ap (list_any (same_type a)) e.roots);
        holes = λ n. ap (ids_of (base n)) e.holes ∙ sym (ap (places_where (has_hole_of n) 0) no_sketches);
        budget = subst B (sym e.solver) (omega arith);
        queue = subst Q (sym entries) tt;
      }

-- NAMES BY TARGET TYPES

pub got-typed : (cs : List TypedName) (i : ℕ) (a : SimpleType) → Some a ≡ option_map (λ c. c.type) (slice_get cs i) → slice_get (map (λ (c : TypedName). c.type) cs) i ≡ Some a
got-typed [] i a h = cc
got-typed (c ∷ cs) zero a h = sym h
got-typed (c ∷ cs) (suc i) a h = got-typed cs i a h

turned : (m n : ℕ) → nat_eq n m ≡ nat_eq m n
turned m n = by_test (nat_eq n m) refl
  where
    by_test : (b : Bool) → nat_eq n m ≡ b → nat_eq n m ≡ nat_eq m n
    by_test true e = e ∙ sym (eq-eqb m n (sym (eqb-true n m e)))
    by_test false e = e ∙ sym (ne_eqb m n (λ k. other (eq-eqb n m (sym k)) e))
      where
        other : nat_eq n m ≡ true → nat_eq n m ≡ false → ⊥
        other f h = cc

-- a name more
module _ (types : List SimpleType) (i : ℕ) (a : SimpleType) (at : slice_get types i ≡ Some a) (m : ℕ) (goal : m ≡ target a) (all new : List Listing) (is : new ≡ with_listed (base m) i all) (below : (n : ℕ) → Each (λ k. k < i) (ids_of (base n) all)) where
  listed : (n : ℕ) → ids_of (base n) new ≡ (if nat_eq n m then ids_of (base n) all ++ i ∷ [] else ids_of (base n) all)
  listed n = listed-last (base n) (base m) i all new is (below m)

  pub below-more : (n : ℕ) → Each (λ k. k < i + 1) (ids_of (base n) new)
  below-more n = subst (Each (λ k. k < i + 1)) (sym (listed n)) (go (nat_eq n m))
    where
      weaker : Each (λ k. k < i + 1) (ids_of (base n) all)
      weaker = each-weaker (λ k. k < i) (λ k. k < i + 1) (λ k h. omega (arith, h)) (ids_of (base n) all) (below n)

      go : (b : Bool) → Each (λ k. k < i + 1) (if b then ids_of (base n) all ++ i ∷ [] else ids_of (base n) all)
      go true = each-last (λ k. k < i + 1) (ids_of (base n) all) i weaker (omega arith)
      go false = weaker

  pub offered-more : (P : ℕ → Bool) → P i ≡ true → (n : ℕ) → ids_of (base n) new ++ filter P (places_to n (i + 1) (drop (i + 1) types)) ≡ ids_of (base n) all ++ filter P (places_to n i (drop i types))
  offered-more P e n =
      offered-step P n i types a at (ids_of (base n) all) (ids_of (base n) new) e
      (listed n ∙ ap (λ (b : Bool). if b then ids_of (base n) all ++ i ∷ [] else ids_of (base n) all) (turned m n ∙ ap (λ k. nat_eq k n) goal))
