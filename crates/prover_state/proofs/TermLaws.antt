-- Terms for instances.
use Rattle.std.specs.Prelude.{◌≡◌, ◌<◌, ◌≤◌, ◌&&◌, nat_eq, ℕ, Bool, true, false, List, [], ◌∷◌, ◌++◌, map, filter, drop, get_or, slice_get, Some, length, refl, if◌then◌else◌}
use Rattle.std.specs.List.{list_any}
use Rattle.std.proofs.Common.{sym, ap, ap₂, subst, ◌∙◌, append-nil, add-zero, arith}
use Rattle.std.proofs.lemmas.List.{length-map}
use Rattle.std.proofs.lemmas.Option.{get_or_from_slice_get}
use Rattle.stt_core.specs.SimpleType.{SimpleType}
use Rattle.stt_core.specs.Lambda.{Lambda}
use Rattle.stt_core.specs.SameTerm.{same_term}
use Rattle.stt_core.proofs.ListLaws.{map-append}
use Rattle.tableau_calculus.specs.Literals.{Literal}
use Rattle.sat_base.specs.declared.literal.SatLit.{SatLit}
use Rattle.command_queue.specs.Queue.{Queue}
use Rattle.tableau_calculus.specs.Each.{Each}
use Rattle.mode_file.specs.declared.Mode.{Mode}
use Rattle.search_spec.specs.Terms.{terms_of, ranges_over, universals, with_term}
use Rattle.search_spec.specs.State.{State, Typed, inst, with_commands}
use Rattle.search_spec.specs.Internal.Loops.{queue_of}
use Rattle.search_spec.proofs.TypedPushes.{is_over}
use Rattle.term_bank.specs.Laws.{EqualIdsForEqualTerms}
use Rattle.term_bank.specs.Terms.{term_at}
use Rattle.literal_map.specs.Atoms.{bank_literal}
use Rattle.instantiate.specs.Listing.{Listing, ids_of, with_listed}
use Rattle.prover_state.specs.declared.command.Command.TheVariants.{Inst}
use Rattle.prover_state.specs.declared.command.Over.TheVariants.{Universals}
use Rattle.prover_state.specs.declared.command.Planned.{Planned}
use Rattle.prover_state.specs.declared.command.Delays.{Delays}
use Rattle.prover_state.specs.declared.tables.Tables.{Tables}
use Rattle.prover_state.specs.Internal.Growing.{Longer, ExtendsState}
use Rattle.prover_state.specs.Internal.Names.{typed_at, command_at, IsNumberIn, IsPlace}
use Rattle.prover_state.specs.Internal.Pending.{range_of, loop_over}
use Rattle.prover_state.specs.Internal.Standing.{without_witnesses, naming_in, sources, state_parts, loops_in, the_state, is_universal, IsRightState}
use Rattle.prover_state.proofs.EachLaws.{each-last, each-weaker, each-unmapped}
use Rattle.prover_state.proofs.PlaceLaws.{any-places, filter-mapped, terms-of, each-passes, places-of, filter-places, places-below}
use Rattle.prover_state.proofs.LoopStays.{loops-stay, entries-stay}

itself : {X : Type 0} (xs : List X) → Longer xs xs
itself xs = ([], sym (append-nil xs))

pub pushed-nothing : (mode : Mode) (s : State) → with_commands mode [] s ≡ s
pushed-nothing mode s = ap₂ (λ q n. record s { queue = q; pushes = n }) (append-nil s.queue) (add-zero s.pushes)

pub range-is : (a : SimpleType) (l : Literal) → (l.positive && ranges_over a l.atom) ≡ true → range_of l.atom ≡ a
range-is a l e =
    let o = is_over a l e in
    ap (λ (m : Literal). range_of m.atom) o.is

module _ (t : Tables) (q : Queue Planned Delays) (r : IsRightState t q) (a : SimpleType) where
  abbrev d : SatLit → Literal
  d = bank_literal t.basis.bank.terms t.basis.lits

  -- the noted literal at a place
  abbrev pub noted_at : ℕ → SatLit
  noted_at i = get_or t.noted.items i (record { var = record { 0 = 0 }; positive = true })

  pub noted-is : (i : ℕ) (l : SatLit) → slice_get t.noted.items i ≡ Some l → l ≡ noted_at i
  noted-is i l h = sym (get_or_from_slice_get t.noted.items i l (record { var = record { 0 = 0 }; positive = true }) h)

  abbrev passing : List SatLit
  passing = filter (is_universal t.basis.bank.terms t.basis.lits a) t.noted.items

  each_passing : Each (λ l. IsNumberIn t.basis.lits l × (is_universal t.basis.bank.terms t.basis.lits a l ≡ true)) passing
  each_passing = each-passes (IsNumberIn t.basis.lits) (is_universal t.basis.bank.terms t.basis.lits a) t.noted.items r.noted

  passing_are : passing ≡ map noted_at (ids_of a t.universals)
  passing_are =
      filter-places (is_universal t.basis.bank.terms t.basis.lits a) (record { var = record { 0 = 0 }; positive = true }) [] t.noted.items
      ∙ ap (map noted_at) (sym (r.universals a))

  pub universals-within : Each (λ i. i < length t.noted.items) (ids_of a t.universals)
  universals-within = subst (Each (λ i. i < length t.noted.items)) (sym (r.universals a)) (places-below (is_universal t.basis.bank.terms t.basis.lits a) t.noted.items)

  pub universal-numbers : Each (λ i. IsNumberIn t.basis.lits (noted_at i)) (ids_of a t.universals)
  universal-numbers =
      each-unmapped (IsNumberIn t.basis.lits) noted_at (ids_of a t.universals)
      (subst (Each (IsNumberIn t.basis.lits)) passing_are (each-weaker (λ l. IsNumberIn t.basis.lits l × (is_universal t.basis.bank.terms t.basis.lits a l ≡ true)) (IsNumberIn t.basis.lits) (λ l h. h.0) passing each_passing))

  -- the universal literals of the type, by their places
  pub universals-are : universals a (sources t) ≡ map d (map noted_at (ids_of a t.universals))
  universals-are = filter-mapped (λ (l : Literal). l.positive && ranges_over a l.atom) d t.noted.items ∙ ap (map d) passing_are

  module _ (v : ℕ) (vs : List ℕ) (ids : ids_of a t.universals ≡ v ∷ vs) where
    first_passes : IsNumberIn t.basis.lits (noted_at v) × (is_universal t.basis.bank.terms t.basis.lits a (noted_at v) ≡ true)
    first_passes =
        let P : List SatLit → Type 0 = λ ls. Each (λ l. IsNumberIn t.basis.lits l × (is_universal t.basis.bank.terms t.basis.lits a l ≡ true)) ls in
        (subst P (passing_are ∙ ap (map noted_at) ids) each_passing).0

    pub first-number : IsNumberIn t.basis.lits (noted_at v)
    first-number = first_passes.0

    pub first-range : range_of (d (noted_at v)).atom ≡ a
    first-range = range-is a (d (noted_at v)) first_passes.1

    -- the whole loop over the universal literals of the type
    pub universals-loop : (u : ℕ) → loop_over (without_witnesses t.basis.bank) (sources t) Universals (command_at (naming_in t) (Inst (noted_at v) u)) ≡ map (λ k. inst k (term_at t.basis.bank.terms u)) (universals a (sources t))
    universals-loop u = ap (λ b. map (λ k. inst k (term_at t.basis.bank.terms u)) (universals b (sources t))) first-range

    pub universals-begin : (u : ℕ) → map (λ k. inst k (term_at t.basis.bank.terms u)) (universals a (sources t)) ≡ command_at (naming_in t) (Inst (noted_at v) u) ∷ map (λ k. inst k (term_at t.basis.bank.terms u)) (map d (map noted_at vs))
    universals-begin u = ap (map (λ k. inst k (term_at t.basis.bank.terms u))) (universals-are ∙ ap (λ is. map d (map noted_at is)) ids)

  pub universals-length : (u : Lambda) → length (map (λ k. inst k u) (universals a (sources t))) ≡ length (ids_of a t.universals)
  universals-length u =
      length-map (universals a (sources t)) (λ k. inst k u)
      ∙ ap length universals-are ∙ length-map (map noted_at (ids_of a t.universals)) d ∙ length-map (ids_of a t.universals) noted_at

  -- A TERM MORE

  module _ (id : ℕ) (place : IsPlace t.basis.bank.terms id) (equal : EqualIdsForEqualTerms t.basis.bank) where
    abbrev u : Lambda
    u = term_at t.basis.bank.terms id

    there_is : list_any (same_term u) (terms_of a (the_state t q)) ≡ list_any (nat_eq id) (ids_of a t.terms)
    there_is =
        ap (list_any (same_term u)) (terms-of t.basis.bank.terms a t.terms)
        ∙ any-places t.basis.bank equal id (ids_of a t.terms) place (places-of t.basis.bank.terms a t.terms r.terms)

    abbrev appended : State
    appended = record (the_state t q) { terms = (the_state t q).terms ++ record { type = a; term = u } ∷ [] }

    by_test : (mode : Mode) (b : Bool) → list_any (same_term u) (terms_of a (the_state t q)) ≡ b → (if b then the_state t q else with_commands mode (map (λ l. inst l u) (universals a (the_state t q))) appended) ≡ with_term mode a u (the_state t q)
    by_test mode b e = sym (ap (λ (x : Bool). if x then the_state t q else with_commands mode (map (λ l. inst l u) (universals a (the_state t q))) appended) e)

    pub was-there : (mode : Mode) (x : List Listing) → x ≡ with_listed a id t.terms → list_any (nat_eq id) (ids_of a t.terms) ≡ true → the_state (record t { terms = x }) q ≡ with_term mode a u (the_state t q)
    was-there mode x is e =
        ap (λ xs. the_state (record t { terms = xs }) q) (is ∙ ap (λ (b : Bool). if b then t.terms else t.terms ++ (a, id) ∷ []) e)
        ∙ by_test mode true (there_is ∙ e)

    abbrev more : List Listing
    more = t.terms ++ (a, id) ∷ []

    abbrev t' : Tables
    t' = record t { terms = more }

    typed_more : map (typed_at t.basis.bank.terms) more ≡ map (typed_at t.basis.bank.terms) t.terms ++ record { type = a; term = u } ∷ []
    typed_more = map-append (typed_at t.basis.bank.terms) t.terms ((a, id) ∷ [])

    extends : ExtendsState (sources t) (sources t')
    extends = record {
      noted = itself (sources t).noted;
      terms = (record { type = a; term = u } ∷ [], typed_more);
      rows = itself (sources t).rows;
      parked = itself (sources t).parked;
      offers = refl;
    }

    loops_same : loops_in t' q.entries ≡ loops_in t q.entries
    loops_same = loops-stay (without_witnesses t.basis.bank) (sources t) (sources t') extends (naming_in t) (naming_in t) (λ c h. refl) (λ c h. h) q.entries r.queue

    state_more : the_state t' q ≡ appended
    state_more = ap₂ (λ (us : List Typed) ls. record (state_parts t) { terms = us; queue = queue_of ls; pushes = q.pushes }) typed_more loops_same

    right_more : IsRightState t' q
    right_more = record {
      basis = r.basis;
      clauses = r.clauses;
      solver = r.solver;
      seen = r.seen;
      noted = r.noted;
      universals = r.universals;
      chosen = r.chosen;
      described = r.described;
      walked = r.walked;
      taken = r.taken;
      index = r.index;
      paired = r.paired;
      offered = r.offered;
      takers = r.takers;
      stems = r.stems;
      open_holes = r.open_holes;
      roots = r.roots;
      holes = r.holes;
      budget = r.budget;
      terms = each-last (λ (l : Listing). IsPlace t.basis.bank.terms l.1) t.terms (a, id) r.terms place;
      queue = entries-stay (without_witnesses t.basis.bank) (sources t) (sources t') extends (naming_in t) (naming_in t) (λ c h. refl) (λ c h. h) q.entries r.queue;
    }

    pub right-term : (x : List Listing) → x ≡ with_listed a id t.terms → IsRightState (record t { terms = x }) q
    right-term x is =
        let R : List Listing → Type 0 = λ xs. IsRightState (record t { terms = xs }) q in
        subst R (sym is) (go (list_any (nat_eq id) (ids_of a t.terms)))
      where
        go : (b : Bool) → IsRightState (record t { terms = if b then t.terms else t.terms ++ (a, id) ∷ [] }) q
        go true = r
        go false = right_more

    -- the term is new: what is pushed brings the state to where it is to come
    pub is-new : (mode : Mode) (x : List Listing) → x ≡ with_listed a id t.terms → list_any (nat_eq id) (ids_of a t.terms) ≡ false → with_commands mode (map (λ l. inst l u) (universals a (sources t))) (the_state (record t { terms = x }) q) ≡ with_term mode a u (the_state t q)
    is-new mode x is e =
        ap (λ xs. with_commands mode (map (λ l. inst l u) (universals a (sources t))) (the_state (record t { terms = xs }) q)) (is ∙ ap (λ (b : Bool). if b then t.terms else t.terms ++ (a, id) ∷ []) e)
        ∙ ap (with_commands mode (map (λ l. inst l u) (universals a (sources t)))) state_more
        ∙ by_test mode false (there_is ∙ e)

-- the literal at the first of some places
pub at-first : (ls : List SatLit) (l : SatLit) (vs : List ℕ) (i : ℕ) → slice_get vs 0 ≡ Some i → slice_get ls i ≡ Some l → slice_get ls (get_or vs 0 0) ≡ Some l
at-first ls l vs i at h = ap (slice_get ls) (get_or_from_slice_get vs 0 i 0 at) ∙ h

pub head-is : (xs : List ℕ) → 0 < length xs → xs ≡ get_or xs 0 0 ∷ drop 1 xs
head-is [] h = absurd (omega (arith, h))
head-is (x ∷ xs) h = refl

pub no-head : (xs : List ℕ) → length xs ≤ 0 → xs ≡ []
no-head [] h = refl
no-head (x ∷ xs) h = absurd (omega (arith, h))
