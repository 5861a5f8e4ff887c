-- A noted literal more.
use Rattle.std.specs.Prelude.{◌≡◌, ◌<◌, ◌+◌, ◌&&◌, ◌||◌, nat_eq, ℕ, suc, Bool, true, false, List, [], ◌∷◌, ◌++◌, map, filter, length, Option, refl, if◌then◌else◌}
use Rattle.std.specs.List.{list_any}
use Rattle.std.proofs.Common.{Vec, Global, sym, ap, ap₂, subst, ◌∙◌, append-nil, arith}
use Rattle.std.proofs.lemmas.Bool.{ne_eqb}
use Rattle.std.proofs.lemmas.List.Elements.{filter-append}
use Rattle.stt_core.specs.SimpleType.{SimpleType, same_type}
use Rattle.stt_core.proofs.ListLaws.{map-append}
use Rattle.tableau_calculus.specs.Literals.{Literal}
use Rattle.sat_base.specs.declared.literal.SatLit.{SatLit}
use Rattle.command_queue.specs.Queue.{Queue}
use Rattle.tableau_calculus.specs.Each.{Each}
use Rattle.search_spec.specs.Terms.{ranges_over}
use Rattle.search_spec.specs.Internal.Loops.{queue_of}
use Rattle.literal_map.specs.Atoms.{bank_literal, bank_atom}
use Rattle.mating_rules.specs.Noted.{Notes, IsRightIndex}
use Rattle.instantiate.specs.Listing.{Listing, ids_of, with_listed}
use Rattle.prover_state.specs.declared.command.Planned.{Planned}
use Rattle.prover_state.specs.declared.command.Delays.{Delays}
use Rattle.prover_state.specs.declared.tables.Tables.{Tables}
use Rattle.prover_state.specs.Internal.Growing.{Longer, ExtendsState}
use Rattle.prover_state.specs.Internal.Names.{IsNumberIn}
use Rattle.prover_state.specs.Internal.Shapes.{quantified_type}
use Rattle.prover_state.specs.Internal.Standing.{without_witnesses, naming_in, sources, state_parts, loops_in, the_state, can_pair, is_universal, places_where, IsRightState}
use Rattle.prover_state.proofs.EachLaws.{each-last}
use Rattle.prover_state.proofs.PlaceLaws.{places-below}
use Rattle.prover_state.proofs.ShapeLaws.{ranges_by, ranges-quantified}
use Rattle.prover_state.proofs.LoopStays.{loops-stay, entries-stay}

-- AN ELEMENT MORE

pub filter-last : {X : Type 0} (test : X → Bool) (xs : List X) (x : X) → filter test (xs ++ x ∷ []) ≡ (if test x then filter test xs ++ x ∷ [] else filter test xs)
filter-last {X} test xs x = filter-append test xs (x ∷ []) ∙ go (test x)
  where
    go : (b : Bool) → filter test xs ++ (if b then x ∷ [] else []) ≡ (if b then filter test xs ++ x ∷ [] else filter test xs)
    go true = refl
    go false = append-nil (filter test xs)

pub places-last : {X : Type 0} (test : X → Bool) (n : ℕ) (xs : List X) (x : X) → places_where test n (xs ++ x ∷ []) ≡ (if test x then places_where test n xs ++ (n + length xs) ∷ [] else places_where test n xs)
places-last test n [] x = go (test x)
  where
    go : (b : Bool) → (if b then n ∷ [] else []) ≡ (if b then (n + 0) ∷ [] else [])
    go true = ap (λ k. k ∷ []) (omega arith)
    go false = refl
places-last {X} test n (y ∷ xs) x = go (test y) (test x) (places-last test (suc n) xs x)
  where
    go : (c b : Bool) → places_where test (suc n) (xs ++ x ∷ []) ≡ (if b then places_where test (suc n) xs ++ (suc n + length xs) ∷ [] else places_where test (suc n) xs)
        → (if c then n ∷ places_where test (suc n) (xs ++ x ∷ []) else places_where test (suc n) (xs ++ x ∷ []))
        ≡ (if b then (if c then n ∷ places_where test (suc n) xs else places_where test (suc n) xs) ++ (n + length (y ∷ xs)) ∷ [] else (if c then n ∷ places_where test (suc n) xs else places_where test (suc n) xs))
    go true true e = ap (λ ks. n ∷ ks) (e ∙ ap (λ k. places_where test (suc n) xs ++ k ∷ []) (omega arith))
    go true false e = ap (λ ks. n ∷ ks) e
    go false true e = e ∙ ap (λ k. places_where test (suc n) xs ++ k ∷ []) (omega arith)
    go false false e = e

places_end : {X : Type 0} (test : X → Bool) (xs : List X) (x : X) → places_where test 0 (xs ++ x ∷ []) ≡ (if test x then places_where test 0 xs ++ length xs ∷ [] else places_where test 0 xs)
places_end test xs x = places-last test 0 xs x ∙ ap (λ k. if test x then places_where test 0 xs ++ k ∷ [] else places_where test 0 xs) (omega arith)

-- A PLACE MORE IN A LIST BY TYPES

not_listed : (n : ℕ) (ids : List ℕ) → Each (λ i. i < n) ids → list_any (nat_eq n) ids ≡ false
not_listed n [] h = refl
not_listed n (i ∷ ids) h = ap₂ (λ (a b : Bool). a || b) (ne_eqb n i (λ e. omega (arith, e, h.0))) (not_listed n ids h.1)

last_of_type : (a b : SimpleType) (id : ℕ) (all : List Listing) → ids_of a (all ++ (b, id) ∷ []) ≡ (if same_type a b then ids_of a all ++ id ∷ [] else ids_of a all)
last_of_type a b id all = ap (map (λ (l : Listing). l.1)) (filter-last (λ (l : Listing). same_type a l.0) all (b, id)) ∙ go (same_type a b)
  where
    go : (x : Bool) → map (λ (l : Listing). l.1) (if x then filter (λ l. same_type a l.0) all ++ (b, id) ∷ [] else filter (λ l. same_type a l.0) all) ≡ (if x then ids_of a all ++ id ∷ [] else ids_of a all)
    go true = map-append (λ (l : Listing). l.1) (filter (λ l. same_type a l.0) all) ((b, id) ∷ [])
    go false = refl

pub listed-last : (a b : SimpleType) (id : ℕ) (all new : List Listing) → new ≡ with_listed b id all → Each (λ i. i < id) (ids_of b all) → ids_of a new ≡ (if same_type a b then ids_of a all ++ id ∷ [] else ids_of a all)
listed-last a b id all new is below =
    ap (ids_of a) (is ∙ ap (λ (x : Bool). if x then all else all ++ (b, id) ∷ []) (not_listed id (ids_of b all) below))
    ∙ last_of_type a b id all

-- whether a literal is universal
pub universal-by : (t : Tables) (a : SimpleType) (l : SatLit) (o : Option SimpleType) → l.positive ≡ true → o ≡ quantified_type (bank_atom t.basis.bank.terms t.basis.lits l.var.0) → is_universal t.basis.bank.terms t.basis.lits a l ≡ ranges_by a o
universal-by t a l o e is =
    ap (λ (b : Bool). b && ranges_over a (bank_atom t.basis.bank.terms t.basis.lits l.var.0)) e
    ∙ sym (ranges-quantified a (bank_atom t.basis.bank.terms t.basis.lits l.var.0))
    ∙ ap (ranges_by a) (sym is)

-- A NOTED LITERAL MORE

module _ (t : Tables) (q : Queue Planned Delays) (r : IsRightState t q) (l : SatLit) (number : IsNumberIn t.basis.lits l) where
  abbrev d : SatLit → Literal
  d = bank_literal t.basis.bank.terms t.basis.lits

  pub universal-places : (a : SimpleType) → Each (λ i. i < length t.noted.items) (ids_of a t.universals)
  universal-places a = subst (Each (λ i. i < length t.noted.items)) (sym (r.universals a)) (places-below (is_universal t.basis.bank.terms t.basis.lits a) t.noted.items)

  module _ (x : Vec SatLit Global) (noted : x.items ≡ t.noted.items ++ l ∷ []) (i : Notes) (us : List Listing) where
    abbrev t' : Tables
    t' = record t { noted = x; index = i; universals = us }

    -- the three writes one after the other
    pub noted-chain : (t1 t2 : Tables) → t1 ≡ record t { universals = us } → t2 ≡ record t1 { index = i } → record t2 { noted = x } ≡ t'
    noted-chain t1 t2 e1 e2 = ap (λ (u : Tables). record u { noted = x }) e2 ∙ ap (λ (u : Tables). record u { noted = x; index = i }) e1

    noted_more : map d x.items ≡ map d t.noted.items ++ d l ∷ []
    noted_more = ap (map d) noted ∙ map-append d t.noted.items (l ∷ [])

    itself : {X : Type 0} (xs : List X) → Longer xs xs
    itself xs = ([], sym (append-nil xs))

    extends : ExtendsState (sources t) (sources t')
    extends = record {
      noted = (d l ∷ [], noted_more);
      terms = itself (sources t).terms;
      rows = itself (sources t).rows;
      parked = itself (sources t).parked;
      offers = refl;
    }

    loops_same : loops_in t' q.entries ≡ loops_in t q.entries
    loops_same = loops-stay (without_witnesses t.basis.bank) (sources t) (sources t') extends (naming_in t) (naming_in t) (λ c h. refl) (λ c h. h) q.entries r.queue

    pub state-noted : the_state t' q ≡ record (the_state t q) { noted = (the_state t q).noted ++ d l ∷ [] }
    state-noted = ap₂ (λ (ls : List Literal) loops. record (state_parts t) { noted = ls; queue = queue_of loops; pushes = q.pushes }) noted_more loops_same

    pub right-noted : i.noted ≡ (if can_pair t.basis.bank.terms t.basis.lits l then t.index.noted ++ l ∷ [] else t.index.noted)
        → IsRightIndex t.basis.bank.terms t.basis.lits i
        → ((a : SimpleType) → ids_of a us ≡ (if is_universal t.basis.bank.terms t.basis.lits a l then ids_of a t.universals ++ length t.noted.items ∷ [] else ids_of a t.universals))
        → IsRightState t' q
    right-noted pairs good listed = record {
      basis = r.basis;
      clauses = r.clauses;
      solver = r.solver;
      seen = r.seen;
      noted = subst (Each (IsNumberIn t.basis.lits)) (sym noted) (each-last (IsNumberIn t.basis.lits) t.noted.items l r.noted number);
      index = good;
      paired =
          pairs
          ∙ ap (λ (ms : List SatLit). if can_pair t.basis.bank.terms t.basis.lits l then ms ++ l ∷ [] else ms) r.paired
          ∙ sym (filter-last (can_pair t.basis.bank.terms t.basis.lits) t.noted.items l)
          ∙ ap (filter (can_pair t.basis.bank.terms t.basis.lits)) (sym noted);
      universals = λ a.
          listed a
          ∙ ap (λ (ks : List ℕ). if is_universal t.basis.bank.terms t.basis.lits a l then ks ++ length t.noted.items ∷ [] else ks) (r.universals a)
          ∙ sym (places_end (is_universal t.basis.bank.terms t.basis.lits a) t.noted.items l)
          ∙ ap (places_where (is_universal t.basis.bank.terms t.basis.lits a) 0) (sym noted);
      terms = r.terms;
      chosen = r.chosen;
      described = r.described;
      walked = r.walked;
      taken = r.taken;
      offered = r.offered;
      takers = r.takers;
      stems = r.stems;
      open_holes = r.open_holes;
      roots = r.roots;
      holes = r.holes;
      budget = r.budget;
      queue = entries-stay (without_witnesses t.basis.bank) (sources t) (sources t') extends (naming_in t) (naming_in t) (λ c h. refl) (λ c h. h) q.entries r.queue;
    }
