-- The state stays the same where the bank and the table of atoms grow.
use Rattle.std.specs.Prelude.{◌≡◌, ◌&&◌, ◌||◌, not, ℕ, suc, Bool, List, [], ◌∷◌, map, filter, length, refl, if◌then◌else◌}
use Rattle.std.specs.List.{list_any}
use Rattle.std.proofs.Common.{sym, ap, ap₂, subst, ◌∙◌, append-nil}
use Rattle.stt_core.specs.SimpleType.{SimpleType, same_type}
use Rattle.stt_core.specs.Typing.{Scope}
use Rattle.tableau_calculus.specs.Literals.{Literal}
use Rattle.tableau_calculus.specs.Witnesses.{Row, with_rows}
use Rattle.sat_base.specs.declared.literal.SatLit.{SatLit}
use Rattle.command_queue.specs.Queue.{Queue}
use Rattle.tableau_calculus.specs.Each.{Each}
use Rattle.search_spec.specs.Heads.{places_to}
use Rattle.search_spec.specs.Partners.{has_equal_sides}
use Rattle.search_spec.specs.Terms.{ranges_over}
use Rattle.search_spec.specs.Witness.{has_hole_of}
use Rattle.search_spec.specs.Internal.Loops.{queue_of}
use Rattle.term_bank.specs.Terms.{term_at}
use Rattle.literal_map.specs.Atoms.{bank_literal}
use Rattle.witness_names.specs.Rows.{rows_of}
use Rattle.witness_names.proofs.StayLaws.{rows_same}
use Rattle.tableau_clauses.specs.Table.{the_clauses}
use Rattle.mating_rules.specs.Noted.{IsRightIndex}
use Rattle.mating_rules.proofs.StayLaws.{right_stays}
use Rattle.prover_state.specs.declared.command.Planned.{Planned}
use Rattle.prover_state.specs.declared.command.Delays.{Delays}
use Rattle.prover_state.specs.declared.tables.Basis.{Basis}
use Rattle.prover_state.specs.declared.tables.Tables.{Tables}
use Rattle.prover_state.specs.Internal.Growing.{Longer, Continues, BasisGrows, ExtendsState}
use Rattle.prover_state.specs.Internal.Heads.{sketches_of, AreStems}
use Rattle.prover_state.specs.Internal.Holes.{holes_in}
use Rattle.prover_state.specs.Internal.Names.{typed_at, IsNumberIn, IsPlace}
use Rattle.head_offers.specs.Offering.{the_offers}
use Rattle.prover_state.specs.Internal.Offering.{ListsOffers}
use Rattle.prover_state.specs.Internal.Pending.{loop_at, IsEntry}
use Rattle.prover_state.specs.Internal.Standing.{without_witnesses, rows_in, scope_by, sketches_in, naming_in, sources, loops_in, the_state, is_universal, can_pair, places_where, IsBasis, IsRightState}
use Rattle.prover_state.proofs.EachLaws.{each-weaker, map-same}
use Rattle.prover_state.proofs.NamesLaws.{place-stays, term-stays, number-stays, literal-stays, typed-stays, command-stays, numbers-stay}
use Rattle.prover_state.proofs.LoopStays.{loops-stay, entries-stay}
use Rattle.prover_state.proofs.TakenLaws.{taken-on}

-- tests that agree on each element pass the same ones
pub filter-same : {X : Type 0} (f g : X → Bool) (P : X → Type 0) → ((x : X) → P x → f x ≡ g x) → (xs : List X) → Each P xs → filter f xs ≡ filter g xs
filter-same f g P e [] h = refl
filter-same {X} f g P e (x ∷ xs) h =
    ap (λ (b : Bool). if b then x ∷ filter f xs else filter f xs) (e x h.0) ∙ ap (λ (ys : List X). if g x then x ∷ ys else ys) (filter-same f g P e xs h.1)

-- .. and at the same places
pub places-same : {X : Type 0} (f g : X → Bool) (P : X → Type 0) → ((x : X) → P x → f x ≡ g x) → (n : ℕ) (xs : List X) → Each P xs → places_where f n xs ≡ places_where g n xs
places-same f g P e n [] h = refl
places-same {X} f g P e n (x ∷ xs) h =
    ap (λ (b : Bool). if b then n ∷ places_where f (suc n) xs else places_where f (suc n) xs) (e x h.0) ∙ ap (λ (ys : List ℕ). if g x then n ∷ ys else ys) (places-same f g P e (suc n) xs h.1)

module _ (t : Tables) (q : Queue Planned Delays) (g : Basis) (grows : BasisGrows t.basis g) (r : IsRightState t q) where
  abbrev grown : Tables
  grown = record t { basis = g }

  rows_stay : rows_in g ≡ rows_in t.basis
  rows_stay = ap (rows_of g.bank.terms) grows.witnesses ∙ rows_same t.basis.bank g.bank grows.bank t.basis.witnesses r.basis.rows

  scope_stays : without_witnesses g.bank ≡ without_witnesses t.basis.bank
  scope_stays = λ i. record { bases = length (grows.bank.bases i); names = map (λ c. c.type) (grows.bank.consts i); witnesses = [] }

  scope_by_stays : scope_by g ≡ scope_by t.basis
  scope_by_stays = ap₂ (λ (scope : Scope) (rows : List Row). with_rows scope rows) scope_stays rows_stay

  sketches_stay : sketches_in grown ≡ sketches_in t
  sketches_stay = ap (λ (scope : Scope). sketches_of scope t.stems.items) scope_by_stays

  itself : {X : Type 0} (xs ys : List X) → ys ≡ xs → Longer xs ys
  itself xs ys e = ([], e ∙ sym (append-nil xs))

  continues : Continues (naming_in t) (naming_in grown)
  continues = record {
    within = λ k d h. (r.basis.atoms k d h).within;
    terms = (grows.bank.further, grows.bank.terms);
    atoms = (grows.lits.further, grows.lits.is);
    sketches = itself (sketches_in t) (sketches_in grown) sketches_stay;
  }

  abbrev old_literal : SatLit → Literal
  old_literal = bank_literal t.basis.bank.terms t.basis.lits

  abbrev new_literal : SatLit → Literal
  new_literal = bank_literal g.bank.terms g.lits

  literals_stay : (ls : List SatLit) → Each (IsNumberIn t.basis.lits) ls → map new_literal ls ≡ map old_literal ls
  literals_stay ls h = map-same new_literal old_literal (IsNumberIn t.basis.lits) (literal-stays (naming_in t) (naming_in grown) continues) ls h

  clauses_stay : map (map new_literal) (the_clauses t.steps) ≡ map (map old_literal) (the_clauses t.steps)
  clauses_stay = map-same (map new_literal) (map old_literal) (Each (IsNumberIn t.basis.lits)) literals_stay (the_clauses t.steps) r.clauses

  terms_stay : map (typed_at g.bank.terms) t.terms ≡ map (typed_at t.basis.bank.terms) t.terms
  terms_stay = map-same (typed_at g.bank.terms) (typed_at t.basis.bank.terms) (λ u. IsPlace t.basis.bank.terms u.1) (typed-stays (naming_in t) (naming_in grown) continues) t.terms r.terms

  places_stay : (ids : List ℕ) → Each (IsPlace t.basis.bank.terms) ids → map (term_at g.bank.terms) ids ≡ map (term_at t.basis.bank.terms) ids
  places_stay ids h = map-same (term_at g.bank.terms) (term_at t.basis.bank.terms) (IsPlace t.basis.bank.terms) (term-stays t.basis.bank.terms g.bank.terms continues.terms) ids h

  extends : ExtendsState (sources t) (sources grown)
  extends = record {
    noted = itself (sources t).noted (sources grown).noted (literals_stay t.noted.items r.noted);
    terms = itself (sources t).terms (sources grown).terms terms_stay;
    rows = itself (sources t).rows (sources grown).rows rows_stay;
    parked = itself (sources t).parked (sources grown).parked sketches_stay;
    offers = refl;
  }

  loops_same : loops_in grown q.entries ≡ loops_in t q.entries
  loops_same =
      ap (λ scope. map (loop_at scope (naming_in grown) (sources grown)) q.entries) scope_stays
      ∙ loops-stay (without_witnesses t.basis.bank) (sources t) (sources grown) extends (naming_in t) (naming_in grown)
      (command-stays (naming_in t) (naming_in grown) continues) (numbers-stay (naming_in t) (naming_in grown) continues) q.entries r.queue

  -- The state stays.
  pub state-stays : the_state grown q ≡ the_state t q
  state-stays = λ i. record {
    clauses = clauses_stay i;
    seen = literals_stay t.seen r.seen i;
    noted = literals_stay t.noted.items r.noted i;
    terms = terms_stay i;
    chosen = places_stay t.chosen r.chosen i;
    described = places_stay t.described r.described i;
    rows = rows_stay i;
    parked = sketches_stay i;
    queue = queue_of (loops_same i);
    pushes = q.pushes;
    done = t.done;
    moment = t.moment;
    offers = the_offers t.offers;
  }

  more_numbers : (ls : List SatLit) → Each (IsNumberIn t.basis.lits) ls → Each (IsNumberIn g.lits) ls
  more_numbers ls h = each-weaker (IsNumberIn t.basis.lits) (IsNumberIn g.lits) (number-stays (naming_in t) (naming_in grown) continues) ls h

  more_places : (ids : List ℕ) → Each (IsPlace t.basis.bank.terms) ids → Each (IsPlace g.bank.terms) ids
  more_places ids h = each-weaker (IsPlace t.basis.bank.terms) (IsPlace g.bank.terms) (place-stays t.basis.bank.terms g.bank.terms continues.terms) ids h

  universal_stays : (a : SimpleType) → (l : SatLit) → IsNumberIn t.basis.lits l → is_universal t.basis.bank.terms t.basis.lits a l ≡ is_universal g.bank.terms g.lits a l
  universal_stays a l h = ap (λ (m : Literal). l.positive && ranges_over a m.atom) (sym (literal-stays (naming_in t) (naming_in grown) continues l h))

  pair_stays : (l : SatLit) → IsNumberIn t.basis.lits l → can_pair t.basis.bank.terms t.basis.lits l ≡ can_pair g.bank.terms g.lits l
  pair_stays l h = ap (λ (m : Literal). l.positive || not (has_equal_sides m.atom)) (sym (literal-stays (naming_in t) (naming_in grown) continues l h))

  index_stays : IsRightIndex g.bank.terms g.lits t.index
  index_stays = right_stays t.basis.bank g.bank grows.bank t.basis.lits g.lits r.basis.atoms grows.lits t.index r.index

  -- The tables stay right.
  pub right-stays : IsBasis g → IsRightState grown q
  right-stays good =
      let Q : Scope → Type 0 = λ scope. Each (λ e. IsEntry scope (naming_in grown) (sources grown) e.command) q.entries in
      record {
        basis = good;
        clauses = each-weaker (Each (IsNumberIn t.basis.lits)) (Each (IsNumberIn g.lits)) more_numbers (the_clauses t.steps) r.clauses;
        solver = r.solver;
        seen = more_numbers t.seen r.seen;
        noted = more_numbers t.noted.items r.noted;
        index = index_stays;
        paired = r.paired ∙ filter-same (can_pair t.basis.bank.terms t.basis.lits) (can_pair g.bank.terms g.lits) (IsNumberIn t.basis.lits) pair_stays t.noted.items r.noted;
        universals = λ a. r.universals a ∙ places-same (is_universal t.basis.bank.terms t.basis.lits a) (is_universal g.bank.terms g.lits a) (IsNumberIn t.basis.lits) (universal_stays a) 0 t.noted.items r.noted;
        offered = subst (ListsOffers (the_offers t.offers) t.names t.bases.items) (sym scope_stays) r.offered;
        takers = λ n. r.takers n ∙ ap (λ (rows : List Row). places_to n 0 (map (λ r. r.type) rows)) (sym rows_stay);
        terms = each-weaker (λ u. IsPlace t.basis.bank.terms u.1) (λ u. IsPlace g.bank.terms u.1) (λ u h. place-stays t.basis.bank.terms g.bank.terms continues.terms u.1 h) t.terms r.terms;
        chosen = more_places t.chosen r.chosen;
        described = more_places t.described r.described;
        walked = more_places t.walked r.walked;
        taken =
            taken-on (the_state t q).chosen (the_state grown q).chosen (the_state t q).described (the_state grown q).described t.basis.bank.terms g.bank.terms t.walked
            (places_stay t.chosen r.chosen) (places_stay t.described r.described) (term-stays t.basis.bank.terms g.bank.terms continues.terms) r.walked r.taken;
        stems = subst (λ scope. AreStems scope [] t.stems.items) (sym scope_by_stays) r.stems;
        open_holes = r.open_holes ∙ ap (map (λ p. holes_in [] p.partial)) (sym sketches_stay);
        roots = λ a. ap (list_any (λ p. same_type a p.type)) sketches_stay ∙ r.roots a;
        budget = r.budget;
        holes = λ n. r.holes n ∙ ap (places_where (has_hole_of n) 0) (sym sketches_stay);
        queue = subst Q (sym scope_stays)
            (entries-stay (without_witnesses t.basis.bank) (sources t) (sources grown) extends (naming_in t) (naming_in grown)
            (command-stays (naming_in t) (naming_in grown) continues) (numbers-stay (naming_in t) (naming_in grown) continues) q.entries r.queue);
      }
