-- Tables over a basis with a further witness.
use Rattle.std.specs.Prelude.{◌≡◌, ◌&&◌, ◌||◌, not, ℕ, List, [], ◌++◌, map, length, refl}
use Rattle.std.specs.List.{list_any}
use Rattle.std.proofs.Common.{sym, ap, ap₂, subst, ◌∙◌, append-nil, arith, length-append}
use Rattle.stt_core.specs.SimpleType.{SimpleType, base, same_type}
use Rattle.stt_core.specs.Typing.{Scope}
use Rattle.stt_core.proofs.ListLaws.{map-append}
use Rattle.tableau_calculus.specs.Literals.{Literal}
use Rattle.tableau_calculus.specs.Witnesses.{Row, with_rows}
use Rattle.sat_base.specs.declared.literal.SatLit.{SatLit}
use Rattle.command_queue.specs.Queue.{Queue}
use Rattle.command_queue.specs.declared.entry.Entry.{Entry}
use Rattle.tableau_calculus.specs.Each.{Each}
use Rattle.search_spec.specs.Heads.{places_to}
use Rattle.search_spec.specs.Partners.{has_equal_sides}
use Rattle.search_spec.specs.State.{State, Sketch}
use Rattle.search_spec.specs.Terms.{ranges_over}
use Rattle.search_spec.specs.Witness.{has_hole_of}
use Rattle.search_spec.specs.Internal.Loops.{queue_of}
use Rattle.term_bank.specs.Content.{Grows}
use Rattle.term_bank.specs.Terms.{term_at}
use Rattle.witness_names.specs.Rows.{row_of, rows_of}
use Rattle.instantiate.specs.Listing.{Listing, ids_of}
use Rattle.tableau_clauses.specs.Table.{the_clauses}
use Rattle.mating_rules.specs.Noted.{IsRightIndex}
use Rattle.mating_rules.proofs.StayLaws.{right_stays}
use Rattle.prover_state.specs.declared.command.Planned.{Planned}
use Rattle.prover_state.specs.declared.command.Delays.{Delays}
use Rattle.prover_state.specs.declared.tables.Basis.{Basis}
use Rattle.prover_state.specs.declared.tables.Tables.{Tables}
use Rattle.prover_state.specs.Internal.Growing.{Longer, Continues, BasisGrows, BasisWidens, ExtendsState}
use Rattle.prover_state.specs.Internal.Heads.{sketches_of, AreStems}
use Rattle.prover_state.specs.Internal.Holes.{holes_in}
use Rattle.prover_state.specs.Internal.Names.{IsNumberIn, IsPlace}
use Rattle.head_offers.specs.Offering.{the_offers}
use Rattle.prover_state.specs.Internal.Offering.{ListsOffers}
use Rattle.prover_state.specs.Internal.Pending.{loop_at, IsEntry}
use Rattle.prover_state.specs.Internal.Standing.{without_witnesses, rows_in, scope_by, sketches_in, naming_in, sources, loops_in, the_state, is_universal, can_pair, places_where, IsBasis, IsRightState}
use Rattle.prover_state.proofs.EachLaws.{each-weaker, each-from_All, map-same}
use Rattle.prover_state.proofs.LoopStays.{loops-stay, entries-stay}
use Rattle.prover_state.proofs.TakenLaws.{taken-on}
use Rattle.prover_state.proofs.NamesLaws.{place-stays, term-stays, literal-stays, command-stays, numbers-stay}
use Rattle.prover_state.proofs.StateStays.{filter-same, places-same, state-stays}
use Rattle.prover_growth.proofs.WiderStems.{sketches-wider, stems-wider}

itself : {X : Type 0} (xs ys : List X) → ys ≡ xs → Longer xs ys
itself xs ys e = ([], e ∙ sym (append-nil xs))

-- numbers of literals are numbers over what has become wider
pub more-numbers : (old new : Basis) → BasisWidens old new → (ls : List SatLit) → Each (IsNumberIn old.lits) ls → Each (IsNumberIn new.lits) ls
more-numbers old new w ls h = each-weaker (IsNumberIn old.lits) (IsNumberIn new.lits) (λ l k. omega (arith, k, ap length w.lits.is, length-append old.lits w.lits.further)) ls h

module _ (old new : Basis) (w : BasisWidens old new) (good : IsBasis old) where
  -- the rows of the earlier witnesses stay
  pub rows-stay : rows_of new.bank.terms old.witnesses ≡ rows_in old
  rows-stay = map-same _ _ (IsPlace old.bank.terms) (λ i h. ap row_of (term-stays old.bank.terms new.bank.terms (w.bank.further, w.bank.terms) i h)) old.witnesses (each-from_All (IsPlace old.bank.terms) old.witnesses good.rows.within)

  pub rows-longer : Longer (rows_in old) (rows_in new)
  rows-longer = (
    rows_of new.bank.terms w.witnesses.0,
    ap (rows_of new.bank.terms) w.witnesses.1
        ∙ map-append (λ id. row_of (term_at new.bank.terms id)) old.witnesses w.witnesses.0
        ∙ ap (λ (rows : List Row). rows ++ rows_of new.bank.terms w.witnesses.0) rows-stay,
  )

  pub scope-stays : without_witnesses new.bank ≡ without_witnesses old.bank
  scope-stays = λ i. record { bases = length (w.bank.bases i); names = map (λ c. c.type) (w.bank.consts i); witnesses = [] }

  scope_wider : scope_by new ≡ with_rows (without_witnesses old.bank) (rows_in old ++ rows-longer.0)
  scope_wider = ap₂ (λ (scope : Scope) (rows : List Row). with_rows scope rows) scope-stays rows-longer.1

  -- the basis with the further terms and atoms, and no further witness
  abbrev pub unwitnessed : Basis
  unwitnessed = record new { bank = record new.bank { witnesses = old.bank.witnesses }; witnesses = old.witnesses }

  bank_grows : Grows old.bank unwitnessed.bank
  bank_grows = record { bases = w.bank.bases; consts = w.bank.consts; witnesses = refl; further = w.bank.further; terms = w.bank.terms }

  pub unwitnessed-grows : BasisGrows old unwitnessed
  unwitnessed-grows = record { bank = bank_grows; lits = w.lits; witnesses = refl }

module _ (t : Tables) (q : Queue Planned Delays) (g : Basis) (w : BasisWidens t.basis g) (r : IsRightState t q) (takers : List Listing) where
  abbrev pub widened : Tables
  widened = record t { basis = g; takers = takers }

  sketches_stay : sketches_in widened ≡ sketches_in t
  sketches_stay =
      ap (λ (scope : Scope). sketches_of scope t.stems.items) (scope_wider t.basis g w r.basis)
      ∙ sketches-wider (without_witnesses t.basis.bank) (rows-longer t.basis g w r.basis).0 (rows_in t.basis) [] t.stems.items r.stems

  stems_stay : AreStems (scope_by g) [] t.stems.items
  stems_stay =
      subst (λ scope. AreStems scope [] t.stems.items) (sym (scope_wider t.basis g w r.basis))
      (stems-wider (without_witnesses t.basis.bank) (rows-longer t.basis g w r.basis).0 (rows_in t.basis) [] t.stems.items r.stems)

  continues : Continues (naming_in t) (naming_in widened)
  continues = record {
    within = λ k d h. (r.basis.atoms k d h).within;
    terms = (w.bank.further, w.bank.terms);
    atoms = (w.lits.further, w.lits.is);
    sketches = itself (sketches_in t) (sketches_in widened) sketches_stay;
  }

  -- the tables over the basis without the further witness
  abbrev between : Tables
  between = record t { basis = unwitnessed t.basis g w r.basis }

  between_same : the_state between q ≡ the_state t q
  between_same = state-stays t q (unwitnessed t.basis g w r.basis) (unwitnessed-grows t.basis g w r.basis) r

  extends : ExtendsState (sources t) (sources widened)
  extends = record {
    noted = itself (sources t).noted (sources widened).noted (ap (λ (s : State). s.noted) between_same);
    terms = itself (sources t).terms (sources widened).terms (ap (λ (s : State). s.terms) between_same);
    rows = rows-longer t.basis g w r.basis;
    parked = itself (sources t).parked (sources widened).parked sketches_stay;
    offers = refl;
  }

  loops_same : loops_in widened q.entries ≡ loops_in t q.entries
  loops_same =
      ap (λ scope. map (loop_at scope (naming_in widened) (sources widened)) q.entries) (scope-stays t.basis g w r.basis)
      ∙ loops-stay (without_witnesses t.basis.bank) (sources t) (sources widened) extends (naming_in t) (naming_in widened)
      (command-stays (naming_in t) (naming_in widened) continues) (numbers-stay (naming_in t) (naming_in widened) continues) q.entries r.queue

  -- The state stays, but for the rows.
  pub state-widens : the_state widened q ≡ record (the_state t q) { rows = rows_in g }
  state-widens = λ i. record (between_same i) {
    rows = rows_in g;
    parked = sketches_stay i;
    queue = queue_of (loops_same i);
  }

  place_stays : (id : ℕ) → IsPlace t.basis.bank.terms id → IsPlace g.bank.terms id
  place_stays id h = place-stays t.basis.bank.terms g.bank.terms continues.terms id h

  universal_stays : (a : SimpleType) → (l : SatLit) → IsNumberIn t.basis.lits l → is_universal t.basis.bank.terms t.basis.lits a l ≡ is_universal g.bank.terms g.lits a l
  universal_stays a l h = ap (λ (m : Literal). l.positive && ranges_over a m.atom) (sym (literal-stays (naming_in t) (naming_in widened) continues l h))

  pair_stays : (l : SatLit) → IsNumberIn t.basis.lits l → can_pair t.basis.bank.terms t.basis.lits l ≡ can_pair g.bank.terms g.lits l
  pair_stays l h = ap (λ (m : Literal). l.positive || not (has_equal_sides m.atom)) (sym (literal-stays (naming_in t) (naming_in widened) continues l h))

  index_stays : IsRightIndex g.bank.terms g.lits t.index
  index_stays = right_stays t.basis.bank (unwitnessed t.basis g w r.basis).bank (bank_grows t.basis g w r.basis) t.basis.lits g.lits r.basis.atoms w.lits t.index r.index

  -- The tables stay right, where the further witness is listed.
  pub right-widens : IsBasis g → ((n : ℕ) → ids_of (base n) takers ≡ places_to n 0 (map (λ x. x.type) (rows_in g))) → IsRightState widened q
  right-widens good listed =
      let Q : Scope → Type 0 = λ scope. Each (λ (e : Entry Planned). IsEntry scope (naming_in widened) (sources widened) e.command) q.entries in
      record {
        basis = good;
        clauses = each-weaker (Each (IsNumberIn t.basis.lits)) (Each (IsNumberIn g.lits)) (more-numbers t.basis g w) (the_clauses t.steps) r.clauses;
        solver = r.solver;
        seen = more-numbers t.basis g w t.seen r.seen;
        noted = more-numbers t.basis g w t.noted.items r.noted;
        index = index_stays;
        paired = r.paired ∙ filter-same (can_pair t.basis.bank.terms t.basis.lits) (can_pair g.bank.terms g.lits) (IsNumberIn t.basis.lits) pair_stays t.noted.items r.noted;
        universals = λ a. r.universals a ∙ places-same (is_universal t.basis.bank.terms t.basis.lits a) (is_universal g.bank.terms g.lits a) (IsNumberIn t.basis.lits) (universal_stays a) 0 t.noted.items r.noted;
        offered = subst (ListsOffers (the_offers t.offers) t.names t.bases.items) (sym (scope-stays t.basis g w r.basis)) r.offered;
        takers = listed;
        terms = each-weaker (λ (u : Listing). IsPlace t.basis.bank.terms u.1) (λ (u : Listing). IsPlace g.bank.terms u.1) (λ u h. place_stays u.1 h) t.terms r.terms;
        chosen = each-weaker (IsPlace t.basis.bank.terms) (IsPlace g.bank.terms) place_stays t.chosen r.chosen;
        described = each-weaker (IsPlace t.basis.bank.terms) (IsPlace g.bank.terms) place_stays t.described r.described;
        walked = each-weaker (IsPlace t.basis.bank.terms) (IsPlace g.bank.terms) place_stays t.walked r.walked;
        taken =
            taken-on (the_state t q).chosen (the_state widened q).chosen (the_state t q).described (the_state widened q).described t.basis.bank.terms g.bank.terms t.walked
            (ap (λ (s : State). s.chosen) between_same) (ap (λ (s : State). s.described) between_same) (term-stays t.basis.bank.terms g.bank.terms continues.terms) r.walked r.taken;
        stems = stems_stay;
        open_holes = r.open_holes ∙ ap (map (λ (p : Sketch). holes_in [] p.partial)) (sym sketches_stay);
        roots = λ a. ap (list_any (λ (p : Sketch). same_type a p.type)) sketches_stay ∙ r.roots a;
        budget = r.budget;
        holes = λ n. r.holes n ∙ ap (places_where (has_hole_of n) 0) (sym sketches_stay);
        queue = subst Q (sym (scope-stays t.basis g w r.basis))
            (entries-stay (without_witnesses t.basis.bank) (sources t) (sources widened) extends (naming_in t) (naming_in widened)
            (command-stays (naming_in t) (naming_in widened) continues) (numbers-stay (naming_in t) (naming_in widened) continues) q.entries r.queue);
      }
