-- The tables of a run are what a refutation is rebuilt from.
use Rattle.std.specs.Prelude.{◌≡◌, ◌-◌, ◌++◌, ℕ, suc, Bool, true, false, get_or, List, [], ◌∷◌, map, length, Option, Some, None, option_map, slice_get, Contains, refl}
use Rattle.std.specs.List.{All}
use Rattle.std.proofs.Common.{sym, ap, subst, ◌∙◌, arith, length-append}
use Rattle.std.proofs.lemmas.List.{map-append, length-map}
use Rattle.std.proofs.lemmas.List.Elements.{All-take}
use Rattle.std.proofs.lemmas.Option.{same_Some, slice_get-map}
use Rattle.stt_core.specs.Typing.{Scope}
use Rattle.stt_core.specs.Lambda.{Lambda}
use Rattle.tableau_calculus.specs.Literals.{Literal}
use Rattle.tableau_calculus.specs.Witnesses.{with_rows}
use Rattle.tableau_calculus.specs.RuleUses.{principals_of}
use Rattle.tableau_calculus.specs.Rules.{PlainRule, Rule}
use Rattle.tableau_calculus.specs.Closed.{literals_at}
use Rattle.tableau_calculus.specs.declared.rule_use.RuleUse.TheVariants.{Cut}
use Rattle.tableau_calculus.specs.declared.refutation.Line.{Line}
use Rattle.tableau_calculus.specs.declared.refutation.Refutation.{Refutation}
use Rattle.tableau_calculus.proofs.AcceptedLaws.{literals_at-are}
use Rattle.sat_base.specs.declared.literal.SatLit.{SatLit}
use Rattle.sat_base.specs.Literal.{IsOver}
use Rattle.sat_log.specs.declared.log.LogEntry.{LogEntry}
use Rattle.sat_base.specs.Truth.{Implies}
use Rattle.sat_log.specs.Chains.{results, IsLogOver}
use Rattle.sat_log.specs.Propagation.{ReachesFalse}
use Rattle.sat_core.specs.Solver.{SolverState, learned_from, learned, OccurIn, WereLearned, IsSound}
use Rattle.term_bank.specs.Content.{content_scope}
use Rattle.tableau_calculus.specs.Each.{Each}
use Rattle.literal_map.specs.Atoms.{bank_literal}
use Rattle.literal_map.specs.Numbers.{UseByNumbers}
use Rattle.literal_map.specs.declared.instance.Instance.{Instance}
use Rattle.rebuild_spec.specs.Input.{literals_of, clause_in}
use Rattle.rebuild_spec.specs.Given.{IsGiven}
use Rattle.rebuild_spec.specs.Rebuilt.{IsRebuilt}
use Rattle.rebuild_spec.specs.Trimmed.{IsFromSearch}
use Rattle.rebuild_spec.specs.Used.{AreFew}
use Rattle.search_spec.specs.Numbered as by_atoms
use Rattle.search_spec.specs.Numbered.{AreApart}
use Rattle.search_spec.specs.Unsatisfiable.{Clause}
use Rattle.tableau_clauses.specs.Table.{Step, Table, the_clauses, the_instances, ComesFromOrigin, EachComes, units_in, start_units}
use Rattle.tableau_clauses.specs.declared.origin.Origin.{Origin}
use Rattle.tableau_clauses.specs.declared.origin.Origin.TheVariants.{Start, Instance as From}
use Rattle.tableau_rules.specs.Uses.{use_of}
use Rattle.tableau_rebuild.specs.Tables.{no_literal, atoms_at, sourced, the_sources, the_input, start_literals_in, unit_literals}
use Rattle.tableau_rebuild.specs.Conditions.{IsInstanceOver, EndsEmpty}
use Rattle.prover_state.specs.declared.tables.Basis.{Basis}
use Rattle.prover_state.specs.Internal.Names.{IsNumberIn}
use Rattle.prover_state.specs.Internal.Standing.{rows_in, IsBasis}
use Rattle.prover_state.specs.Internal.Steps.{IsMadeInstance}
use Rattle.prover_state.proofs.EachLaws.{each-weaker, each-unmapped, map-same, All-from_each}
use Rattle.prover_state.proofs.NumberLaws.{literal_named}
use Rattle.prover_run.specs.Learning.{HasLearned, AreRefutedWithin}
use Rattle.prover_run.specs.Origin.{ComesFrom as ComesFromClauses, EachComesFrom, AreRefutedShortly}
use Rattle.prover_run.proofs.LearningLaws.{propagates-from_reaches}
use Rattle.prover_run.proofs.GivenUses.{well-numbered}
use Rattle.prover_run.proofs.OriginLaws.{comes-from}

-- what holds of all results holds of the learned ones
pub learned-among : (P : List SatLit → Type 0) (refuted : Bool) (rs : List (List SatLit)) → All P rs → All P (learned_from refuted rs)
learned-among P true rs h = All-take P (length rs - 1) rs h
learned-among P false rs h = h

-- the principals stand at the places of their rule
principals-placed : (terms : List Lambda) (atoms : List ℕ) (by : UseByNumbers)
    → literals_at (map (bank_literal terms atoms) (principals_of by)) (principals_of (use_of terms atoms by)) ≡ map (bank_literal terms atoms) (principals_of by)
principals-placed terms atoms (Cut l) = refl
principals-placed terms atoms by = refl

-- the clause of a source is the clause that comes from there
clause_sourced : (terms : List Lambda) (atoms : List ℕ) (t : Table) (clause : List SatLit) (o : Origin) → ComesFromOrigin t.1 clause o → clause_in (sourced terms atoms t.1 clause o) ≡ clause
clause_sourced terms atoms t clause Start h = ap (λ c. get_or c 0 no_literal ∷ []) h.1 ∙ sym h.1
clause_sourced terms atoms t clause (From k) h = refl

sourced-each : (terms : List Lambda) (atoms : List ℕ) (t : Table) (steps : List Step) → ((n : ℕ) (s : Step) → slice_get steps n ≡ Some s → ComesFromOrigin t.1 s.0 s.1)
    → map clause_in (map (λ (s : Step). sourced terms atoms t.1 s.0 s.1) steps) ≡ map (λ (s : Step). s.0) steps
sourced-each terms atoms t [] h = refl
sourced-each terms atoms t (s ∷ steps) h =
    let here = clause_sourced terms atoms t s.0 s.1 (h 0 s refl) in
    let later = sourced-each terms atoms t steps (λ n r at. h (suc n) r at) in
    λ i. here i ∷ later i

-- the clauses of the sources are those of the table
pub sources-clauses : (terms : List Lambda) (atoms : List ℕ) (t : Table) → EachComes t → map clause_in (the_sources terms atoms t) ≡ the_clauses t
sources-clauses terms atoms t comes = sourced-each terms atoms t t.0 comes

module _ (g : Basis) (good : IsBasis g) where
  abbrev named : List Lambda
  named = atoms_at g.bank.terms g.lits

  abbrev by_number : SatLit → Literal
  by_number = bank_literal g.bank.terms g.lits

  -- numbered literals are those of the list of atoms
  pub literals-named : (ls : List SatLit) → Each (IsNumberIn g.lits) ls → map by_number ls ≡ literals_of named ls
  literals-named ls h = sym (map-same (by_atoms.literal_at named) by_number (IsNumberIn g.lits) (literal_named g.bank g.lits good.atoms) ls h)

  pub lists-named : (lists : List (List SatLit)) → Each (Each (IsNumberIn g.lits)) lists → map (map by_number) lists ≡ map (literals_of named) lists
  lists-named lists h = map-same (map by_number) (literals_of named) (Each (IsNumberIn g.lits)) literals-named lists h

  over : (ls : List SatLit) → Each (IsNumberIn g.lits) ls → IsOver (length g.lits) ls
  over ls h = All-from_each (IsNumberIn g.lits) ls h

  -- the witnesses of the bank are those of the rows
  scope_rows : with_rows (content_scope g.bank) (rows_in g) ≡ content_scope g.bank
  scope_rows = λ i. record { bases = length g.bank.bases; names = map (λ c. c.type) g.bank.consts; witnesses = good.typed i }

  module _ (i : Instance) (m : IsMadeInstance g i) where
    abbrev principals_number : Each (IsNumberIn g.lits) i.principals
    principals_number = subst (Each (IsNumberIn g.lits)) (sym m.principals) m.numbered

    abbrev rule : PlainRule
    rule = use_of g.bank.terms g.lits i.by

    principals_are : m.fits.principals ≡ literals_of named i.principals
    principals_are =
        sym (literals_at-are (map by_number (principals_of i.by)) (principals_of rule) m.fits.principals m.fits.at_places)
        ∙ principals-placed g.bank.terms g.lits i.by
        ∙ ap (map by_number) (sym m.principals)
        ∙ literals-named i.principals principals_number

    rule_fits : Rule (with_rows (content_scope g.bank) (rows_in g)) (rows_in g) rule (literals_of named i.principals) (map (literals_of named) i.alternatives)
    rule_fits =
        let S : Scope → Type 0 = λ s. Rule s (rows_in g) rule (literals_of named i.principals) (map (literals_of named) i.alternatives) in
        let P : List Literal → Type 0 = λ ls. Rule (content_scope g.bank) (rows_in g) rule ls (map (literals_of named) i.alternatives) in
        let A : List (List Literal) → Type 0 = λ as'. Rule (content_scope g.bank) (rows_in g) rule m.fits.principals as' in
        subst S (sym scope_rows) (subst P principals_are (subst A (lists-named i.alternatives m.numbers) m.fits.fits))

    pub made-over : IsInstanceOver g.bank g.lits (rows_in g) i
    made-over = record {
      takes = m.parts;
      principals = over i.principals principals_number;
      alternatives = All-from_each (IsOver (length g.lits)) i.alternatives (each-weaker (Each (IsNumberIn g.lits)) (IsOver (length g.lits)) over i.alternatives m.numbers);
      fits = rule_fits;
    }

  pub instances-over : (is : List Instance) → Each (IsMadeInstance g) is → All (IsInstanceOver g.bank g.lits (rows_in g)) is
  instances-over is h = All-from_each (IsInstanceOver g.bank g.lits (rows_in g)) is (each-weaker (IsMadeInstance g) (IsInstanceOver g.bank g.lits (rows_in g)) made-over is h)

  units_each : (steps : List Step) → Each (λ (s : Step). Each (IsNumberIn g.lits) s.0) steps → Each (λ (s : Step). s.1 ≡ Start → IsOver (length g.lits) s.0) steps
  units_each steps h = each-weaker (λ (s : Step). Each (IsNumberIn g.lits) s.0) (λ (s : Step). s.1 ≡ Start → IsOver (length g.lits) s.0) (λ s k _. over s.0 k) steps h

  pub units-numbered : (steps : List Step) → Each (Each (IsNumberIn g.lits)) (map (λ (s : Step). s.0) steps) → All (λ (s : Step). s.1 ≡ Start → IsOver (length g.lits) s.0) steps
  units-numbered steps h = All-from_each (λ (s : Step). s.1 ≡ Start → IsOver (length g.lits) s.0) steps (units_each steps (each-unmapped (Each (IsNumberIn g.lits)) (λ (s : Step). s.0) steps h))

  unit_named : (clause : List SatLit) (o : Origin) → Each (IsNumberIn g.lits) clause → map by_number (units_in clause o) ≡ start_literals_in named clause o
  unit_named clause Start h = literals-named clause h
  unit_named clause (From k) h = refl

  -- the start units are the same literals
  pub units-named : (steps : List Step) → Each (Each (IsNumberIn g.lits)) (map (λ (s : Step). s.0) steps) → map by_number (start_units steps) ≡ unit_literals named steps
  units-named [] h = refl
  units-named (s ∷ steps) h =
      map-append by_number (units_in s.0 s.1) (start_units steps)
      ∙ ap (λ ls. ls ++ map by_number (start_units steps)) (unit_named s.0 s.1 h.0)
      ∙ ap (λ ls. start_literals_in named s.0 s.1 ++ ls) (units-named steps h.1)

  module _ (t : Table) (numbers : Each (Each (IsNumberIn g.lits)) (the_clauses t)) where
    -- the clauses of the sources stand for the clauses of formulas
    pub sources-named : EachComes t → map (literals_of named) (map clause_in (the_sources g.bank.terms g.lits t)) ≡ map (map by_number) (the_clauses t)
    sources-named comes = ap (map (literals_of named)) (sources-clauses g.bank.terms g.lits t comes) ∙ sym (lists-named (the_clauses t) numbers)

    -- lines of what the tables give come from the clauses of formulas
    pub origin-named : (log : List LogEntry) (ls : List Literal) (lines : List Line) → EachComes t → ((l : Line) → Contains lines l → IsFromSearch ls (the_input g.bank g.lits t log g.witnesses) l)
        → EachComesFrom ls (map (map by_number) (the_clauses t)) lines
    origin-named log ls lines comes from l there =
        let C : List Clause → Type 0 = λ cs. ComesFromClauses ls cs l in
        subst C (sources-named comes) (comes-from (the_input g.bank g.lits t log g.witnesses) ls l (from l there))

    abbrev formulas : List Clause
    formulas = map (map by_number) (the_clauses t)

    module _ (y : SolverState) (apart : AreApart named) (over_atoms : Each (Each (by_atoms.IsNumber named)) (the_clauses t)) (is : y.clauses ≡ the_clauses t) (sound : IsSound y) (implied : All (Implies y.clauses) (results y.log)) where
      -- what a solver over the clauses learned, over the clauses of formulas
      abbrev pub learning-named : HasLearned formulas
      learning-named =
          let O : List (List SatLit) → Type 0 = λ cs. OccurIn cs (learned y) in
          let I : List (List SatLit) → Type 0 = λ cs. All (Implies cs) (learned y) in
          let W : List (List SatLit) → Type 0 = λ cs. WereLearned cs (learned y) in
          record {
            atoms = named;
            apart = apart;
            numbered = the_clauses t;
            numbers = over_atoms;
            stand = sym (lists-named (the_clauses t) numbers);
            learned = learned y;
            once = sound.once;
            differ = sound.apart;
            occurring = subst O is sound.occurring;
            implied = subst I is (learned-among (Implies y.clauses) y.is_refuted (results y.log) implied);
            in_turn = subst W is sound.in_turn;
          }

      abbrev pub within-named : ReachesFalse (y.clauses ++ learned y) [] → AreRefutedWithin (length (learned y)) formulas
      within-named reaches =
          let R : List (List SatLit) → Type 0 = λ cs. ReachesFalse (cs ++ learned y) [] in
          let over = subst R is reaches in
          record { learning = learning-named; counted = omega arith; reaches = over; propagates = propagates-from_reaches formulas learning-named over }

      -- the log of the solver, from which a refutation is rebuilt
      unfoldable pub shortly-named : (scope : Scope) (ls : List Literal) (refutation : Refutation) → EachComes t → All (IsInstanceOver g.bank g.lits (rows_in g)) (the_instances t) → IsGiven scope ls (the_input g.bank g.lits t y.log g.witnesses)
          → results y.log ≡ learned y ++ [] ∷ [] → IsRebuilt (the_input g.bank g.lits t y.log g.witnesses) refutation → AreFew y.log refutation.lines → AreRefutedShortly scope ls (rows_in g) formulas learning-named refutation
      shortly-named scope ls refutation comes instances given ends rebuilt few =
          let L : List (List SatLit) → Type 0 = λ cs. IsLogOver cs y.log in
          record {
            input = the_input g.bank g.lits t y.log g.witnesses;
            atoms = refl;
            rows = refl;
            numbered = sources-clauses g.bank.terms g.lits t comes;
            given = given;
            instances = well-numbered g.bank g.lits t g.witnesses y.log comes instances;
            logged = subst L is sound.logged;
            ends = ends;
            rebuilt = rebuilt;
            few = few;
          }

last_at : {X : Type 0} (xs : List X) (x : X) → slice_get (xs ++ x ∷ []) (length xs) ≡ Some x
last_at [] x = refl
last_at (y ∷ xs) x = last_at xs x

entry_with : (clause : List SatLit) (o : Option LogEntry) → option_map (λ (e : LogEntry). e.result) o ≡ Some clause → (entry : LogEntry) × ((o ≡ Some entry) × (entry.result ≡ clause))
entry_with clause None h = cc
entry_with clause (Some e) h = (e, (refl, same_Some e.result clause h))

-- a log whose results end with the empty clause
pub ends-empty : (log : List LogEntry) (front : List (List SatLit)) → results log ≡ front ++ [] ∷ [] → EndsEmpty log
ends-empty log front ends =
    let found = entry_with [] (slice_get log (length front)) (sym (slice_get-map (λ (e : LogEntry). e.result) log (length front)) ∙ ap (λ rs. slice_get rs (length front)) ends ∙ last_at front []) in
    record {
      number = length front;
      is_last = sym (length-map log (λ (e : LogEntry). e.result)) ∙ ap length ends ∙ length-append front ([] ∷ []);
      entry = found.0;
      at = found.1.0;
      empty = found.1.1;
    }
