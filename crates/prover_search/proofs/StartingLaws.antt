-- A start, as the tables have it.
use Rattle.std.specs.Prelude.{◌≡◌, ◌≤◌, ◌+◌, ◌&&◌, ℕ, suc, Bool, true, false, not, List, [], ◌∷◌, ◌++◌, map, filter, take, length, slice_get, Some, if◌then◌else◌, refl}
use Rattle.std.specs.List.{list_any, list_all}
use Rattle.std.proofs.Common.{sym, ap, ap₂, ◌∙◌, subst, arith, append-nil, length-append}
use Rattle.std.proofs.lemmas.List.Elements.{filter-append}
use Rattle.stt_core.specs.Typing.{Scope, IsScope}
use Rattle.stt_core.proofs.ListLaws.{map-append, take_got}
use Rattle.tableau_calculus.specs.Literals.{Literal, IsBranch}
use Rattle.tableau_calculus.specs.Kinds.{has, added, formulas}
use Rattle.tableau_calculus.specs.Start.{without_repeats}
use Rattle.tableau_calculus.proofs.AddedLaws.{added-append}
use Rattle.tableau_calculus.specs.Witnesses.{with_rows}
use Rattle.sat_base.specs.declared.literal.SatLit.{SatLit}
use Rattle.command_queue.specs.Queue.{Queue}
use Rattle.tableau_calculus.specs.Each.{Each}
use Rattle.mode_file.specs.declared.Mode.{Mode}
use Rattle.mode_file.specs.Given.{IsInRange}
use Rattle.search_spec.specs.Shallow.{is_shallow_literal}
use Rattle.sat_base.specs.Literal.{same_var}
use Rattle.std.specs.Bool.{beq}
use Rattle.search_spec.specs.Clauses.{same_clause, with_clauses, instance_clauses}
use Rattle.search_spec.specs.Numbered.{numbers}
use Rattle.search_spec.specs.State.{State, Setting, process, with_commands}
use Rattle.search_spec.specs.Instances.{with_literals, with_instance}
use Rattle.search_spec.specs.After.{nothing_yet, starting_state, state_after}
use Rattle.search_spec.specs.Heads.{HeadOffers}
use Rattle.search_spec.specs.Offers.{offered_heads}
use Rattle.head_offers.specs.Offering.{the_offers}
use Rattle.search_spec.proofs.TypedPushes.{each_filtered}
use Rattle.refute_print.specs.Sizes.{nesting}
use Rattle.type_bound.specs.Modest.{IsModestLiteral}
use Rattle.literal_map.specs.Atoms.{bank_literal}
use Rattle.tableau_clauses.specs.declared.origin.Origin.TheVariants.{Start}
use Rattle.tableau_clauses.specs.Table.{Step, Table, clauses_in, the_clauses, start_units}
use Rattle.tableau_clauses.proofs.UnitLaws.{units-append}
use Rattle.prover_state.specs.declared.command.Planned.{Planned}
use Rattle.prover_state.specs.declared.command.Delays.{Delays}
use Rattle.prover_state.specs.declared.tables.Basis.{Basis}
use Rattle.prover_state.specs.declared.tables.Tables.{Tables}
use Rattle.prover_state.specs.Internal.Growing.{BasisGrows}
use Rattle.prover_state.specs.Internal.Standing.{without_witnesses, setting_by, the_state, IsRightState}
use Rattle.prover_state.specs.Internal.Steps.{IsMadeInstance}
use Rattle.prover_search.specs.Internal.Running.{start_in, IsRunning}
use Rattle.prover_search.specs.Internal.Starting.{AddsUnit, AddsStart, start_offering, IsStarting}
use Rattle.prover_search.proofs.StartLaws.{unit, started-last, started-again, alone-clauses}

mapped_length : {X Y : Type 0} (f : X → Y) (xs : List X) → length (map f xs) ≡ length xs
mapped_length f [] = refl
mapped_length f (x ∷ xs) = ap (λ n. suc n) (mapped_length f xs)

-- where a clause came, the literal is the last start unit
units_added : (lit : SatLit) (old new : Table) → AddsUnit lit old new → length new.0 ≡ length old.0 + 1 → start_units new.0 ≡ start_units old.0 ++ lit ∷ []
units_added lit old new a longer = by_test (list_any (same_clause numbers (lit ∷ [])) (the_clauses old)) a.clauses
  where
    by_test : (b : Bool) → new.0 ≡ (if b then old.0 else old.0 ++ (lit ∷ [], Start) ∷ []) → start_units new.0 ≡ start_units old.0 ++ lit ∷ []
    by_test true e = absurd (omega (arith, longer, ap length e))
    by_test false e = ap start_units e ∙ units-append old.0 ((lit ∷ [], Start) ∷ [])

-- where none came, the literal's clause was there
unit_there : (lit : SatLit) (old new : Table) → AddsUnit lit old new → length new.0 ≡ length old.0 → new ≡ old
unit_there lit old new a same = by_test (list_any (same_clause numbers (lit ∷ [])) (the_clauses old)) a.clauses
  where
    by_test : (b : Bool) → new.0 ≡ (if b then old.0 else old.0 ++ (lit ∷ [], Start) ∷ []) → new ≡ old
    by_test true e = λ i. (e i, a.instances i)
    by_test false e = absurd (omega (arith, same, ap length e, length-append old.0 ((lit ∷ [], Start) ∷ [])))

shallow_twice : (ls : List Literal) → filter is_shallow_literal (filter is_shallow_literal ls) ≡ filter is_shallow_literal ls
shallow_twice [] = refl
shallow_twice (l ∷ ls) = by_test (is_shallow_literal l) refl (shallow_twice ls)
  where
    by_test : (b : Bool) → is_shallow_literal l ≡ b → filter is_shallow_literal (filter is_shallow_literal ls) ≡ filter is_shallow_literal ls → filter is_shallow_literal (if b then l ∷ filter is_shallow_literal ls else filter is_shallow_literal ls) ≡ (if b then l ∷ filter is_shallow_literal ls else filter is_shallow_literal ls)
    by_test true e rest = ap (λ (b : Bool). if b then l ∷ filter is_shallow_literal (filter is_shallow_literal ls) else filter is_shallow_literal (filter is_shallow_literal ls)) e ∙ ap (λ ks. l ∷ ks) rest
    by_test false e rest = rest

branch_filtered : (scope : Scope) (ls : List Literal) → IsBranch scope ls → IsBranch scope (filter is_shallow_literal ls)
branch_filtered scope [] h = tt
branch_filtered scope (l ∷ ls) h = by_test (is_shallow_literal l) (branch_filtered scope ls h.1)
  where
    by_test : (b : Bool) → IsBranch scope (filter is_shallow_literal ls) → IsBranch scope (if b then l ∷ filter is_shallow_literal ls else filter is_shallow_literal ls)
    by_test true rest = (h.0, rest)
    by_test false rest = rest

clauses_length : (t : Tables) (q : Queue Planned Delays) → length (the_state t q).clauses ≡ length t.steps.0
clauses_length t q = mapped_length (map (bank_literal t.basis.bank.terms t.basis.lits)) (the_clauses t.steps) ∙ mapped_length (λ s. s.0) t.steps.0

pub scope-grows : (g h : Basis) → BasisGrows g h → without_witnesses h.bank ≡ without_witnesses g.bank
scope-grows g h w = λ i. record { bases = length (w.bank.bases i); names = map (λ c. c.type) (w.bank.consts i); witnesses = [] }

-- WHERE ONE LITERAL COMES

pub alone-deep : (mode : Mode) (l : Literal) (s : State) → is_shallow_literal l ≡ false → s ≡ with_instance mode [] ((l ∷ []) ∷ []) s
alone-deep mode l s e =
    let more = with_literals mode (l ∷ []) (record s { clauses = with_clauses formulas s.clauses (instance_clauses formulas [] ((l ∷ []) ∷ [])) }) in
    sym (ap (λ (b : Bool). if (b && true) && true then more else s) e)

pub all-shallow : (l : Literal) → is_shallow_literal l ≡ true → list_all (list_all is_shallow_literal) ((l ∷ []) ∷ []) ≡ true
all-shallow l e = ap (λ (b : Bool). (b && true) && true) e

both-true : (b : Bool) → b ≡ true → b ≡ false → ⊥
both-true true e f = cc
both-true false e f = cc

-- what a literal adds that is too deep, and one that isn't
pub adds-deep : (lit : SatLit) (t : Tables) → is_shallow_literal (bank_literal t.basis.bank.terms t.basis.lits lit) ≡ false → AddsStart lit t t
adds-deep lit t deep = record { deep = λ e. refl; unit = λ e. absurd (both-true (is_shallow_literal (bank_literal t.basis.bank.terms t.basis.lits lit)) e deep) }

pub adds-shallow : (lit : SatLit) (t u v : Tables) (seen : List SatLit) → v ≡ record u { seen = seen } → is_shallow_literal (bank_literal t.basis.bank.terms t.basis.lits lit) ≡ true → AddsUnit lit t.steps u.steps → AddsStart lit t v
adds-shallow lit t u v seen e shallow unit =
    let A : Tables → Type 0 = λ x. AddsStart lit t x in
    subst A (sym e) (record { deep = λ f. absurd (both-true (is_shallow_literal (bank_literal t.basis.bank.terms t.basis.lits lit)) shallow f); unit = λ f. unit })

sign_differs : (b : Bool) → beq (not b) b ≡ false
sign_differs true = refl
sign_differs false = refl

negated_differs : (l : SatLit) → numbers.same (numbers.opposite l) l ≡ false
negated_differs l = ap (λ (b : Bool). same_var l.var l.var && b) (sign_differs l.positive) ∙ and_false (same_var l.var l.var)
  where
    and_false : (b : Bool) → (b && false) ≡ false
    and_false true = refl
    and_false false = refl

pick_mapped : {X Y : Type 0} (f : X → Y) (b : Bool) (x y : X) → f (if b then x else y) ≡ (if b then f x else f y)
pick_mapped f true x y = refl
pick_mapped f false x y = refl

-- the clauses with a unit more
pub unit-clauses : (lit : SatLit) (old new : Table) → AddsUnit lit old new → the_clauses new ≡ with_clauses numbers (the_clauses old) (instance_clauses numbers [] ((lit ∷ []) ∷ []))
unit-clauses lit old new a =
    ap clauses_in a.clauses
    ∙ pick_mapped clauses_in (list_any (same_clause numbers (lit ∷ [])) (the_clauses old)) old.0 (old.0 ++ (lit ∷ [], Start) ∷ [])
    ∙ ap (λ (cs : List (List SatLit)). if list_any (same_clause numbers (lit ∷ [])) (the_clauses old) then the_clauses old else cs) (map-append (λ (s : Step). s.0) old.0 ((lit ∷ [], Start) ∷ []))
    ∙ sym (ap (with_clauses numbers (the_clauses old)) (alone-clauses numbers lit (negated_differs lit)))

module _ (t0 : Tables) (q0 : Queue Planned Delays) where
  abbrev setting : Setting
  setting = setting_by t0 q0

  module _ (t u : Tables) (q p : Queue Planned Delays) (ls : List Literal) (lit : SatLit) (s : IsStarting t0 q0 t q ls) (is : the_state u p ≡ with_instance q.rule.mode [] ((bank_literal t.basis.bank.terms t.basis.lits lit ∷ []) ∷ []) (the_state t q)) (right : IsRightState u p) (same : u.basis ≡ t.basis) (adds : AddsStart lit t u) (rule : p.rule ≡ q.rule) where
    abbrev l : Literal
    l = bank_literal t.basis.bank.terms t.basis.lits lit

    abbrev shallow : List Literal → List Literal
    shallow xs = filter is_shallow_literal xs

    from_start : the_state u p ≡ with_instance setting.mode [] ((l ∷ []) ∷ []) (start_offering (the_offers t0.offers) setting ls)
    from_start = is ∙ ap₂ (λ (d : Delays) (x : State). with_instance d.mode [] ((l ∷ []) ∷ []) x) s.rule s.state

    basis_grows : BasisGrows t0.basis u.basis
    basis_grows = subst (BasisGrows t0.basis) (sym same) s.basis

    -- the start units by what the numbers stood for
    in_place : start_in u ≡ map (bank_literal t.basis.bank.terms t.basis.lits) (start_units u.steps.0)
    in_place = ap (λ (g : Basis). map (bank_literal g.bank.terms g.lits) (start_units u.steps.0)) same

    steps_before : length t.steps.0 ≡ length (shallow ls)
    steps_before = sym (clauses_length t q) ∙ ap (λ (x : State). length x.clauses) s.state ∙ mapped_length unit (shallow ls)

    module _ (there : has formulas ls l ≡ true) where
      state_again : the_state u p ≡ start_offering (the_offers t0.offers) setting ls
      state_again = from_start ∙ started-again (the_offers t0.offers) setting ls l there

      steps_again : length u.steps.0 ≡ length t.steps.0
      steps_again = sym (clauses_length u p) ∙ ap (λ (x : State). length x.clauses) state_again ∙ mapped_length unit (shallow ls) ∙ sym steps_before

      same_steps : (b : Bool) → is_shallow_literal l ≡ b → u.steps ≡ t.steps
      same_steps true e = unit_there lit t.steps u.steps (adds.unit e) steps_again
      same_steps false e = adds.deep e

      starting_again : IsStarting t0 q0 u p ls
      starting_again =
          let kept = same_steps (is_shallow_literal l) refl in
          record {
            state = state_again;
            right = right;
            basis = basis_grows;
            units = in_place ∙ ap (λ (x : Table). map (bank_literal t.basis.bank.terms t.basis.lits) (start_units x.0)) kept ∙ s.units;
            instances = ap (λ (x : Table). x.1) kept ∙ s.instances;
            rule = rule ∙ s.rule;
          }

    module _ (fresh : has formulas ls l ≡ false) where
      state_more : the_state u p ≡ start_offering (the_offers t0.offers) setting (ls ++ l ∷ [])
      state_more = from_start ∙ sym (started-last (the_offers t0.offers) setting ls l fresh)

      longer : (b : Bool) → is_shallow_literal l ≡ b → shallow (ls ++ l ∷ []) ≡ shallow ls ++ (if b then l ∷ [] else [])
      longer b e = filter-append is_shallow_literal ls (l ∷ []) ∙ ap (λ (c : Bool). shallow ls ++ (if c then l ∷ [] else [])) e

      units_more : (b : Bool) → is_shallow_literal l ≡ b → (start_in u ≡ shallow (ls ++ l ∷ [])) × (u.steps.1 ≡ [])
      units_more false e =
          let kept = adds.deep e in (
            in_place ∙ ap (λ (x : Table). map (bank_literal t.basis.bank.terms t.basis.lits) (start_units x.0)) kept ∙ s.units ∙ sym (longer false e ∙ append-nil (shallow ls)),
            ap (λ (x : Table). x.1) kept ∙ s.instances,
          )
      units_more true e =
          let d : SatLit → Literal = bank_literal t.basis.bank.terms t.basis.lits in
          let state_after : length u.steps.0 ≡ length (shallow (ls ++ l ∷ [])) = sym (clauses_length u p) ∙ ap (λ (x : State). length x.clauses) state_more ∙ mapped_length unit (shallow (ls ++ l ∷ [])) in
          let one_more : length u.steps.0 ≡ length t.steps.0 + 1 = omega (arith, state_after, steps_before, ap length (longer true e), length-append (shallow ls) (l ∷ [])) in (
            in_place
                ∙ ap (map d) (units_added lit t.steps u.steps (adds.unit e) one_more)
                ∙ map-append d (start_units t.steps.0) (lit ∷ [])
                ∙ ap (λ (xs : List Literal). xs ++ l ∷ []) s.units
                ∙ sym (longer true e),
            (adds.unit e).instances ∙ s.instances,
          )

      starting_more : IsStarting t0 q0 u p (ls ++ l ∷ [])
      starting_more =
          let m = units_more (is_shallow_literal l) refl in
          record { state = state_more; right = right; basis = basis_grows; units = m.0; instances = m.1; rule = rule ∙ s.rule }

    -- one literal more was added, unless it is there already
    pub starting-added : IsStarting t0 q0 u p (added formulas ls (l ∷ []))
    starting-added = by_test (has formulas ls l) refl
      where
        by_test : (b : Bool) → has formulas ls l ≡ b → IsStarting t0 q0 u p (if b then ls else ls ++ l ∷ [])
        by_test true e = starting_again e
        by_test false e = starting_more e

  pub done-none : (t : Tables) (q : Queue Planned Delays) (ls : List Literal) → IsStarting t0 q0 t q ls → t.done ≡ 0
  done-none t q ls s = ap (λ (x : State). x.done) s.state

  -- a start is the start of a run
  module _ (t : Tables) (q : Queue Planned Delays) (ls : List Literal) (s : IsStarting t0 q0 t q ls) (declared : IsScope (without_witnesses t0.basis.bank)) (typed : IsBranch (without_witnesses t0.basis.bank) ls) (names : Each (λ a. nesting a ≤ 1024) (without_witnesses t0.basis.bank).names) (modest : Each (IsModestLiteral 1024) ls) (unwitnessed : t0.basis.witnesses ≡ []) (range : IsInRange q0.rule.mode) (offered : the_offers t0.offers ≡ offered_heads q0.rule.mode (without_witnesses t0.basis.bank) (filter is_shallow_literal ls)) where
    setting_same : setting_by t q ≡ setting
    setting_same = ap₂ (λ (x : Scope) (d : Delays). record { scope = x; mode = d.mode }) (scope-grows t0.basis t.basis s.basis) s.rule

    state_is : starting_state (setting_by t q) (start_in t) ≡ the_state t q
    state_is =
        ap₂ (λ (x : Setting) (ks : List Literal). starting_state x ks) setting_same s.units
        ∙ ap (λ ks. with_commands setting.mode (map process ks) (record nothing_yet { clauses = map unit ks; seen = ks; offers = offered_heads setting.mode setting.scope ks })) (shallow_twice ls)
        ∙ ap (λ (o : HeadOffers). start_offering o setting ls) (sym offered)
        ∙ sym s.state

    pub running-start : IsRunning t q
    running-start =
        let C : ℕ → Type 0 = λ n. state_after (setting_by t q) (start_in t) n ≡ Some (the_state t q) in
        let B : Scope → Type 0 = λ x. IsBranch (with_rows x []) (start_in t) in
        let L : List Literal → Type 0 = λ ks. IsBranch (with_rows (without_witnesses t0.basis.bank) []) ks in
        let same = scope-grows t0.basis t.basis s.basis in
        record {
          right = s.right;
          comes_to = subst C (sym (done-none t q ls s)) (ap Some state_is);
          range = let R : Delays → Type 0 = λ d. IsInRange d.mode in subst R (sym s.rule) range;
          within = omega (arith, done-none t q ls s);
          few = omega (arith, ap length s.basis.witnesses, ap length unwitnessed);
          declared = subst IsScope (sym same) declared;
          start = subst B (sym same) (subst L (sym s.units) (branch_filtered (without_witnesses t0.basis.bank) ls typed));
          modest = record { some = omega arith; names = subst (λ (x : Scope). Each (λ a. nesting a ≤ 1024) x.names) (sym same) names };
          modest_start = subst (Each (IsModestLiteral 1024)) (sym s.units) (each_filtered (IsModestLiteral 1024) (IsModestLiteral 1024) is_shallow_literal (λ l h e. h) ls modest);
          made = subst (Each (IsMadeInstance t.basis)) (sym s.instances) tt;
        }

-- the next literal of a list was added
pub starting-next : (t0 t u : Tables) (q0 q p : Queue Planned Delays) (lits : List SatLit) (i : ℕ) (lit : SatLit) → slice_get lits i ≡ Some lit
    → IsStarting t0 q0 t q (without_repeats (map (bank_literal t0.basis.bank.terms t0.basis.lits) (take i lits))) → t.basis ≡ t0.basis
    → the_state u p ≡ with_instance q.rule.mode [] ((bank_literal t.basis.bank.terms t.basis.lits lit ∷ []) ∷ []) (the_state t q) → IsRightState u p → u.basis ≡ t.basis → AddsStart lit t u → p.rule ≡ q.rule
    → IsStarting t0 q0 u p (without_repeats (map (bank_literal t0.basis.bank.terms t0.basis.lits) (take (i + 1) lits)))
starting-next t0 t u q0 q p lits i lit at s kept is right same adds rule =
    let d : SatLit → Literal = bank_literal t0.basis.bank.terms t0.basis.lits in
    let before = map d (take i lits) in
    let named : bank_literal t.basis.bank.terms t.basis.lits lit ≡ d lit = ap (λ (g : Basis). bank_literal g.bank.terms g.lits lit) kept in
    let more : added formulas (added formulas [] before) (bank_literal t.basis.bank.terms t.basis.lits lit ∷ []) ≡ without_repeats (map d (take (i + 1) lits)) =
    ap (λ (l : Literal). added formulas (added formulas [] before) (l ∷ [])) named
    ∙ sym (ap (λ ls. added formulas [] (map d ls)) (take_got lits i lit at) ∙ ap (added formulas []) (map-append d (take i lits) (lit ∷ [])) ∙ added-append [] before (d lit ∷ [])) in
    let S : List Literal → Type 0 = λ ls. IsStarting t0 q0 u p ls in
    subst S more (starting-added t0 q0 t u q p (without_repeats before) lit s is right same adds rule)
