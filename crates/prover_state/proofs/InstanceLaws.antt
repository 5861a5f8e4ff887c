-- Instances by numbers.
use Rattle.std.specs.Prelude.{◌≡◌, ◌≤◌, ℕ, Bool, true, false, List, [], ◌∷◌, ◌++◌, map, length, slice_get, Some, refl, if◌then◌else◌}
use Rattle.std.specs.List.{list_all, flat_map}
use Rattle.std.proofs.Common.{sym, ap, ap₂, subst, ◌∙◌}
use Rattle.stt_core.proofs.ListLaws.{map-append}
use Rattle.tableau_calculus.specs.Literals.{Literal}
use Rattle.sat_base.specs.declared.literal.SatLit.{SatLit}
use Rattle.command_queue.specs.Queue.{Queue}
use Rattle.tableau_calculus.specs.Each.{Each}
use Rattle.mode_file.specs.declared.Mode.{Mode}
use Rattle.search_spec.specs.Shallow.{is_shallow_literal}
use Rattle.search_spec.specs.Clauses.{instance_clauses, with_clauses}
use Rattle.search_spec.specs.Unsatisfiable.{Clause}
use Rattle.tableau_calculus.specs.Kinds.{formulas}
use Rattle.search_spec.specs.Numbered.{numbers}
use Rattle.search_spec.specs.State.{State}
use Rattle.search_spec.specs.Instances.{with_literals, with_instance}
use Rattle.search_spec.proofs.NamingLaws.{each-joined, instance_clauses-mapped, with_clauses-mapped, instance_clauses_good, with_clauses_good}
use Rattle.term_bank.specs.Laws.{EqualIdsForEqualTerms}
use Rattle.literal_map.specs.Atoms.{bank_literal}
use Rattle.tableau_clauses.specs.Table.{Table, the_clauses}
use Rattle.sat_core.specs.Solver.{SolverState, learned}
use Rattle.prover_state.specs.declared.command.Planned.{Planned}
use Rattle.prover_state.specs.declared.command.Delays.{Delays}
use Rattle.prover_state.specs.declared.tables.Tables.{Tables}
use Rattle.prover_state.specs.Internal.Names.{IsNumberIn}
use Rattle.prover_state.specs.Internal.Standing.{the_state, IsRightState}
use Rattle.prover_state.proofs.NumberLaws.{stand}

pub joined-mapped : {K L : Type 0} (d : K → L) (as' : List (List K)) → flat_map (λ (a : List L). a) (map (map d) as') ≡ map d (flat_map (λ (a : List K). a) as')
joined-mapped d [] = refl
joined-mapped d (a ∷ as') = ap (λ ls. map d a ++ ls) (joined-mapped d as') ∙ sym (map-append d a (flat_map (λ a. a) as'))

pub each-flat : {K : Type 0} (P : K → Type 0) (as' : List (List K)) → Each (Each P) as' → Each P (flat_map (λ (a : List K). a) as')
each-flat P [] h = tt
each-flat P (a ∷ as') h = each-joined P a (flat_map (λ a. a) as') h.0 (each-flat P as' h.1)

module _ (t : Tables) (q : Queue Planned Delays) (equal : EqualIdsForEqualTerms t.basis.bank) (differ : (v w id : ℕ) → slice_get t.basis.lits v ≡ Some id → slice_get t.basis.lits w ≡ Some id → v ≡ w) (r : IsRightState t q) (mode : Mode) (ps : List SatLit) (as' : List (List SatLit)) (gp : Each (IsNumberIn t.basis.lits) ps) (ga : Each (Each (IsNumberIn t.basis.lits)) as') where
  abbrev d : SatLit → Literal
  d = bank_literal t.basis.bank.terms t.basis.lits

  abbrev before : State
  before = the_state t q

  -- the clauses in numbers with those of the instance
  abbrev more : List (List SatLit)
  more = with_clauses numbers (the_clauses t.steps) (instance_clauses numbers ps as')

  abbrev further : List Clause
  further = with_clauses formulas before.clauses (instance_clauses formulas (map d ps) (map (map d) as'))

  pub clauses_are_numbers : Each (Each (IsNumberIn t.basis.lits)) more
  clauses_are_numbers =
      with_clauses_good numbers (IsNumberIn t.basis.lits) (the_clauses t.steps) (instance_clauses numbers ps as') r.clauses
      (instance_clauses_good numbers formulas (IsNumberIn t.basis.lits) d (stand t.basis.bank t.basis.lits r.basis.atoms equal differ) ps as' gp ga)

  further_is : further ≡ map (map d) more
  further_is =
      let s = stand t.basis.bank t.basis.lits r.basis.atoms equal differ in
      ap (with_clauses formulas before.clauses) (instance_clauses-mapped numbers formulas (IsNumberIn t.basis.lits) d s ps as' gp ga)
      ∙ with_clauses-mapped numbers formulas (IsNumberIn t.basis.lits) d s (the_clauses t.steps) (instance_clauses numbers ps as') r.clauses
      (instance_clauses_good numbers formulas (IsNumberIn t.basis.lits) d s ps as' gp ga)

  abbrev with_all : State
  with_all = with_literals mode (flat_map (λ (a : List Literal). a) (map (map d) as')) (record before { clauses = further })

  by_test : (b : Bool) → list_all (list_all is_shallow_literal) (map (map d) as') ≡ b → (if b then with_all else before) ≡ with_instance mode (map d ps) (map (map d) as') before
  by_test b e = sym (ap (λ (x : Bool). if x then with_all else before) e)

  pub too_deep : list_all (list_all is_shallow_literal) (map (map d) as') ≡ false → before ≡ with_instance mode (map d ps) (map (map d) as') before
  too_deep e = by_test false e

  pub shallow_added : (x : Table) (y : SolverState) → the_clauses x ≡ more → list_all (list_all is_shallow_literal) (map (map d) as') ≡ true
      → with_literals mode (map d (flat_map (λ (a : List SatLit). a) as')) (the_state (record t { steps = x; solver = y }) q) ≡ with_instance mode (map d ps) (map (map d) as') before
  shallow_added x y is e =
      ap₂ (λ ls (cs : List Clause). with_literals mode ls (record before { clauses = cs })) (sym (joined-mapped d as')) (ap (map (map d)) is ∙ sym further_is)
      ∙ by_test true e

  pub right-added : (x : Table) (y : SolverState) → the_clauses x ≡ more → y.clauses ≡ the_clauses x → learned y ≡ learned t.solver → IsRightState (record t { steps = x; solver = y }) q
  right-added x y is same learns =
      let B : List (List SatLit) → Type 0 = λ ls. length ls ≤ q.rule.mode.conflicts in
      record {
        basis = r.basis;
        seen = r.seen;
        noted = r.noted;
        universals = r.universals;
        terms = r.terms;
        chosen = r.chosen;
        described = r.described;
        walked = r.walked;
        taken = r.taken;
        index = r.index;
        paired = r.paired;
        offered = r.offered;
        takers = r.takers;
        stems = r.stems;
        open_holes = r.open_holes;
        roots = r.roots;
        holes = r.holes;
        budget = subst B (sym learns) r.budget;
        queue = r.queue;
        clauses = subst (Each (Each (IsNumberIn t.basis.lits))) (sym is) clauses_are_numbers;
        solver = same;
      }
