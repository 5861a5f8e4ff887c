-- Seeing a literal by its number.
use Rattle.std.specs.Prelude.{◌≡◌, ◌≤◌, ◌+◌, ℕ, Bool, true, false, List, [], ◌∷◌, ◌++◌, map, drop, length, slice_get, Some, if◌then◌else◌}
use Rattle.std.proofs.Common.{sym, ap, subst, ◌∙◌}
use Rattle.std.proofs.Math.ListN.{drop_of_length-le}
use Rattle.stt_core.proofs.ListLaws.{map-append, drop_got}
use Rattle.tableau_calculus.specs.Literals.{Literal}
use Rattle.tableau_calculus.specs.Kinds.{has, formulas, added}
use Rattle.sat_base.specs.declared.literal.SatLit.{SatLit}
use Rattle.command_queue.specs.Queue.{Queue}
use Rattle.tableau_calculus.specs.Each.{Each}
use Rattle.mode_file.specs.declared.Mode.{Mode}
use Rattle.search_spec.specs.Numbered.{numbers}
use Rattle.search_spec.specs.State.{State, process, with_commands}
use Rattle.search_spec.specs.Instances.{with_literal, with_literals}
use Rattle.search_spec.proofs.NamingLaws.{has-mapped}
use Rattle.term_bank.specs.Laws.{EqualIdsForEqualTerms}
use Rattle.literal_map.specs.Atoms.{bank_literal}
use Rattle.prover_state.specs.declared.command.Planned.{Planned}
use Rattle.prover_state.specs.declared.command.Delays.{Delays}
use Rattle.prover_state.specs.declared.tables.Tables.{Tables}
use Rattle.prover_state.specs.Internal.Names.{IsNumberIn}
use Rattle.prover_state.specs.Internal.Standing.{the_state, IsRightState}
use Rattle.prover_state.proofs.EachLaws.{each-last}
use Rattle.prover_state.proofs.NumberLaws.{stand}

module _ (t : Tables) (q : Queue Planned Delays) (equal : EqualIdsForEqualTerms t.basis.bank) (differ : (v w id : ℕ) → slice_get t.basis.lits v ≡ Some id → slice_get t.basis.lits w ≡ Some id → v ≡ w) (r : IsRightState t q) (mode : Mode) (l : SatLit) (number : IsNumberIn t.basis.lits l) where
  abbrev meant : Literal
  meant = bank_literal t.basis.bank.terms t.basis.lits l

  abbrev before : State
  before = the_state t q

  test_is : has formulas before.seen meant ≡ has numbers t.seen l
  test_is = has-mapped numbers formulas (IsNumberIn t.basis.lits) (bank_literal t.basis.bank.terms t.basis.lits) (stand t.basis.bank t.basis.lits r.basis.atoms equal differ) t.seen l r.seen number

  by_test : (b : Bool) → has formulas before.seen meant ≡ b → (if b then before else with_commands mode (process meant ∷ []) (record before { seen = before.seen ++ meant ∷ [] })) ≡ with_literal mode meant before
  by_test b e = sym (ap (λ x. if x then before else with_commands mode (process meant ∷ []) (record before { seen = before.seen ++ meant ∷ [] })) e)

  pub seen_before : (x : List SatLit) → x ≡ added numbers t.seen (l ∷ []) → has numbers t.seen l ≡ true → the_state (record t { seen = x }) q ≡ with_literal mode meant before
  seen_before x is e =
      ap (λ xs. the_state (record t { seen = xs }) q) (is ∙ ap (λ (b : Bool). if b then t.seen else t.seen ++ l ∷ []) e)
      ∙ by_test true (test_is ∙ e)

  pub seen_now : (x : List SatLit) → x ≡ added numbers t.seen (l ∷ []) → has numbers t.seen l ≡ false → with_commands mode (process meant ∷ []) (the_state (record t { seen = x }) q) ≡ with_literal mode meant before
  seen_now x is e =
      ap (λ xs. with_commands mode (process meant ∷ []) (the_state (record t { seen = xs }) q)) (is ∙ ap (λ (b : Bool). if b then t.seen else t.seen ++ l ∷ []) e)
      ∙ ap (λ ls. with_commands mode (process meant ∷ []) (record before { seen = ls })) (map-append (bank_literal t.basis.bank.terms t.basis.lits) t.seen (l ∷ []))
      ∙ by_test false (test_is ∙ e)

  pub right-seen : (x : List SatLit) → x ≡ added numbers t.seen (l ∷ []) → IsRightState (record t { seen = x }) q
  right-seen x is = record {
    basis = r.basis;
    clauses = r.clauses;
    solver = r.solver;
    noted = r.noted;
    universals = r.universals;
    terms = r.terms;
    chosen = r.chosen;
    described = r.described;
    walked = r.walked;
    taken = r.taken;
    index = r.index;
    paired = r.paired;
    offered = r.offered;
    takers = r.takers;
    stems = r.stems;
    open_holes = r.open_holes;
    roots = r.roots;
    holes = r.holes;
    budget = r.budget;
    queue = r.queue;
    seen = subst (Each (IsNumberIn t.basis.lits)) (sym is) (go (has numbers t.seen l));
  }
    where
      go : (b : Bool) → Each (IsNumberIn t.basis.lits) (if b then t.seen else t.seen ++ l ∷ [])
      go true = r.seen
      go false = each-last (IsNumberIn t.basis.lits) t.seen l r.seen number

-- one literal more is seen
module _ (mode : Mode) (d : SatLit → Literal) (lits : List SatLit) (i : ℕ) (l : SatLit) (at : slice_get lits i ≡ Some l) (goal : State) where
  pub seen-more : (s s' : State) (mode' : Mode) (meant' : Literal) → mode' ≡ mode → meant' ≡ d l → s' ≡ with_literal mode' meant' s → with_literals mode (map d (drop i lits)) s ≡ goal → with_literals mode (map d (drop (i + 1) lits)) s' ≡ goal
  seen-more s s' mode' meant' m k is h =
      ap (with_literals mode (map d (drop (i + 1) lits))) (is ∙ ap (λ (x : Mode). with_literal x meant' s) m ∙ ap (λ (x : Literal). with_literal mode x s) k)
      ∙ sym (ap (λ ls. with_literals mode (map d ls) s) (drop_got lits i l at))
      ∙ h

-- all are seen
pub seen-all : (mode : Mode) (d : SatLit → Literal) (lits : List SatLit) (i : ℕ) → length lits ≤ i → (s goal : State) → with_literals mode (map d (drop i lits)) s ≡ goal → s ≡ goal
seen-all mode d lits i h s goal e = sym (ap (λ ls. with_literals mode (map d ls) s) (drop_of_length-le lits h)) ∙ e
