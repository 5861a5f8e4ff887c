use Rattle.std.proofs.Common.{◌≡◌, ◌+◌, ℕ, List, Some, drop, length, slice_get, arith, sym, ap, ap₂, subst, ◌∙◌}
use Rattle.std.proofs.Math.ListN.{drop_of_length-le}
use Rattle.stt_core.specs.Lambda.{Lambda}
use Rattle.stt_core.proofs.ListLaws.{drop_got}
use Rattle.term_bank.specs.Terms.{term_at}
use Rattle.tableau_calculus.specs.Each.{Each}
use Rattle.mode_file.specs.declared.Mode.{Mode}
use Rattle.search_spec.specs.Selections.{selections_in, with_selections}
use Rattle.search_spec.specs.State.{State}
use Rattle.prover_state.specs.declared.tables.Tables.{Tables}
use Rattle.prover_state.specs.Internal.Names.{IsPlace}
use Rattle.prover_state.specs.Internal.Selecting.{term_parts, head_selection, IsTakenSelection}
use Rattle.prover_state.specs.Internal.Standing.{the_state}
use Rattle.prover_state.proofs.SelectingLaws.{all_in, selections-split, all-taken, taken-leaves, selections-append, any-member}
use Rattle.prover_state.proofs.SelectionLaws.{right-walked}
use Rattle.prover_state.proofs.tables.Core.+walk.Goals as goal

pub returns-then-contains-clause-state : goal.returns-then-contains-clause-state
returns-then-contains-clause-state g t c =
    let self = c.args.self.now in
    let terms = self.tables.basis.bank.terms in
    let u = term_at terms c.args.id in
    let mode = self.plan.rule.mode in
    let s = the_state self.tables self.plan in
    sym (taken-leaves mode (selections_in u) s (any-member (λ i. Each (IsTakenSelection s.chosen s.described) (selections_in (term_at terms i))) c.args.id self.tables.walked (sym c.contains.ensures ∙ c.if-contains.true) c.requires.right.taken))

pub loop-i-init : goal.loop-i-init
loop-i-init g t c =
    let self = c.args.self.now in
    let terms = self.tables.basis.bank.terms in
    let u = term_at terms c.args.id in
    let mode = self.plan.rule.mode in
    let s = the_state self.tables self.plan in
    let e = c.in_ok-select_head.ensures in
    record {
      right = e.stays.right;
      tables =
          e.tables
          ∙ ap (λ (ids : List ℕ). record self.tables { chosen = c.select_head.new.self.tables.chosen; described = c.select_head.new.self.tables.described; walked = ids })
          (sym (ap (λ (x : Tables). x.walked) e.tables));
      rule = e.stays.rule;
      state =
          ap (with_selections mode (all_in (term_parts u))) e.state
          ∙ sym (selections-append mode (head_selection u) (all_in (term_parts u)) s)
          ∙ sym (ap (λ ps. with_selections mode ps s) (selections-split terms c.node-node.result.now u c.node-node.ensures.term));
    }

pub loop-i-preserved : goal.loop-i-preserved
loop-i-preserved g t c =
    let self = c.args.self.now in
    let terms = self.tables.basis.bank.terms in
    let u = term_at terms c.args.id in
    let mode = self.plan.rule.mode in
    let s = the_state self.tables self.plan in
    let inv = c.loop-i.invariant in
    let e = c.in_ok-walk.ensures in
    let now = the_state c.loop-i.self.tables c.loop-i.self.plan in
    let same : c.loop-i.self.tables.basis.bank.terms ≡ terms = ap (λ (x : Tables). x.basis.bank.terms) inv.tables in
    let part = subst (λ (ts : List Lambda). slice_get (term_parts (term_at ts c.args.id)) c.loop-i.i ≡ Some (term_at ts c.part_of-part.result)) same c.part_of-part.ensures.part in
    let v = term_at terms c.part_of-part.result in
    let rest = all_in (drop (c.loop-i.i + 1) (term_parts u)) in
    record {
      right = e.stays.right;
      tables = e.tables ∙ ap (λ (x : Tables). record x { chosen = c.walk.new.self.tables.chosen; described = c.walk.new.self.tables.described; walked = c.walk.new.self.tables.walked }) inv.tables;
      rule = e.stays.rule ∙ inv.rule;
      state =
          ap (with_selections mode rest) (e.state ∙ ap₂ (λ (m : Mode) (ts : List Lambda). with_selections m (selections_in (term_at ts c.part_of-part.result)) now) (ap (λ r. r.mode) inv.rule) same)
          ∙ sym (selections-append mode (selections_in v) rest now)
          ∙ sym (ap (λ us. with_selections mode (all_in us) now) (drop_got (term_parts u) c.loop-i.i v part))
          ∙ inv.state;
    }

pub returns-clause-state : goal.returns-clause-state
returns-clause-state g t c =
    let self = c.args.self.now in
    let terms = self.tables.basis.bank.terms in
    let u = term_at terms c.args.id in
    let mode = self.plan.rule.mode in
    let s = the_state self.tables self.plan in
    let now = the_state c.loop-i.self.tables c.loop-i.self.plan in
    let n = c.count_parts-i-end.ensures ∙ ap (λ (x : Tables). length (term_parts (term_at x.basis.bank.terms c.args.id))) c.in_ok-select_head.ensures.tables in
    sym (ap (λ us. with_selections mode (all_in us) now) (drop_of_length-le (term_parts u) (omega (arith, c.loop-i-test.false, n)))) ∙ c.loop-i.invariant.state

pub returns-clause-stays : goal.returns-clause-stays
returns-clause-stays g t c =
    let self = c.args.self.now in
    let terms = self.tables.basis.bank.terms in
    let u = term_at terms c.args.id in
    let mode = self.plan.rule.mode in
    let s = the_state self.tables self.plan in
    let inv = c.loop-i.invariant in
    let now = the_state c.loop-i.self.tables c.loop-i.self.plan in
    let n = c.count_parts-i-end.ensures ∙ ap (λ (x : Tables). length (term_parts (term_at x.basis.bank.terms c.args.id))) c.in_ok-select_head.ensures.tables in
    let done : now ≡ with_selections mode (selections_in u) s = sym (ap (λ us. with_selections mode (all_in us) now) (drop_of_length-le (term_parts u) (omega (arith, c.loop-i-test.false, n)))) ∙ inv.state in
    let same : terms ≡ c.loop-i.self.tables.basis.bank.terms = sym (ap (λ (x : Tables). x.basis.bank.terms) inv.tables) in
    record {
      right =
          right-walked c.loop-i.self.tables c.loop-i.self.plan inv.right c.insert.new.self c.args.id c.in_ok-insert.ensures.list
          (subst (λ (ts : List Lambda). IsPlace ts c.args.id) same c.requires.place)
          (subst (λ (ts : List Lambda). Each (IsTakenSelection now.chosen now.described) (selections_in (term_at ts c.args.id))) same
          (subst (λ (x : State). Each (IsTakenSelection x.chosen x.described) (selections_in u)) (sym done) (all-taken mode (selections_in u) s)));
      rule = inv.rule;
    }

pub returns-clause-tables : goal.returns-clause-tables
returns-clause-tables g t c = ap (λ (x : Tables). record x { walked = c.insert.new.self }) c.loop-i.invariant.tables
