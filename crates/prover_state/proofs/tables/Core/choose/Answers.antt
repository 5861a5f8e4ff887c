use Rattle.std.proofs.Common.{◌≡◌, not, nat_eq, Bool, true, false, refl, sym, ◌∙◌}
use Rattle.std.specs.List.{list_any}
use Rattle.prover_state.proofs.SelectionLaws.{chosen-before, chosen-now, right-chosen}
use Rattle.prover_state.proofs.tables.Core.choose.Goals as goal

was_there : (b : Bool) → not b ≡ false → b ≡ true
was_there true e = refl
was_there false e = cc

was_new : (b : Bool) → not b ≡ true → b ≡ false
was_new true e = cc
was_new false e = refl

pub returns-then-not-branch-clause-state : goal.returns-then-not-branch-clause-state
returns-then-not-branch-clause-state g c =
    let self = c.args.self.now in
    chosen-before self.tables self.plan c.equal_ids_for_equal_terms.ensures c.requires.right self.plan.rule.mode c.args.predicate c.requires.place c.insert.new.self c.in_ok-insert.ensures.list
    (was_there (list_any (nat_eq c.args.predicate) self.tables.chosen) (sym c.in_ok-insert.ensures.new ∙ c.if-not-branch.true))

pub returns-then-not-branch-clause-stays : goal.returns-then-not-branch-clause-stays
returns-then-not-branch-clause-stays g c =
    let self = c.args.self.now in
    record {
      right = right-chosen self.tables self.plan c.equal_ids_for_equal_terms.ensures c.requires.right self.plan.rule.mode c.args.predicate c.requires.place c.insert.new.self c.in_ok-insert.ensures.list;
      rule = refl;
    }

pub push_alone-requires-clause-right : goal.push_alone-requires-clause-right
push_alone-requires-clause-right g c =
    let self = c.args.self.now in
    right-chosen self.tables self.plan c.equal_ids_for_equal_terms.ensures c.requires.right self.plan.rule.mode c.args.predicate c.requires.place c.insert.new.self c.in_ok-insert.ensures.list

pub returns-clause-state : goal.returns-clause-state
returns-clause-state g c =
    let self = c.args.self.now in
    c.in_ok-push_alone.ensures.state
    ∙ chosen-now self.tables self.plan c.equal_ids_for_equal_terms.ensures c.requires.right self.plan.rule.mode c.args.predicate c.requires.place c.insert.new.self c.in_ok-insert.ensures.list
    (was_new (list_any (nat_eq c.args.predicate) self.tables.chosen) (sym c.in_ok-insert.ensures.new ∙ c.if-not-branch.false))
