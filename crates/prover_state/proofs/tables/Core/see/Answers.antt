use Rattle.std.proofs.Common.{◌≡◌, not, true, false, Bool, refl, sym, ◌∙◌}
use Rattle.tableau_calculus.specs.Kinds.{has}
use Rattle.search_spec.specs.Numbered.{numbers}
use Rattle.prover_state.proofs.SeenLaws.{seen_before, seen_now, right-seen}
use Rattle.prover_state.proofs.tables.Core.see.Goals as goal

was_there : (b : Bool) → not b ≡ false → b ≡ true
was_there true e = refl
was_there false e = cc

was_new : (b : Bool) → not b ≡ true → b ≡ false
was_new true e = cc
was_new false e = refl

pub returns-then-not-branch-clause-state : goal.returns-then-not-branch-clause-state
returns-then-not-branch-clause-state g c =
    let self = c.args.self.now in
    seen_before self.tables self.plan c.equal_ids_for_equal_terms.ensures c.atoms_differ.ensures c.requires.right self.plan.rule.mode c.args.lit c.requires.number
    c.insert.new.self c.in_ok-insert.ensures.list (was_there (has numbers self.tables.seen c.args.lit) (sym c.in_ok-insert.ensures.new ∙ c.if-not-branch.true))

pub returns-then-not-branch-clause-stays : goal.returns-then-not-branch-clause-stays
returns-then-not-branch-clause-stays g c =
    let self = c.args.self.now in
    record {
      right =
          right-seen self.tables self.plan c.equal_ids_for_equal_terms.ensures c.atoms_differ.ensures c.requires.right self.plan.rule.mode c.args.lit c.requires.number
          c.insert.new.self c.in_ok-insert.ensures.list;
      rule = refl;
    }

pub returns-clause-state : goal.returns-clause-state
returns-clause-state g c =
    let self = c.args.self.now in
    c.in_ok-push_alone.ensures.state
    ∙ seen_now self.tables self.plan c.equal_ids_for_equal_terms.ensures c.atoms_differ.ensures c.requires.right self.plan.rule.mode c.args.lit c.requires.number
    c.insert.new.self c.in_ok-insert.ensures.list (was_new (has numbers self.tables.seen c.args.lit) (sym c.in_ok-insert.ensures.new ∙ c.if-not-branch.false))

pub push_alone-requires-clause-right : goal.push_alone-requires-clause-right
push_alone-requires-clause-right g c =
    let self = c.args.self.now in
    right-seen self.tables self.plan c.equal_ids_for_equal_terms.ensures c.atoms_differ.ensures c.requires.right self.plan.rule.mode c.args.lit c.requires.number
    c.insert.new.self c.in_ok-insert.ensures.list
