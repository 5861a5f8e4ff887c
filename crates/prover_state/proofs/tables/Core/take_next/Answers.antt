use Rattle.std.proofs.Common.{◌+◌, Option, Some, refl, sym, ap, subst, ◌∙◌, arith}
use Rattle.command_queue.specs.Queue.{AddsEntryAt}
use Rattle.tableau_calculus.specs.Each.{Each}
use Rattle.prover_state.specs.declared.command.Rest.{Rest}
use Rattle.prover_state.specs.Internal.Names.{command_at}
use Rattle.prover_state.specs.Internal.Pending.{later_of, AreThere, EndsBelow, IsApart}
use Rattle.prover_state.specs.Internal.Standing.{without_witnesses, naming_in, sources}
use Rattle.prover_state.proofs.TakeLaws.{entry-good, ends-below, is-apart, takes-alone, right-alone, none-left, takes-more, right-more}
use Rattle.prover_state.proofs.tables.Core.take_next.Goals as goal

pub unreachable-requires : goal.unreachable-requires
unreachable-requires g c = c.requires.some (c.in-None.ensures.empty.0 refl)

pub returns-in-None-rest-clause-takes : goal.returns-in-None-rest-clause-takes
returns-in-None-rest-clause-takes g c =
    let self = c.args.self.now in
    let e = c.in-Some.entry in
    let t = self.tables in
    takes-alone t self.plan c.pop.new.self e c.in-Some.ensures.first c.pop.ensures.spaced c.requires.right
    (ap (later_of (without_witnesses t.basis.bank) (sources t) (command_at (naming_in t) e.command.first)) c.in-None-rest.is)

pub returns-in-None-rest-clause-stays : goal.returns-in-None-rest-clause-stays
returns-in-None-rest-clause-stays g c =
    let self = c.args.self.now in
    record {
      right = right-alone self.tables self.plan c.pop.new.self c.in-Some.entry c.in-Some.ensures.first c.pop.ensures.spaced c.requires.right;
      rule = c.in-Some.ensures.first.rule;
    }

pub returns-then-rest-clause-takes : goal.returns-then-rest-clause-takes
returns-then-rest-clause-takes g c =
    let self = c.args.self.now in
    let e = c.in-Some.entry in
    let t = self.tables in
    takes-alone t self.plan c.pop.new.self e c.in-Some.ensures.first c.pop.ensures.spaced c.requires.right
    (none-left t self.plan c.pop.new.self e c.in-Some.ensures.first c.pop.ensures.spaced c.requires.right e.command.rest refl c.in-Some-rest.rest c.in-Some-rest.is c.if-rest.true)

pub returns-then-rest-clause-stays : goal.returns-then-rest-clause-stays
returns-then-rest-clause-stays g c =
    let self = c.args.self.now in
    record {
      right = right-alone self.tables self.plan c.pop.new.self c.in-Some.entry c.in-Some.ensures.first c.pop.ensures.spaced c.requires.right;
      rule = c.in-Some.ensures.first.rule;
    }

pub command_of-requires-clause-numbers : goal.command_of-requires-clause-numbers
command_of-requires-clause-numbers g c =
    let self = c.args.self.now in
    let t = self.tables in
    (entry-good (without_witnesses t.basis.bank) (naming_in t) (sources t) self.plan c.pop.new.self c.in-Some.entry c.in-Some.ensures.first c.pop.ensures.spaced c.requires.right.queue).numbers

pub command_of-requires-clause-witnesses : goal.command_of-requires-clause-witnesses
command_of-requires-clause-witnesses g c =
    let self = c.args.self.now in
    let t = self.tables in
    let T : Option Rest → Type 0 = λ o. AreThere (without_witnesses t.basis.bank) (sources t) (command_at (naming_in t) c.in-Some.entry.command.first) o in
    let w = subst T c.in-Some-rest.is (entry-good (without_witnesses t.basis.bank) (naming_in t) (sources t) self.plan c.pop.new.self c.in-Some.entry c.in-Some.ensures.first c.pop.ensures.spaced c.requires.right.queue).later in
    w.witnesses

pub command_of-requires-clause-within : goal.command_of-requires-clause-within
command_of-requires-clause-within g c =
    let self = c.args.self.now in
    let t = self.tables in
    let T : Option Rest → Type 0 = λ o. AreThere (without_witnesses t.basis.bank) (sources t) (command_at (naming_in t) c.in-Some.entry.command.first) o in
    let w = subst T c.in-Some-rest.is (entry-good (without_witnesses t.basis.bank) (naming_in t) (sources t) self.plan c.pop.new.self c.in-Some.entry c.in-Some.ensures.first c.pop.ensures.spaced c.requires.right.queue).later in
    omega (arith, w.within, c.if-rest.false)

pub overflow_add-entry : goal.overflow_add-entry
overflow_add-entry g c = omega (arith, c.in-Some.ensures.first.taken, c.pushes-pushes.ensures, c.pushes-pushes.type_inv)

pub put_back-requires-clause-taken : goal.put_back-requires-clause-taken
put_back-requires-clause-taken g c =
    let self = c.args.self.now in
    let t = self.tables in
    let E : Rest → Type 0 = λ x. EndsBelow c.pop.new.self.pushes (record { due = c.in-Some.entry.due; number = c.in-Some.entry.number + 1; command = record { first = c.in_ok-next.next; rest = Some x } }) in
    subst E (sym c.behind.ensures)
    (ends-below (without_witnesses t.basis.bank) (naming_in t) (sources t) self.plan c.pop.new.self c.in-Some.entry c.in-Some.ensures.first c.pop.ensures.spaced c.requires.right.queue
    c.in-Some-rest.rest c.in-Some-rest.is c.if-rest.false c.in_ok-next.next c.in_ok-next.ensures.command c.in_ok-next.ensures.numbers)

pub put_back-requires-clause-apart : goal.put_back-requires-clause-apart
put_back-requires-clause-apart g c =
    let self = c.args.self.now in
    let t = self.tables in
    let A : Rest → Type 0 = λ x. Each (IsApart (record { due = c.in-Some.entry.due; number = c.in-Some.entry.number + 1; command = record { first = c.in_ok-next.next; rest = Some x } })) c.pop.new.self.entries in
    subst A (sym c.behind.ensures)
    (is-apart (without_witnesses t.basis.bank) (naming_in t) (sources t) self.plan c.pop.new.self c.in-Some.entry c.in-Some.ensures.first c.pop.ensures.spaced c.requires.right.queue
    c.in-Some-rest.rest c.in-Some-rest.is c.if-rest.false c.in_ok-next.next c.in_ok-next.ensures.command c.in_ok-next.ensures.numbers)

pub returns-clause-takes : goal.returns-clause-takes
returns-clause-takes g c =
    let self = c.args.self.now in
    let P : Rest → Type 0 = λ x. AddsEntryAt c.pop.new.self c.put_back.new.self (record { due = c.in-Some.entry.due; number = c.in-Some.entry.number + 1; command = record { first = c.in_ok-next.next; rest = Some x } }) in
    takes-more self.tables self.plan c.pop.new.self c.in-Some.entry c.in-Some.ensures.first c.pop.ensures.spaced c.requires.right
    c.in-Some-rest.rest c.in-Some-rest.is c.if-rest.false c.in_ok-next.next c.in_ok-next.ensures.command c.in_ok-next.ensures.numbers
    c.put_back.new.self (subst P c.behind.ensures c.in_ok-put_back.ensures.ok)

pub returns-clause-stays : goal.returns-clause-stays
returns-clause-stays g c =
    let self = c.args.self.now in
    let P : Rest → Type 0 = λ x. AddsEntryAt c.pop.new.self c.put_back.new.self (record { due = c.in-Some.entry.due; number = c.in-Some.entry.number + 1; command = record { first = c.in_ok-next.next; rest = Some x } }) in
    record {
      right =
          right-more self.tables self.plan c.pop.new.self c.in-Some.entry c.in-Some.ensures.first c.pop.ensures.spaced c.requires.right
          c.in-Some-rest.rest c.in-Some-rest.is c.if-rest.false c.in_ok-next.next c.in_ok-next.ensures.command c.in_ok-next.ensures.numbers
          c.put_back.new.self (subst P c.behind.ensures c.in_ok-put_back.ensures.ok);
      rule = c.in_ok-put_back.ensures.ok.rule ∙ c.in-Some.ensures.first.rule;
    }

pub command_of-requires-clause-right : goal.command_of-requires-clause-right
command_of-requires-clause-right g c = (c.args.self.now.plan, c.requires.right)

pub command_of-requires-clause-signed : goal.command_of-requires-clause-signed
command_of-requires-clause-signed g c =
    let self = c.args.self.now in
    let t = self.tables in
    let T : Option Rest → Type 0 = λ o. AreThere (without_witnesses t.basis.bank) (sources t) (command_at (naming_in t) c.in-Some.entry.command.first) o in
    let w = subst T c.in-Some-rest.is (entry-good (without_witnesses t.basis.bank) (naming_in t) (sources t) self.plan c.pop.new.self c.in-Some.entry c.in-Some.ensures.first c.pop.ensures.spaced c.requires.right.queue).later in
    w.signed
