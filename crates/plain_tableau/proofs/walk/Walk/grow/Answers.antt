use Rattle.std.proofs.Common.{◌≡◌, reverse, get_or, sym, subst}
use Rattle.tableau_rebuild.specs.Tables.{atoms_at}
use Rattle.plain_tableau.specs.Tables.{used_at, the_used}
use Rattle.plain_tableau.proofs.MachineLaws.{next_some, next_none, comes_open, comes_over}
use Rattle.plain_tableau.proofs.walk.Walk.grow.Goals as goal

pub returns-in-None-clause-comes : goal.returns-in-None-clause-comes
returns-in-None-clause-comes c =
    let b = c.args.bank.now in
    let atoms = c.args.atoms.now in
    let keys = c.loop-made.self.path.literals.keys in
    comes_open (the_used b.terms atoms c.args.steps.now c.args.used.now) c.args.nodes c.args.start.now (atoms_at b.terms atoms) c.loop-made.made (reverse c.loop-made.self.frames.items) keys c.loop-made.self.writing.lines c.loop-made.invariant.ahead (next_none b.terms atoms c.args.steps.now keys c.args.used.now c.in-None.ensures.none)

pub returns-in-None-next-clause-comes : goal.returns-in-None-next-clause-comes
returns-in-None-next-clause-comes c =
    let b = c.args.bank.now in
    let atoms = c.args.atoms.now in
    let keys = c.loop-made.self.path.literals.keys in
    comes_open (the_used b.terms atoms c.args.steps.now c.args.used.now) c.args.nodes c.args.start.now (atoms_at b.terms atoms) c.loop-made.made (reverse c.loop-made.self.frames.items) keys c.loop-made.self.writing.lines c.loop-made.invariant.ahead (next_none b.terms atoms c.args.steps.now keys c.args.used.now c.in-None-next.ensures.none)

pub returns-in-Some-next-clause-comes : goal.returns-in-Some-next-clause-comes
returns-in-Some-next-clause-comes c =
    let b = c.args.bank.now in
    let atoms = c.args.atoms.now in
    let t = c.args.steps.now in
    let used = c.args.used.now in
    let keys = c.loop-made.self.path.literals.keys in
    let next = c.in-Some-next.ensures.some in
    comes_over (the_used b.terms atoms t used) c.args.nodes c.args.start.now (atoms_at b.terms atoms) c.loop-made.made (reverse c.loop-made.self.frames.items) keys c.loop-made.self.writing.lines (used_at b.terms atoms t (get_or used c.in-Some-next.field-0 0)) c.loop-made.invariant.ahead (next_some b.terms atoms t keys used c.in-Some-next.field-0 next.0 next.1) c.loop-made-test.false
