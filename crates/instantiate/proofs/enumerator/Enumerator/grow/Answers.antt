use Rattle.std.proofs.Common.{sym}
use Rattle.stt_core.specs.View.{the_head}
use Rattle.term_bank.specs.Content.{content_scope}
use Rattle.instantiate.proofs.GrowLaws.{part_of, whole_typed, is_term}
use Rattle.instantiate.proofs.enumerator.Enumerator.grow.Goals as goal

pub returns-in-Some-hole_base-clause-grown : goal.returns-in-Some-hole_base-clause-grown
returns-in-Some-hole_base-clause-grown c =
    let filled = rw c.in-Some.is at c.in_ok-grown.ensures.filled in
    let g = filled c.requires.typed in
    part_of (content_scope c.args.bank.now) c.sig-declared.ensures.declared c.args.partial (the_head c.args.head.now) c.in-Some.grown c.requires.typed.type c.in-Some-hole_base.field-0 g c.in-Some-hole_base.ensures

pub intern-requires-clause-typed : goal.intern-requires-clause-typed
intern-requires-clause-typed c =
    let filled = rw c.in-Some.is at c.in_ok-grown.ensures.filled in
    let g = filled c.requires.typed in
    whole_typed (content_scope c.args.bank.now) c.sig-declared.ensures.declared c.args.partial (the_head c.args.head.now) c.in-Some.grown c.requires.typed.type g (sym c.in-None.ensures)

pub returns-in_ok-intern-in-None-clause-grown : goal.returns-in_ok-intern-in-None-clause-grown
returns-in_ok-intern-in-None-clause-grown c =
    let filled = rw c.in-Some.is at c.in_ok-grown.ensures.filled in
    let g = filled c.requires.typed in
    is_term (content_scope c.args.bank.now) c.sig-declared.ensures.declared c.args.partial (the_head c.args.head.now) c.in-Some.grown c.requires.typed.type c.intern.new.bank c.in_ok-intern-in-None.field-0 g (sym c.in-None.ensures) c.in_ok-intern-in-None.ensures.term
