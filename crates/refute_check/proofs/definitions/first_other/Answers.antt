use Rattle.std.proofs.Common.{map, sym, ◌∙◌, arith}
use Rattle.std.proofs.lemmas.List.{length-map}
use Rattle.refute_print.specs.Named.{names_of, name_numbered}
use Rattle.refute_check.proofs.DefinitionLaws.{same_further, differ_in_length}
use Rattle.refute_check.proofs.definitions.first_other.Goals as goal

pub loop-i-preserved : goal.loop-i-preserved
loop-i-preserved c =
    let constants = (names_of c.args.sig.now.bases c.args.sig.now.consts).constants in
    same_further c.args.names.now (map (name_numbered constants) c.args.taken.now) c.loop-i.i c.at.result.now c.loop-i.invariant c.at.ensures (c.has_at.ensures.0 c.if-not-has_at.false)

pub returns-else-len-clause-other : goal.returns-else-len-clause-other
returns-else-len-clause-other c =
    let constants = (names_of c.args.sig.now.bases c.args.sig.now.consts).constants in
    let names = c.args.names.now in
    let differ = differ_in_length names (map (name_numbered constants) c.args.taken.now) c.loop-i.i c.loop-i.invariant (omega (arith, c.len-i-end.ensures)) (λ e. c.if-len.false (c.len.ensures ∙ e ∙ length-map c.args.taken.now (name_numbered constants) ∙ sym c.len-2.ensures)) in
    rw (c.len-else-len.ensures) differ
