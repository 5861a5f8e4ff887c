use Rattle.std.proofs.Common.{◌≡◌, ◌-◌, ◌||◌, false, suc, length, sym, ap, subst, ◌∙◌, arith}
use Rattle.std.proofs.lemmas.List.{length-replicate}
use Rattle.rebuild_spec.specs.Trees.{at_result, same_place}
use Rattle.tableau_rebuild.specs.declared.reached.Reached.{Reached}
use Rattle.tableau_rebuild.specs.Internal.Flags.{flagged, AreFlagsOf}
use Rattle.tableau_rebuild.proofs.FlagLaws.{flags_begin, flags_more}
use Rattle.tableau_rebuild.proofs.reached.reach.Goals as goal

pub loop-n-init : goal.loop-n-init
loop-n-init c =
    let t = c.args.steps.now in
    let log = c.args.log.now in
    let old : Reached = record { results = c.in_ok-no_flags.field-0; clauses = c.in_ok-no_flags-2.field-0 } in
    let new = c.mark.new.self in
    let last = c.requires.closed.number in
    let count = c.len-3.ensures in
    let is_last = c.requires.closed.is_last in
    let place : c.len-3.result - 1 ≡ last = omega (arith, count, is_last) in
    subst (λ m. AreFlagsOf t log m new) (sym c.len-n.ensures)
    (flags_begin t log last is_last old new c.len-2.result c.len.result c.in_ok-no_flags-2.ensures c.in_ok-no_flags.ensures
    (c.mark.ensures.clauses ∙ ap length c.in_ok-no_flags-2.ensures ∙ length-replicate c.len-2.result false ∙ c.len-2.ensures)
    (c.mark.ensures.results ∙ ap length c.in_ok-no_flags.ensures ∙ length-replicate c.len.result false ∙ c.len.ensures)
    (λ p. c.mark.ensures.marks p ∙ ap (λ k. flagged old p || same_place (at_result k) p) place))

pub loop-n-preserved : goal.loop-n-preserved
loop-n-preserved c =
    let t = c.args.steps.now in
    let log = c.args.log.now in
    let n = c.loop-n.n in
    let some = c.loop-n-test.true in
    let e : n ≡ suc (n - 1) = omega (arith, some) in
    flags_more t log c.requires.log (n - 1) c.loop-n.reached c.mark_from.new.self (subst (λ m. AreFlagsOf t log m c.loop-n.reached) e c.loop-n.invariant) c.mark_from.ensures.clauses c.mark_from.ensures.results c.mark_from.ensures.marks
