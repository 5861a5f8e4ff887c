use Rattle.std.proofs.Common.{[], slice_index_or, refl, arith}
use Rattle.std.proofs.lemmas.Option.{slice_get-get_or}
use Rattle.stt_core.proofs.ListLaws.{map_more}
use Rattle.tableau_calculus.specs.declared.refutation.Child.TheVariants.{Closed}
use Rattle.tableau_rebuild.proofs.line.all_closed.Goals as goal

pub loop-i-preserved : goal.loop-i-preserved
loop-i-preserved c =
    let xs = c.args.alternatives.now in
    let i = c.loop-i._i in
    let within = c.loop-i-test.true in
    let count = c.len-i-end.ensures in
    map_more (λ _. Closed) xs i (slice_index_or xs i []) c.loop-i.children c.push.new.self Closed (slice_get-get_or xs i [] (omega (arith, within, count))) c.loop-i.invariant refl c.in_ok-push.ensures.ok
