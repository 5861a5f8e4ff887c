use Rattle.std.proofs.Common.{◌∙◌, arith}
use Rattle.std.proofs.lemmas.Option.{slice_get-get_or}
use Rattle.prover_search.proofs.StartingLaws.{starting-next}
use Rattle.prover_search.proofs.start.start_all.Goals as goal

pub loop-i-preserved : goal.loop-i-preserved
loop-i-preserved g c =
    let core = c.args.core.now in
    let now = c.loop-i.core in
    let new = c.start_with.new.core in
    let e = c.in_ok-start_with.ensures in (
      starting-next core.tables now.tables new.tables core.plan now.plan new.plan c.args.start.now c.loop-i.i _ (slice_get-get_or c.args.start.now c.loop-i.i _ (omega (arith, c.loop-i-test.true)))
          c.loop-i.invariant.0 c.loop-i.invariant.1 e.state e.stays.right e.basis e.steps e.stays.rule,
      e.basis ∙ c.loop-i.invariant.1,
    )
