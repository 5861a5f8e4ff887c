use Rattle.test_cases.proofs.Names.{declared_named}
use Rattle.test_cases.proofs.start.write.Goals as goal

pub write_text-requires-clause-named : goal.write_text-requires-clause-named
write_text-requires-clause-named c =
    declared_named c.args.sig.now.bases c.args.sig.now.consts c.args.branch.now c.args.refutation.now c.in-Ok.ensures.accepted
