use Rattle.std.proofs.Common.{ap}
use Rattle.prover_state.specs.declared.tables.Tables.{Tables}
use Rattle.prover_search.proofs.AdvanceLaws.{advances-grown, alone-advances}
use Rattle.std.proofs.lemmas.Result.{on_ok_weaker}
use Rattle.prover_search.proofs.carry.carry_out.Goals as goal

pub returns-in-Mate-clause-advances : goal.returns-in-Mate-clause-advances
returns-in-Mate-clause-advances g c = on_ok_weaker c.mate.result (alone-advances c.args.core.now c.mate.new.core) c.mate.ensures.advances

pub returns-in-Confront-clause-advances : goal.returns-in-Confront-clause-advances
returns-in-Confront-clause-advances g c = on_ok_weaker c.confront.result (alone-advances c.args.core.now c.confront.new.core) c.confront.ensures.advances

pub returns-in-Inst-clause-advances : goal.returns-in-Inst-clause-advances
returns-in-Inst-clause-advances g c = on_ok_weaker c.instantiate.result (alone-advances c.args.core.now c.instantiate.new.core) c.instantiate.ensures.advances

pub returns-in-Choose-clause-advances : goal.returns-in-Choose-clause-advances
returns-in-Choose-clause-advances g c = on_ok_weaker c.choose.result (alone-advances c.args.core.now c.choose.new.core) c.choose.ensures.advances

pub returns-in-Describe-clause-advances : goal.returns-in-Describe-clause-advances
returns-in-Describe-clause-advances g c = on_ok_weaker c.describe.result (alone-advances c.args.core.now c.describe.new.core) c.describe.ensures.advances

pub returns-in_ok-fill-in-Grow-clause-advances : goal.returns-in_ok-fill-in-Grow-clause-advances
returns-in_ok-fill-in-Grow-clause-advances g c =
    let e = c.in_ok-fill-in-Grow.ensures in
    alone-advances c.args.core.now c.fill.new.core (advances-grown c.args.core.now c.fill.new.core e.stays e.basis (ap (λ (x : Tables). x.steps) e.tables) (ap (λ (x : Tables). x.done) e.tables))
