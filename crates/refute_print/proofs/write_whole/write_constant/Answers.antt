use Rattle.refute_print.proofs.Writes.{took_same, stopped_same}
use Rattle.refute_print.proofs.NamesAt.{name_text-at}
use Rattle.refute_print.proofs.write_whole.write_constant.Goals as goal

pub returns-clause-took : goal.returns-clause-took
returns-clause-took g c =
    took_same _ _ _ _ _ c.write_name.result _ _ (name_text-at c.args.sig.now.bases c.args.sig.now.consts c.args.place c.name_at.result.now c.name_at.ensures) c.write_name.ensures.took

pub returns-clause-stopped : goal.returns-clause-stopped
returns-clause-stopped g c =
    stopped_same _ _ _ _ _ c.write_name.result _ _ (name_text-at c.args.sig.now.bases c.args.sig.now.consts c.args.place c.name_at.result.now c.name_at.ensures) c.write_name.ensures.stopped
