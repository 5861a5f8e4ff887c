use Rattle.std.proofs.Common.{refl}
use Rattle.thf_names.specs.Names.{escaped}
use Rattle.outside.proofs.Writes.{on_err}
use Rattle.thf_names.proofs.Writes.{stopped_at}
use Rattle.thf_names.proofs.names.write_characters.Goals as goal

pub returns-in_err-write_escaped-clause-stopped : goal.returns-in_err-write_escaped-clause-stopped
returns-in_err-write_escaped-clause-stopped g c = on_err c.from_residual.result
    (stopped_at escaped c.args.name.now c.loop-byte.byte-index _ 0 c.loop-byte-test.true refl c.loop-byte.invariant c.in_err-write_escaped.ensures.stopped)
