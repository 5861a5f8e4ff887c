use Rattle.std.proofs.Common.{take}
use Rattle.std.specs.List.{flat_map}
use Rattle.thf_names.specs.Names.{escaped}
use Rattle.outside.specs.Writing.{Took}
use Rattle.thf_names.proofs.names.write_characters.Given as goal

abbrev pub invariant-loop-byte : goal.invariant-loop-byte
invariant-loop-byte g l =
    let sink = g.S.Sink in
    Took sink.tells sink.written sink.faults l.fn.sink l.sink (flat_map escaped (take l.byte-index l.name))
