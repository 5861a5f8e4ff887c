use Rattle.stt_core.specs.View.{the_type}
use Rattle.stt_tableau.proofs.InstanceTypes.{described_applies, predicate_function}
use Rattle.stt_tableau.proofs.description.nowhere_repeated_or_described.Goals as goal

pub nowhere_literal-requires : goal.nowhere_literal-requires
nowhere_literal-requires c = predicate_function (the_type c.args.ty.now) c.args.f.now c.requires

pub repeated_literal-requires : goal.repeated_literal-requires
repeated_literal-requires c = predicate_function (the_type c.args.ty.now) c.args.f.now c.requires

pub described_literal-requires : goal.described_literal-requires
described_literal-requires c = described_applies (the_type c.args.ty.now) c.args.f.now c.requires
