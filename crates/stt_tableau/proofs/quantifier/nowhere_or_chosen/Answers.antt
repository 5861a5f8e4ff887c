use Rattle.stt_core.specs.View.{the_type}
use Rattle.stt_tableau.proofs.InstanceTypes.{chosen_applies, predicate_function}
use Rattle.stt_tableau.proofs.quantifier.nowhere_or_chosen.Goals as goal

pub nowhere_literal-requires : goal.nowhere_literal-requires
nowhere_literal-requires c = predicate_function (the_type c.args.ty.now) c.args.f.now c.requires

pub chosen_literal-requires : goal.chosen_literal-requires
chosen_literal-requires c = chosen_applies (the_type c.args.ty.now) c.args.f.now c.requires
