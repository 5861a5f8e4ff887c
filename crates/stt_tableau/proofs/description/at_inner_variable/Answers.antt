use Rattle.stt_core.specs.View.{the_type}
use Rattle.stt_tableau.proofs.InstanceTypes.{lifted_function}
use Rattle.stt_tableau.proofs.description.at_inner_variable.Goals as goal

pub at_new_variable-requires : goal.at_new_variable-requires
at_new_variable-requires c = lifted_function (the_type c.args.ty.now) c.args.f.now c.in_ok-lifted.lifted c.requires c.in_ok-lifted.ensures
