use Rattle.stt_core.specs.View.{the_type}
use Rattle.stt_tableau.proofs.InstanceTypes.{at_new_applies}
use Rattle.stt_tableau.proofs.quantifier.at_new_variable.Goals as goal

pub apply_nf-requires : goal.apply_nf-requires
apply_nf-requires c = at_new_applies (the_type c.args.ty.now) c.args.f.now c.in_ok-lifted.lifted c.in_ok-variable.variable c.new.result c.requires c.in_ok-lifted.ensures c.new.ensures c.in_ok-variable.ensures
