use Rattle.std.proofs.Common.{option_map, ap}
use Rattle.stt_core.specs.View.{the_type}
use Rattle.tableau_calculus.proofs.TypedLaws.{type_tells}
use Rattle.tableau_calculus.proofs.typed.is_type.Goals as goal

pub returns-in-Some : goal.returns-in-Some
returns-in-Some c =
    type_tells (option_map the_type c.args.found) (the_type c.in-Some.found) (the_type c.args.ty.now) c.same.result (ap (option_map the_type) c.in-Some.is) c.same.ensures
