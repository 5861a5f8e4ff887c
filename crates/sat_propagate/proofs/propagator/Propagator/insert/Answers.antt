use Rattle.std.proofs.Common.{refl, sym}
use Rattle.std.proofs.lemmas.Option.{same_Some}
use Rattle.sat_propagate.specs.Internal.Trail.{literals}
use Rattle.sat_propagate.proofs.InsertLaws.{empty_false}
use Rattle.sat_propagate.proofs.propagator.Propagator.insert.Goals as goal

pub returns-in_default-clause-falsified : goal.returns-in_default-clause-falsified
returns-in_default-clause-falsified c =
    λ e. empty_false (literals c.back_to.new.self.trail.steps) c.args.clause.now c.args.clause.now refl c.in_default.ensures.none

pub insert_watched-requires-clause-rest : goal.insert_watched-requires-clause-rest
insert_watched-requires-clause-rest c = λ m h apart. c.in-Some-best.ensures.some.sooner m h (λ e. apart (sym (same_Some c.in-Some.first m e)))
