use Rattle.std.proofs.Common.{List, arith, sym, subst}
use Rattle.std.specs.List.{Contains}
use Rattle.sat_core.specs.Internal.Spares.{held}
use Rattle.sat_core.specs.declared.spares.Visit.{Visit}
use Rattle.sat_core.proofs.SparesLaws.{held_noted, held_none}
use Rattle.sat_core.proofs.spares.Spares.fail_rest.Goals as goal

pub loop-needing-preserved : goal.loop-needing-preserved
loop-needing-preserved c = record {
  held_on = λ v has.
      subst (λ (list : List Visit). Contains (held c.note.new.self.judged.items list) v) (sym c.in_ok-note.ensures.visits)
      (held_noted c.loop-needing.self.judged.items c.note.new.self.judged.items c.loop-needing.self.visits.items c.pop.new.self.items c.in-Some.needing c.in-Some.ensures.items c.in_ok-note.ensures.judged v
      (c.loop-needing.invariant.held_on v has));
}

pub returns : goal.returns
returns c = λ v has.
    held_none c.loop-needing.self.judged.items c.loop-needing.self.visits.items (omega (arith, c.in_default.ensures.len, c.in_default.ensures.cases.0)) v (c.loop-needing.invariant.held_on v has)
