use Rattle.std.proofs.Common.{List, sym, subst}
use Rattle.sat_core.specs.declared.uses.Ends.{Ends}
use Rattle.sat_core.specs.Internal.Uses.{AreLinked}
use Rattle.sat_core.proofs.UsesLaws.{linked_longer}
use Rattle.sat_core.proofs.uses.Uses.add_variable.Goals as goal

pub invariant_of-self-2 : goal.invariant_of-self-2
invariant_of-self-2 c =
    let s = c.self.inside in
    subst (λ (ends : List Ends). AreLinked s.uses.items ends) (sym c.in_ok-push.ensures.items) (linked_longer s.uses.items s.ends.items c.self.invariant)
