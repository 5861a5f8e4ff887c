use Rattle.sat_log.proofs.ResolverLaws.{IsMarked-forgotten}
use Rattle.sat_log.proofs.resolver.Resolver.clear.Goals as goal

pub invariant_of-self : goal.invariant_of-self
invariant_of-self c =
    let inside = c.self.inside in
    rw (c.clear.ensures.items, c.clear-2.ensures.items)
    (IsMarked-forgotten inside.front.items inside.back.items inside.table c.forget_all.new.table c.forget_all-2.new.table c.self.invariant
    (rw c.deref.ensures.value at c.forget_all.ensures) (rw c.deref-2.ensures.value at c.forget_all-2.ensures))
