use Rattle.std.proofs.Common.{inl, inr, subst}
use Rattle.sat_base.specs.declared.literal.SatLit.{SatLit}
use Rattle.sat_propagate.specs.Internal.Propagator.{IsPair, Watches, Enlists}
use Rattle.sat_propagate.proofs.propagator.Propagator.watch_other.Goals as goal

pub returns-clause-moved : goal.returns-clause-moved
returns-clause-moved c =
    let found = c.requires.found in
    let other : SatLit = c.other_than-blocker.result in
    let watches : Watches found.watched c.args.from = elim found.paired [ inl p ↦ inl p.0 | inr p ↦ inr p.0 ] in
    let pair : IsPair found.watched c.args.from other = c.other_than-blocker.ensures found.watched found.there watches in
    record {
      other = other;
      changed = c.replace.ensures found.watched other found.there pair;
      enlists = subst (λ (l : SatLit). Enlists c.args.self.now.lists c.push.new.self l (record { clause = c.args.n; blocker = other })) c.literal.ensures c.in_ok-push.ensures.ok;
      made = c.push.ensures.made;
    }
