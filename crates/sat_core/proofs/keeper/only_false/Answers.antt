use Rattle.std.proofs.Common.{inl, inr}
use Rattle.sat_core.proofs.keeper.only_false.Goals as goal

pub returns-clause-others : goal.returns-clause-others
returns-clause-others c = λ k clause used below apart apart_n at.
    elim (c.loop-entry.invariant.others k clause used below apart apart_n at) [
      | inl listed ↦ absurd (c.in_default.ensures.none k listed)
      | inr true_now ↦ true_now
    ]
