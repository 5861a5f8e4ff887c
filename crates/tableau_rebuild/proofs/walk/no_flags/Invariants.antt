use Rattle.std.proofs.Common.{◌≡◌, false, map, take}
use Rattle.tableau_rebuild.proofs.walk.no_flags.Given as goal

abbrev pub invariant-loop-draft : goal.invariant-loop-draft
invariant-loop-draft l = l.flags.items ≡ map (λ _. false) (take l._draft-index l.drafts)
