use Rattle.std.proofs.Common.{◌≡◌, ◌++◌, ◌∷◌, take}
use Rattle.tableau_clauses.proofs.instances.append_lists.Given as goal

abbrev pub invariant-loop-alternative : goal.invariant-loop-alternative
invariant-loop-alternative l = l.lists ≡ l.fn.lists ++ l.instance.principals ∷ take l.alternative-index l.instance.alternatives
