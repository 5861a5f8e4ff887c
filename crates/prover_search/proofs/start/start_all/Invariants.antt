use Rattle.std.proofs.Common.{◌≡◌, map, take}
use Rattle.tableau_calculus.specs.Start.{without_repeats}
use Rattle.literal_map.specs.Atoms.{bank_literal}
use Rattle.prover_search.specs.Internal.Starting.{IsStarting}
use Rattle.prover_search.proofs.start.start_all.Given as goal

-- the first literals are there, and the terms and atoms are what they were
abbrev pub invariant-loop-i : goal.invariant-loop-i
invariant-loop-i g l =
    IsStarting l.fn.core.tables l.fn.core.plan l.core.tables l.core.plan (without_repeats (map (bank_literal l.fn.core.tables.basis.bank.terms l.fn.core.tables.basis.lits) (take l.i l.start)))
    × (l.core.tables.basis ≡ l.fn.core.tables.basis)
