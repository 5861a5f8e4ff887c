use Rattle.std.proofs.Common.{◌≡◌, map, take}
use Rattle.tableau_calculus.specs.Witnesses.{IsTable}
use Rattle.refute_check.specs.Numbered.{numbered_row}
use Rattle.refute_check.specs.Internal.Branches.{Grow}
use Rattle.refute_check.specs.Internal.Shared.{declared_in, shared_atoms, the_rows, IsGoodShared}
use Rattle.refute_check.proofs.check.check_rows.Given as goal

abbrev pub invariant-loop-i : goal.invariant-loop-i
invariant-loop-i l =
    let rows = take l.i (map (numbered_row l.numbering) l.text.witnesses) in
    IsGoodShared l.shared × (the_rows l.shared ≡ rows) × IsTable (declared_in l.fn.shared) rows × Grow (shared_atoms l.fn.shared) (shared_atoms l.shared) × (declared_in l.shared ≡ declared_in l.fn.shared)
