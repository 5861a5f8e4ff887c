use Rattle.std.proofs.Common.{◌≡◌, true, map, take}
use Rattle.tableau_calculus.specs.Accepted.{AreRightLines}
use Rattle.tableau_calculus.specs.CutFree.{HasNoCut}
use Rattle.refute_print.specs.TextView.{the_line}
use Rattle.refute_check.specs.Numbered.{numbered_row, numbered_line}
use Rattle.refute_check.specs.Internal.Branches.{Grow, AreBranches}
use Rattle.refute_check.specs.Internal.Shared.{declared_in, shared_atoms, the_rows, IsGoodShared}
use Rattle.refute_check.specs.Internal.Seen.{IsSeen}
use Rattle.refute_check.proofs.check.check_lines.Given as goal

abbrev pub invariant-loop-i : goal.invariant-loop-i
invariant-loop-i l =
    let rows = map (numbered_row l.numbering) l.text.witnesses in
    let lines = take l.i (map (numbered_line l.numbering) (map the_line l.text.lines)) in
    IsGoodShared l.shared × (the_rows l.shared ≡ rows) × (declared_in l.shared ≡ declared_in l.fn.shared) × Grow (shared_atoms l.fn.shared) (shared_atoms l.shared)
    × AreBranches (shared_atoms l.shared) lines l.lines.branches.items
    × AreRightLines (declared_in l.fn.shared) rows lines
    × IsSeen l.numbering l.shared l.seen
    × (l.strict ≡ true → HasNoCut lines)
