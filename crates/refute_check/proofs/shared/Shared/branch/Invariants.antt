use Rattle.std.proofs.Common.{map, take}
use Rattle.tableau_calculus.specs.Literals.{IsBranch}
use Rattle.refute_check.specs.Numbered.{numbered_literal}
use Rattle.refute_check.specs.Internal.Seen.{IsSeen}
use Rattle.refute_check.specs.Internal.Shared.{shared_scope, IsGoodShared, ExtendsShared, AreNumbersOf}
use Rattle.refute_check.proofs.shared.Shared.branch.Given as goal

abbrev pub invariant-loop-i : goal.invariant-loop-i
invariant-loop-i l =
    let ls = map (numbered_literal l.numbering) (take l.i l.lits) in
    IsGoodShared l.self × ExtendsShared l.fn.self l.self × IsBranch (shared_scope l.self) ls × AreNumbersOf l.self ls l.list × IsSeen l.numbering l.self l.seen
