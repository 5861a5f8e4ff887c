use Rattle.std.proofs.Common.{◌≡◌, ◌<◌, ◌++◌, List, [], drop, length}
use Rattle.std.specs.Prelude.{All}
use Rattle.term_bank.specs.Content.{Grows}
use Rattle.delta_defs.specs.Definitions.{Definition}
use Rattle.delta_defs.specs.Unfolding.{taken_after, left_after}
use Rattle.bank_normal.specs.Right.{IsRightNormaliser}
use Rattle.problem_start.specs.Unfolds.{IsUnfolding, formulas_at}
use Rattle.problem_start.proofs.unfolding.taken_unfolding.Given as goal

abbrev pub invariant-loop-i : goal.invariant-loop-i
invariant-loop-i l =
    let ts = l.problem-inside.assumed in
    let marks = l.problem-inside.marked in
    record {
      grows : Grows l.fn.bank l.bank;
      right : IsRightNormaliser l.normal l.bank;
      ds : List Definition;
      definitions : IsUnfolding l.bank l.walk ds;
      taken : taken_after [] marks ts ≡ taken_after ds (drop l.i marks) (drop l.i ts);
      left : left_after [] marks ts ≡ formulas_at ts l.walk.left.items ++ left_after ds (drop l.i marks) (drop l.i ts);
      within : All (λ i. i < length ts) l.walk.left.items;
    }
