use Rattle.std.proofs.Common.{◌≡◌, ◌≤◌, ◌+◌, ℕ, List, Option, Some, None, get_or, refl, subst, sym, length, arith}
use Rattle.std.specs.Prelude.{IfNone, IsTrue}
use Rattle.sat_base.specs.declared.literal.SatLit.{SatLit}
use Rattle.sat_base.specs.Literal.{holds}
use Rattle.sat_propagate.specs.Internal.Trail.{literals}
use Rattle.sat_propagate.proofs.ListLaws.{no_literal}
use Rattle.sat_propagate.proofs.InsertLaws.{IsBestSoFar, best_taken, best_left, best_none}
use Rattle.sat_propagate.proofs.propagator.Propagator.best.Goals.{then-is_better, else-is_better}
use Rattle.sat_propagate.proofs.propagator.Propagator.best.Goals as goal

pub loop-literal-preserved : goal.loop-literal-preserved
loop-literal-preserved c =
    let trail = literals c.args.self.now.trail.steps in
    let among = c.args.among.now in
    let here : SatLit = get_or among c.loop-literal.literal-index no_literal in
    elim c.if-is_better.branch [
      | then-is_better w ↦ subst (λ (b : Option SatLit). IsBestSoFar trail among c.args.other b (c.loop-literal.literal-index + 1)) (sym w.best-is)
          (best_taken trail among c.args.other c.loop-literal.best c.loop-literal.literal-index here c.loop-literal.invariant c.loop-literal-test.true refl
          (c.is_better.ensures.new w.if-is_better.true) (c.is_better.ensures.yes w.if-is_better.true))
      | else-is_better w ↦ subst (λ (b : Option SatLit). IsBestSoFar trail among c.args.other b (c.loop-literal.literal-index + 1)) (sym w.best-is)
          (best_left trail among c.args.other c.loop-literal.best c.loop-literal.literal-index here c.loop-literal.invariant c.loop-literal-test.true refl
          (c.is_better.ensures.no w.if-is_better.false))
    ]

pub returns-clause-none : goal.returns-clause-none
returns-clause-none c =
    let trail = literals c.args.self.now.trail.steps in
    let among = c.args.among.now in
    let past : length among ≤ c.loop-literal.literal-index = omega (arith, c.loop-literal-test.false) in
    by_case trail among c.args.other c.loop-literal.best c.loop-literal.literal-index past c.loop-literal.invariant
  where
    by_case : (trail among : List SatLit) (other best : Option SatLit) (i : ℕ) → length among ≤ i → IsBestSoFar trail among other best i → IfNone best ((l : SatLit) → IsTrue (holds among l) → other ≡ Some l)
    by_case trail among other None i past so_far = best_none trail among other i past so_far
    by_case trail among other (Some b) i past so_far = tt
