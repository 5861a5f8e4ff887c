use Rattle.std.proofs.Common.{Vec, Global, ℕ, List, map, length, ap, ◌∙◌, arith}
use Rattle.prover_state.specs.Internal.ByBase.{listings}
use Rattle.prover_state.proofs.ByBaseLaws.{listings-more}
use Rattle.prover_state.proofs.by_base.reach.Goals as goal

pub loop-preserved : goal.loop-preserved
loop-preserved c = record {
  same =
      ap (λ (vs : List (Vec ℕ Global)). listings 0 (map (λ (v : Vec ℕ Global). v.items) vs)) c.in_ok-push.ensures.items
      ∙ listings-more (λ (v : Vec ℕ Global). v.items) 0 c.loop.lists.items c.new.result c.new.ensures.items
      ∙ c.loop.invariant.same;
  reached = grind (arith, ap (λ (vs : List (Vec ℕ Global)). length vs) c.in_ok-push.ensures.items, c.loop.invariant.reached);
  number = c.loop.invariant.number;
  end = c.loop.invariant.end;
}
