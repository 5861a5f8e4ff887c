use Rattle.std.proofs.Common.{◌≡◌, ◌+◌, ◌∷◌, [], ◌++◌, false, Bool, List, length, length-append, sym, ap, subst, arith, ◌∙◌}
use Rattle.sat_core.specs.Internal.Keeper.{IsKeeper}
use Rattle.sat_core.specs.Internal.Uses.{UseTable}
use Rattle.sat_core.proofs.KeeperLaws.{keeper_ahead, keeper_longer, over_longer}
use Rattle.sat_core.proofs.solver.Solver.new_var.Goals as goal

pub invariant_of-self-in_err-push : goal.invariant_of-self-in_err-push
invariant_of-self-in_err-push c =
    let s = c.self.inside in
    let kept = c.self.invariant in
    let same : length c.push.new.self.items ≡ length s.keeper.values.items = ap (λ (list : List Bool). length list) c.in_err-push.ensures.items in
    record {
      learns = kept.learns;
      keeps = keeper_ahead s.keeper.values.items c.push.new.self.items s.keeper.uses c.add_variable.new.self s.keeper.listed s.keeper.kept s.learner.clauses
          c.in_err-push.ensures.items c.in_ok-add_variable.ensures.ok kept.keeps;
      made = omega (arith, kept.made, same);
      over = over_longer (length s.keeper.values.items) (length c.push.new.self.items) s.learner.clauses (omega (arith, same)) kept.over;
    }

pub invariant_of-self-2 : goal.invariant_of-self-2
invariant_of-self-2 c =
    let s = c.self.inside in
    let kept = c.self.invariant in
    let longer : length c.push.new.self.items ≡ length s.keeper.values.items + 1 = ap (λ (list : List Bool). length list) c.in_ok-push.ensures.items ∙ length-append s.keeper.values.items (false ∷ []) in
    record {
      learns = kept.learns;
      keeps = subst (λ (values : List Bool). IsKeeper values c.add_variable.new.self s.keeper.listed s.keeper.kept s.learner.clauses) (sym c.in_ok-push.ensures.items)
          (subst (λ (uses : UseTable). IsKeeper (s.keeper.values.items ++ false ∷ []) uses s.keeper.listed s.keeper.kept s.learner.clauses) (sym c.in_ok-add_variable.ensures.ok)
          (keeper_longer s.keeper.values.items s.keeper.uses s.keeper.listed s.keeper.kept s.learner.clauses kept.keeps));
      made = omega (arith, kept.made, longer);
      over = over_longer (length s.keeper.values.items) (length c.push.new.self.items) s.learner.clauses (omega (arith, longer)) kept.over;
    }
