use Rattle.std.proofs.Common.{◌≡◌, ◌≢◌, ◌<◌, ℕ, IsTrue, List, Some}
use Rattle.std.specs.Prelude.{slice_set}
use Rattle.std.specs.List.{slice_get}
use Rattle.sat_base.specs.declared.literal.SatLit.{SatLit}
use Rattle.sat_base.specs.Truth.{clause_value, assigned}
use Rattle.sat_core.specs.Internal.Uses.{IsUse}
use Rattle.sat_core.specs.Internal.Keeper.{AreTrueBut}
use Rattle.sat_core.proofs.KeeperLaws.{if_none, if_both, set_back, turned_true}
use Rattle.sat_core.proofs.keeper.turn.Goals as goal

pub returns-then-is_none-clause-none : goal.returns-then-is_none-clause-none
returns-then-is_none-clause-none c = if_none c.only_false-next.result _ (set_back c.args.values.now c.args.literal.var.0 c.args.literal.positive)

pub returns-else-is_none-clause-some : goal.returns-else-is_none-clause-some
returns-else-is_none-clause-some c =
    let after = slice_set c.args.values.now c.args.literal.var.0 c.args.literal.positive in
    let clauses = c.args.clauses.now in
    if_both c.only_false-next.result (λ next. next < c.args.bound)
    (λ next. (k : ℕ) (clause : List SatLit) → IsUse c.args.uses.now c.args.literal.var k → k < c.args.bound → k ≢ next → k ≢ c.args.n → slice_get clauses k ≡ Some clause → IsTrue (clause_value (assigned after) clause))
    (λ next. (next < c.args.bound) × AreTrueBut after next c.args.bound clauses)
    (λ next inside others. (
      inside,
      turned_true c.args.values.now c.args.uses.now clauses c.args.literal c.args.n c.args.bound next c.requires.valued c.requires.used c.requires.member c.requires.but others,
    ))
    c.only_false-next.ensures.inside c.only_false-next.ensures.others
