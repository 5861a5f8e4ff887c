use Rattle.std.proofs.Common.{◌≡◌, ◌+◌, List, [], ◌∷◌, ◌++◌, ap, ◌∙◌, arith}
use Rattle.sat_base.specs.declared.literal.SatLit.{SatLit}
use Rattle.sat_log.specs.Resolution.{without_literal}
use Rattle.sat_log.proofs.ResolverLaws.{pushed_to_back}
use Rattle.sat_log.proofs.resolver.Resolver.move_to_back.Goals as goal

pub invariant_of-self-2 : goal.invariant_of-self-2
invariant_of-self-2 c =
    let inside = c.self.inside in
    let stamp = c.len.result + c.len-2.result in
    let pushed : c.push_reserved.new.self.items ≡ inside.back.items ++ record { literal = c.args.literal; stamp = stamp } ∷ [] = cc in
    (pushed_to_back inside.front.items inside.back.items _ inside.table _ _ stamp pushed (omega arith) c.self.invariant c.in_ok-set.ensures.ok).0

pub returns-clause-ok : goal.returns-clause-ok
returns-clause-ok c =
    let inside = c.self.inside in
    let stamp = c.len.result + c.len-2.result in
    let pushed : c.push_reserved.new.self.items ≡ inside.back.items ++ record { literal = c.args.literal; stamp = stamp } ∷ [] = cc in
    (pushed_to_back inside.front.items inside.back.items _ inside.table _ _ stamp pushed (omega arith) c.self.invariant c.in_ok-set.ensures.ok).1
    ∙ ap (λ (r : List SatLit). without_literal c.args.literal r ++ c.args.literal ∷ []) c.self.view_is
