use Rattle.std.proofs.Common.{sym, ◌∙◌}
use Rattle.sat_log.proofs.ResolutionLaws.{add_held, add_new}
use Rattle.sat_log.proofs.resolver.Resolver.add.Goals as goal

pub returns-in_ok-move_to_back-clause-ok : goal.returns-in_ok-move_to_back-clause-ok
returns-in_ok-move_to_back-clause-ok c =
    c.in_ok-move_to_back.ensures.ok ∙ add_new c.args.self.now c.args.literal c.requires (sym c.contains.ensures ∙ c.if-not-contains.true)

pub returns-else-not-contains-clause-ok : goal.returns-else-not-contains-clause-ok
returns-else-not-contains-clause-ok c =
    add_held c.args.self.now c.args.literal c.requires (sym c.contains.ensures ∙ c.if-not-contains.false)
