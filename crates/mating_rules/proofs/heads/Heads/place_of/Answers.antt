use Rattle.mating_rules.proofs.HeadLaws.{place_told, none_told}
use Rattle.mating_rules.proofs.heads.Heads.place_of.Goals as goal

pub returns-clause-place : goal.returns-clause-place
returns-clause-place c = place_told c.args.key.now c.self.inside.lits.entries c.args.self.now c.get_index_of.result c.self.view_is c.get_index_of.ensures.index

pub returns-clause-none : goal.returns-clause-none
returns-clause-none c = none_told c.args.key.now c.self.inside.lits.entries c.args.self.now c.get_index_of.result c.self.view_is c.get_index_of.ensures.index
