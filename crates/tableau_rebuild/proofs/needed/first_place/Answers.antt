use Rattle.std.proofs.Common.{sym, ◌∙◌}
use Rattle.rebuild_spec.specs.Stands.{place_in}
use Rattle.tableau_rebuild.proofs.NeededLaws.{first_in-map}
use Rattle.tableau_rebuild.proofs.needed.first_place.Goals as goal

pub returns-else-len-eq0 : goal.returns-else-len-eq0
returns-else-len-eq0 c = c.position.ensures ∙ sym (first_in-map (place_in c.args.branch.now) c.args.principals.now c.at.result c.at.ensures)
