use Rattle.tableau_calculus.proofs.ShareLaws.{shared-last}
use Rattle.tableau_calculus.proofs.lit.Lits.share.Goals as goal

pub returns-clause-ok : goal.returns-clause-ok
returns-clause-ok c = λ lit at.
    shared-last (λ r. r.value) c.self.inside.items.items c.other.inside.items.items c.push.new.self.items c.index.result.now c.in_ok-shared.shared c.args.i c.args.self.now c.args.other.now c.self.view_is c.other.view_is lit c.in_ok-push.ensures.items c.in_ok-shared.ensures.cases c.index.ensures c.requires at
