use Rattle.std.proofs.Common.{refl, subst}
use Rattle.tableau_rebuild.specs.Tables.{no_literal}
use Rattle.plain_tableau.specs.Internal.Due.{IsPath}
use Rattle.plain_tableau.proofs.ExpandLaws.{added_more}
use Rattle.plain_tableau.proofs.walk.Walk.enter.Goals as goal

pub loop-i-preserved : goal.loop-i-preserved
loop-i-preserved c = record {
  path = subst (λ n. IsPath n c.args.steps.now c.args.used.now c.push.new.self) c.len.ensures c.in_ok-push.ensures.path;
  keys = added_more c.args.self.now.path.literals.keys c.args.lits.now c.loop-i.i _ no_literal c.loop-i.self.path.literals.keys c.push.new.self.literals.keys c.loop-i-test.true refl c.loop-i.invariant.keys c.in_ok-push.ensures.keys;
  frames = c.loop-i.invariant.frames;
  writing = c.loop-i.invariant.writing;
}
