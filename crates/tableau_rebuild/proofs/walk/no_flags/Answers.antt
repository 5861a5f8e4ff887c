use Rattle.std.proofs.Common.{false, refl}
use Rattle.stt_core.proofs.ListLaws.{map_more}
use Rattle.tableau_rebuild.proofs.DraftLaws.{there}
use Rattle.tableau_rebuild.proofs.walk.no_flags.Goals as goal

pub loop-draft-preserved : goal.loop-draft-preserved
loop-draft-preserved c =
    let d = there c.args.drafts.now c.loop-draft._draft-index c.loop-draft-test.true in
    map_more (λ _. false) c.args.drafts.now c.loop-draft._draft-index d.0 c.loop-draft.flags.items c.push.new.self.items false d.1 c.loop-draft.invariant refl c.in_ok-push.ensures.items
