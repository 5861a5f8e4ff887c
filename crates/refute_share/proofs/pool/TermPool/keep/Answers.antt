use Rattle.std.proofs.Common.{refl, ◌∙◌}
use Rattle.refute_share.proofs.TermPoolLaws.{kept-term}
use Rattle.refute_share.proofs.pool.TermPool.keep.Goals as goal

pub returns : goal.returns
returns c = λ terms known is.
    kept-term (λ t. t.value) terms c.self.inside.made.items c.room_for.new.made.items _ c.args.self.now c.args.id c.in_ok-shared.shared c.self.view_is c.in_ok-room_for.ensures.no_more refl (c.in_ok-shared.ensures.cases ∙ is) known
