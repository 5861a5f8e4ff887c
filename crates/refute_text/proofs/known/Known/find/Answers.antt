use Rattle.std.proofs.Common.{subst}
use Rattle.refute_text.proofs.KnownLaws.{IsFoundAt, found_place}
use Rattle.refute_text.proofs.known.Known.find.Goals as goal

pub returns : goal.returns
returns c =
    subst (λ ls. IsFoundAt ls c.args.text.now c.get_index_of.result) c.self.view_is
    (found_place c.self.inside.literals c.self.inside.texts.keys c.args.text c.get_index_of.result c.self.invariant c.get_index_of.ensures.index)
