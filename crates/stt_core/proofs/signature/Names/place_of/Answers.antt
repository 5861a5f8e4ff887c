use Rattle.std.specs.Str.{bytes_eq}
use Rattle.stt_core.proofs.ListLaws.{position_seen}
use Rattle.stt_core.proofs.signature.Names.place_of.Goals as goal

pub returns : goal.returns
returns c =
    position_seen (λ n. n.items) (λ base. bytes_eq base c.args.name.now) c.deref.result.now c.self.inside.items.items c.args.self.now c.place_of_name.result
    c.place_of_name.ensures c.deref.ensures.value c.self.view_is
