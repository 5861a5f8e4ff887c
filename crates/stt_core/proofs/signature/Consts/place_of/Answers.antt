use Rattle.std.specs.Str.{bytes_eq}
use Rattle.stt_core.specs.ConstView.{typed_name}
use Rattle.stt_core.proofs.ListLaws.{position_seen}
use Rattle.stt_core.proofs.signature.Consts.place_of.Goals as goal

pub returns : goal.returns
returns c =
    position_seen typed_name (λ k. bytes_eq k.name c.args.name.now) c.deref.result.now c.self.inside.items.items c.args.self.now c.place_of_const.result
    c.place_of_const.ensures c.deref.ensures.value c.self.view_is
