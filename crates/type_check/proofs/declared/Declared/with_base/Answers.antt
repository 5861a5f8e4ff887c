use Rattle.std.proofs.Common.{◌≡◌, ◌+◌, ◌∙◌, length, ap, sym}
use Rattle.stt_core.specs.Signature.{symbol_named}
use Rattle.stt_core.specs.declared.signature.Symbol.TheVariants.{Base}
use Rattle.stt_core.proofs.Maps.{same_change}
use Rattle.type_check.proofs.Maps.{at_bytes, at_bytes-inserted}
use Rattle.type_check.proofs.Symbols.{symbol_named-base}
use Rattle.type_check.proofs.declared.Declared.with_base.Goals as goal

pub invariant_of-result : goal.invariant_of-result
invariant_of-result c =
    let s = c.self.inside in
    let key = c.in_ok-from_slice.field-0 in
    let name = c.as_slice-name.result.now in
    let consts = s.signature.consts in
    let named : key ≡ name = c.in_ok-from_slice.ensures in
    let new = ap (symbol_named s.signature.bases consts) c.as_slice-name.ensures ∙ ap (λ d. symbol_named d.bases d.consts c.args.name.now) c.self.view_is ∙ c.requires.new in (
      λ q.
          at_bytes-inserted s.symbols c.insert.new.self key _ c.in_ok-insert.ensures.updates q
          ∙ same_change key name q (Base (c.len.result + 2)) (Base (length s.signature.bases + 2)) (at_bytes s.symbols q) (symbol_named s.signature.bases consts q) named (ap (λ n. Base (n + 2)) c.len.ensures) (c.self.invariant.0 q)
          ∙ sym (symbol_named-base s.signature.bases consts name new q)
          ∙ ap (λ bases. symbol_named bases consts q) (sym c.in_ok-push.ensures.ok),
      c.self.invariant.1,
    )
