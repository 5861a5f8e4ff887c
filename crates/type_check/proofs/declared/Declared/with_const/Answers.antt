use Rattle.std.proofs.Common.{◌≡◌, ◌∙◌, ◌++◌, [], ◌∷◌, length, map, ap, ap₂, sym}
use Rattle.stt_core.specs.Signature.{symbol_named}
use Rattle.stt_core.specs.TypedName.{TypedName}
use Rattle.stt_core.specs.View.{the_type}
use Rattle.stt_core.specs.declared.signature.Symbol.TheVariants.{Const}
use Rattle.stt_core.proofs.ListLaws.{map-append}
use Rattle.stt_core.proofs.Maps.{same_change}
use Rattle.type_check.proofs.Maps.{at_bytes, at_bytes-inserted}
use Rattle.type_check.proofs.Symbols.{symbol_named-const}
use Rattle.type_check.proofs.declared.Declared.with_const.Goals as goal

pub invariant_of-result : goal.invariant_of-result
invariant_of-result c =
    let s = c.self.inside in
    let key = c.in_ok-from_slice.field-0 in
    let name = c.as_slice-name.result.now in
    let consts = s.signature.consts in
    let const : TypedName = record { name = name; type = the_type c.in_ok-ty.ty } in
    let named : key ≡ name = c.in_ok-from_slice.ensures in
    let new = ap (symbol_named s.signature.bases consts) c.as_slice-name.ensures ∙ ap (λ d. symbol_named d.bases d.consts c.args.name.now) c.self.view_is ∙ c.requires.new in
    let more = sym c.in_ok-push.ensures.ok in (
      λ q.
          at_bytes-inserted s.symbols c.insert.new.self key _ c.in_ok-insert.ensures.updates q
          ∙ same_change key name q (Const c.len.result) (Const (length consts)) (at_bytes s.symbols q) (symbol_named s.signature.bases consts q) named (ap Const c.len.ensures) (c.self.invariant.0 q)
          ∙ sym (symbol_named-const s.signature.bases consts const new q)
          ∙ ap (λ l. symbol_named s.signature.bases l q) more,
      c.in_ok-ty.ensures.added
          ∙ ap₂ (λ l a. l ++ a ∷ []) c.self.invariant.1 (sym c.in_ok-ty.ensures.copy)
          ∙ sym (map-append (λ d. d.type) consts (const ∷ []))
          ∙ ap (map (λ d. d.type)) more,
    )
