use Rattle.std.proofs.Common.{◌≡◌, true, false, Option, sym, subst}
use Rattle.std.specs.Prelude.{IsSome, option_and_then}
use Rattle.stt_core.specs.Lambda.{Lambda}
use Rattle.stt_core.specs.Typing.{type_of}
use Rattle.term_bank.specs.Content.{content_scope}
use Rattle.search_spec.specs.Partial.{Hole}
use Rattle.prover_state.specs.Internal.Heads.{the_hole_head}
use Rattle.prover_state.proofs.FittingLaws.{got}
use Rattle.prover_state.proofs.holes.OpenHoles.head_type.Goals as goal

pub head_type-requires : goal.head_type-requires
head_type-requires c =
    let there = got c.args.self.now c.args.p c.requires.number in
    let scope = content_scope c.args.bank.now in
    let Typed : Option Hole → Type 0 = λ o. IsSome (option_and_then (λ (h : Hole). type_of scope h.context (the_hole_head c.args.head)) o) in
    let At : Lambda → Type 0 = λ u. IsSome (type_of scope c.in-Some-first.hole.now.0.context u) in
    subst At (sym c.head_of.ensures) (subst Typed (sym (c.in-Some-first.ensures there.0 there.1)) (c.requires.typed there.0 there.1))

pub unreachable-requires : goal.unreachable-requires
unreachable-requires c =
    let there = got c.args.self.now c.args.p c.requires.number in
    let scope = content_scope c.args.bank.now in
    let Typed : Option Hole → Type 0 = λ o. IsSome (option_and_then (λ (h : Hole). type_of scope h.context (the_hole_head c.args.head)) o) in
    let none : false ≡ true = subst Typed (sym (c.in-None.ensures there.0 there.1)) (c.requires.typed there.0 there.1) in
    cc
