use Rattle.std.proofs.Common.{◌<◌, Option, length, sym, subst, arith}
use Rattle.search_spec.specs.Partial.{Hole}
use Rattle.prover_state.specs.Internal.Fitting.{variables_for}
use Rattle.prover_state.proofs.FittingLaws.{got}
use Rattle.prover_state.proofs.holes.OpenHoles.variable.Goals as goal

pub variable-requires : goal.variable-requires
variable-requires c =
    let there = got c.args.self.now c.args.p c.requires.number in
    let Within : Option Hole → Type 0 = λ o. c.args.place < length (variables_for o) in
    subst Within (sym (c.in-Some.ensures there.0 there.1)) (c.requires.within there.0 there.1)

pub unreachable-requires : goal.unreachable-requires
unreachable-requires c =
    let there = got c.args.self.now c.args.p c.requires.number in
    let Within : Option Hole → Type 0 = λ o. c.args.place < length (variables_for o) in
    let none : c.args.place < 0 = subst Within (sym (c.in-None.ensures there.0 there.1)) (c.requires.within there.0 there.1) in
    omega (arith, none)
