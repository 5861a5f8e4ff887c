use Rattle.std.proofs.Common.{◌≡◌, ◌<◌, List, length, get_or, Some, subst, ◌∙◌}
use Rattle.stt_core.specs.SimpleType.{base, is_declared}
use Rattle.stt_core.specs.Typing.{type_of}
use Rattle.prover_state.specs.declared.head.HoleHead.{HoleHead}
use Rattle.prover_state.specs.declared.head_types.BaseHeads.{BaseHeads}
use Rattle.prover_state.specs.Internal.Heads.{the_hole_head}
use Rattle.prover_state.proofs.HeadTypeLaws.{base-heads-here, declared-type}
use Rattle.prover_state.proofs.head_types.HeadTypes.type_of.Goals as goal

pub returns-in_ok-get-in-Eq : goal.returns-in_ok-get-in-Eq
returns-in_ok-get-in-Eq c = λ scope ctx a e.
    let n = c.in-Eq.n in
    let h = c.in_ok-get-in-Eq.field-0.now in
    let P : List BaseHeads → Type 0 = λ hs. (n < length hs) × (h ≡ get_or hs n h) in
    let there = subst P c.deref.ensures.value (c.in_ok-get-in-Eq.ensures.lookup.3.0, c.in_ok-get-in-Eq.ensures.lookup.1) in
    let T : HoleHead → Type 0 = λ x. type_of scope ctx (the_hole_head x) ≡ Some a in
    (base-heads-here c.self.inside.bases.items n h c.self.invariant.bases there.0 there.1).equality ∙ declared-type (is_declared scope.bases (base n)) _ a (subst T c.in-Eq.is e)

pub returns-in_ok-get-in-All : goal.returns-in_ok-get-in-All
returns-in_ok-get-in-All c = λ scope ctx a e.
    let n = c.in-All.n in
    let h = c.in_ok-get-in-All.field-0.now in
    let P : List BaseHeads → Type 0 = λ hs. (n < length hs) × (h ≡ get_or hs n h) in
    let there = subst P c.deref-in-All.ensures.value (c.in_ok-get-in-All.ensures.lookup.3.0, c.in_ok-get-in-All.ensures.lookup.1) in
    let T : HoleHead → Type 0 = λ x. type_of scope ctx (the_hole_head x) ≡ Some a in
    (base-heads-here c.self.inside.bases.items n h c.self.invariant.bases there.0 there.1).quantifier ∙ declared-type (is_declared scope.bases (base n)) _ a (subst T c.in-All.is e)

pub returns-in_ok-get-in-Choice : goal.returns-in_ok-get-in-Choice
returns-in_ok-get-in-Choice c = λ scope ctx a e.
    let n = c.in-Choice.n in
    let h = c.in_ok-get-in-Choice.field-0.now in
    let P : List BaseHeads → Type 0 = λ hs. (n < length hs) × (h ≡ get_or hs n h) in
    let there = subst P c.deref-in-Choice.ensures.value (c.in_ok-get-in-Choice.ensures.lookup.3.0, c.in_ok-get-in-Choice.ensures.lookup.1) in
    let T : HoleHead → Type 0 = λ x. type_of scope ctx (the_hole_head x) ≡ Some a in
    (base-heads-here c.self.inside.bases.items n h c.self.invariant.bases there.0 there.1).choice ∙ declared-type (is_declared scope.bases (base n)) _ a (subst T c.in-Choice.is e)
