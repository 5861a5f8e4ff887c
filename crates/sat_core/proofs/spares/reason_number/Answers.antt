use Rattle.std.proofs.Common.{◌≡◌, sym, ap, ◌∙◌, arith}
use Rattle.std.proofs.lemmas.Option.{same_Some, slice_get_within}
use Rattle.sat_propagate.specs.declared.trail.Step.{Step}
use Rattle.sat_core.proofs.KeeperLaws.{if_none}
use Rattle.sat_core.proofs.ReasonLaws.{no_reason, one_reason}
use Rattle.sat_core.proofs.spares.reason_number.Goals as goal

pub returns-in_err-place-clause-none : goal.returns-in_err-place-clause-none
returns-in_err-place-clause-none c = if_none c.from_residual.result _ (λ n is. absurd (no_reason c.args.propagator.now.trail c.args.var n c.in_err-place.ensures.none is))

pub returns-then-place-len-clause-none : goal.returns-then-place-len-clause-none
returns-then-place-len-clause-none c =
    let found = c.in_ok-place.ensures.some in
    let inside = slice_get_within c.args.propagator.now.trail.steps c.in_ok-place.place found.0 found.1 in
    absurd (omega (arith, inside, c.len.ensures.number, c.if-place-len.true))

pub returns-in_err-reason-clause-none : goal.returns-in_err-reason-clause-none
returns-in_err-reason-clause-none c =
    let trail = c.args.propagator.now.trail in
    let found = c.in_ok-place.ensures.some in
    let same : found.0 ≡ c.step.result = same_Some found.0 c.step.result (sym found.1 ∙ c.step.ensures) in
    if_none c.from_residual-in_err-reason.result _ (λ n is.
    let e = sym c.in_err-reason.was ∙ ap (λ (s : Step). s.reason) (sym same) ∙ one_reason trail c.in_ok-place.place found.0 c.args.var n c.len.ensures.right.once found.1 found.2 is in
    absurd (cc))

pub returns-then-reason-len-clause-none : goal.returns-then-reason-len-clause-none
returns-then-reason-len-clause-none c =
    let trail = c.args.propagator.now.trail in
    let found = c.in_ok-place.ensures.some in
    let same : found.0 ≡ c.step.result = same_Some found.0 c.step.result (sym found.1 ∙ c.step.ensures) in
    λ n is.
    let e : c.in_ok-reason.reason ≡ n = same_Some c.in_ok-reason.reason n
    (sym c.in_ok-reason.was ∙ ap (λ (s : Step). s.reason) (sym same) ∙ one_reason trail c.in_ok-place.place found.0 c.args.var n c.len.ensures.right.once found.1 found.2 is) in
    omega (arith, e, c.len-2.ensures, c.if-reason-len.true)

pub returns-clause-only : goal.returns-clause-only
returns-clause-only c =
    let trail = c.args.propagator.now.trail in
    let found = c.in_ok-place.ensures.some in
    let same : found.0 ≡ c.step.result = same_Some found.0 c.step.result (sym found.1 ∙ c.step.ensures) in
    λ n is. sym (same_Some c.in_ok-reason.reason n
    (sym c.in_ok-reason.was ∙ ap (λ (s : Step). s.reason) (sym same) ∙ one_reason trail c.in_ok-place.place found.0 c.args.var n c.len.ensures.right.once found.1 found.2 is))
