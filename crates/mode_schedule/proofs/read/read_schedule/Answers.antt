use Rattle.std.proofs.Common.{◌+◌, List, sym, ap₂, subst, ◌∙◌, arith}
use Rattle.outside.specs.Lines.{lines_of}
use Rattle.mode_schedule.specs.declared.Block.{Block}
use Rattle.mode_schedule.specs.declared.refused.ScheduleRefused.{ScheduleRefused}
use Rattle.mode_schedule.specs.Refusals.{RefusesBlocks}
use Rattle.mode_schedule.specs.Internal.Refused.{bad_line_of, schedule_refused_at}
use Rattle.mode_schedule.proofs.BlockLaws.{IsReadTo, block_read, body_refused, all_read, all_slices, all_modes}
use Rattle.mode_schedule.proofs.RefusalLaws.{refuses_body}
use Rattle.mode_schedule.proofs.read.read_schedule.Goals as goal

pub returns-in-Err-read_mode-clause-refused : goal.returns-in-Err-read_mode-clause-refused
returns-in-Err-read_mode-clause-refused c =
    let bytes = c.args.bytes.now in
    let was = c.loop-split.invariant in
    let split = c.in-Some-next_line.split in
    let body = c.split_body-body in
    let r = c.in-Err-read_mode.refused in
    let L : ScheduleRefused → Type 0 = λ s. RefusesBlocks (lines_of bytes) s in
    let at = c.at-in-Err-read_mode.ensures ∙ ap₂ (λ n k. schedule_refused_at (c.loop-split.line + 1 + n) k) c.bad_line-bad.ensures.line c.bad_line-bad.ensures.cause in
    subst L (sym at)
    (
    refuses_body (lines_of bytes) (c.loop-split.line + 1 + bad_line_of r) r
    (
    body_refused bytes c.loop-split.rest.now split.front.now split.rest.now c.loop-split.found.items c.loop-split.line was c.in-Some-next_line.ensures.line
    body.result.bytes.now body.result.rest.now body.ensures.lines body.ensures.body body.ensures.behind
    c.in-Ok.slice (let h = c.in-Ok.ensures in omega (arith, h.1, c.len.ensures)) (c.in-Ok.ensures.0) r c.in-Err-read_mode.ensures.refused
    )
    )

pub loop-split-preserved : goal.loop-split-preserved
loop-split-preserved c =
    let bytes = c.args.bytes.now in
    let was = c.loop-split.invariant in
    let split = c.in-Some-next_line.split in
    let body = c.split_body-body in
    let P : List Block → Type 0 = λ bs. IsReadTo bytes body.result.rest.now bs (c.loop-split.line + 1 + body.result.count) in
    subst P (sym c.in_ok-push.ensures.items)
    (
    block_read bytes c.loop-split.rest.now split.front.now split.rest.now c.loop-split.found.items c.loop-split.line was c.in-Some-next_line.ensures.line
    body.result.bytes.now body.result.rest.now body.ensures.lines body.ensures.body body.ensures.behind
    c.in-Ok.slice c.in-Ok-read_mode.mode body.result.count (let h = c.in-Ok.ensures in omega (arith, h.1, c.len.ensures)) (c.in-Ok.ensures.0) c.in-Ok-read_mode.ensures.mode
    body.ensures.count c.in-Some-next_line.ensures.shorter body.ensures.room
    )

pub returns-clause-slices : goal.returns-clause-slices
returns-clause-slices c = all_slices _ _ (all_read c.args.bytes.now _ _ _ c.loop-split.invariant c.in_default-next_line.ensures.none)

pub returns-clause-in_range : goal.returns-clause-in_range
returns-clause-in_range c = all_modes _ _ (all_read c.args.bytes.now _ _ _ c.loop-split.invariant c.in_default-next_line.ensures.none)
