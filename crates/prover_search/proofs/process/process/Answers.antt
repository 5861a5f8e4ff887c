use Rattle.std.proofs.Common.{ap, ◌∙◌}
use Rattle.command_queue.specs.Queue.{Queue}
use Rattle.prover_state.specs.declared.command.Planned.{Planned}
use Rattle.prover_state.specs.declared.command.Delays.{Delays}
use Rattle.prover_state.specs.declared.tables.Tables.{Tables}
use Rattle.prover_search.proofs.AdvanceLaws.{advances-still, advances-then}
use Rattle.prover_search.proofs.MadeStays.{number-wider}
use Rattle.prover_search.proofs.WorkLaws.{processed-is, number-same}
use Rattle.prover_search.proofs.process.process.Goals as goal

pub note_literal-requires-clause-number : goal.note_literal-requires-clause-number
note_literal-requires-clause-number g c =
    let t = c.args.core.now.tables in
    let u = c.work.new.core.tables in
    number-wider t.basis u.basis c.requires.ready.right.basis c.in_ok-work.ensures.advances.develops.basis c.args.lit c.requires.number

pub select-requires-clause-number : goal.select-requires-clause-number
select-requires-clause-number g c =
    let t = c.args.core.now.tables in
    let u = c.work.new.core.tables in
    let v = c.note_literal.new.self.tables in
    number-same u.basis v.basis c.args.lit (ap (λ (x : Tables). x.basis) c.in_ok-note_literal.ensures.tables)
    (number-wider t.basis u.basis c.requires.ready.right.basis c.in_ok-work.ensures.advances.develops.basis c.args.lit c.requires.number)

pub returns-clause-state : goal.returns-clause-state
returns-clause-state g c =
    let core = c.args.core.now in
    let one = c.work.new.core in
    let two = c.note_literal.new.self in
    let three = c.select.new.self in
    processed-is core.tables one.tables two.tables three.tables core.plan one.plan two.plan three.plan c.args.lit c.requires.ready.right.basis c.requires.number
    c.in_ok-work.ensures.advances.develops c.in_ok-work.ensures.advances.rule (ap (λ (x : Tables). x.basis) c.in_ok-note_literal.ensures.tables) c.note_literal.ensures.plan
    c.in_ok-work.ensures.state c.in_ok-note_literal.ensures.state c.in_ok-select.ensures.state

pub returns-clause-advances : goal.returns-clause-advances
returns-clause-advances g c =
    let core = c.args.core.now in
    let one = c.work.new.core in
    let two = c.note_literal.new.self in
    let three = c.select.new.self in
    let noted = c.in_ok-note_literal.ensures.tables in
    let taken = c.in_ok-select.ensures.tables in
    let last = c.in_ok-select.ensures.stays in
    advances-then core one three c.in_ok-work.ensures.advances
    (advances-still one three (record { right = last.right; rule = last.rule ∙ ap (λ (p : Queue Planned Delays). p.rule) c.note_literal.ensures.plan })
    (ap (λ (x : Tables). x.basis) taken ∙ ap (λ (x : Tables). x.basis) noted) (ap (λ (x : Tables). x.steps) taken ∙ ap (λ (x : Tables). x.steps) noted) (ap (λ (x : Tables). x.done) taken ∙ ap (λ (x : Tables). x.done) noted))
