use Rattle.szs_report.proofs.report.bad_schedule.Goals as goal

pub returns : goal.returns
returns c = rw (← c.schedule_word.ensures) c.bad_line.ensures
