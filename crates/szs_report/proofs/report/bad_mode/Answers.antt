use Rattle.szs_report.proofs.report.bad_mode.Goals as goal

pub returns : goal.returns
returns c = rw (← c.mode_word.ensures) c.bad_line.ensures
