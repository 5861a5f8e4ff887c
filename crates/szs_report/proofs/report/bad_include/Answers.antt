use Rattle.szs_report.proofs.report.bad_include.Goals as goal

pub returns : goal.returns
returns c = rw (← c.include_word.ensures) c.bad_place.ensures
