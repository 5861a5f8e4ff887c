use Rattle.refute_share.proofs.write_term.write_head.Goals as goal

pub returns-in-False-clause-took : goal.returns-in-False-clause-took
returns-in-False-clause-took g c = rw (c.in-False.is) c.write.ensures.took

pub returns-in-False-clause-stopped : goal.returns-in-False-clause-stopped
returns-in-False-clause-stopped g c = rw (c.in-False.is) c.write.ensures.stopped

pub returns-in-Not-clause-took : goal.returns-in-Not-clause-took
returns-in-Not-clause-took g c = rw (c.in-Not.is) c.write-in-Not.ensures.took

pub returns-in-Not-clause-stopped : goal.returns-in-Not-clause-stopped
returns-in-Not-clause-stopped g c = rw (c.in-Not.is) c.write-in-Not.ensures.stopped

pub returns-in-Imp-clause-took : goal.returns-in-Imp-clause-took
returns-in-Imp-clause-took g c = rw (c.in-Imp.is) c.write-in-Imp.ensures.took

pub returns-in-Imp-clause-stopped : goal.returns-in-Imp-clause-stopped
returns-in-Imp-clause-stopped g c = rw (c.in-Imp.is) c.write-in-Imp.ensures.stopped

pub returns-in-All-clause-took : goal.returns-in-All-clause-took
returns-in-All-clause-took g c = rw (c.in-All.is) c.write_around_type.ensures.took

pub returns-in-All-clause-stopped : goal.returns-in-All-clause-stopped
returns-in-All-clause-stopped g c = rw (c.in-All.is) c.write_around_type.ensures.stopped

pub returns-in-Eq-clause-took : goal.returns-in-Eq-clause-took
returns-in-Eq-clause-took g c = rw (c.in-Eq.is) c.write_around_type-in-Eq.ensures.took

pub returns-in-Eq-clause-stopped : goal.returns-in-Eq-clause-stopped
returns-in-Eq-clause-stopped g c = rw (c.in-Eq.is) c.write_around_type-in-Eq.ensures.stopped

pub returns-in-Choice-clause-took : goal.returns-in-Choice-clause-took
returns-in-Choice-clause-took g c = rw (c.in-Choice.is) c.write_around_type-in-Choice.ensures.took

pub returns-in-Choice-clause-stopped : goal.returns-in-Choice-clause-stopped
returns-in-Choice-clause-stopped g c = rw (c.in-Choice.is) c.write_around_type-in-Choice.ensures.stopped

pub returns-in-Desc-clause-took : goal.returns-in-Desc-clause-took
returns-in-Desc-clause-took g c = rw (c.in-Desc.is) c.write_around_type-in-Desc.ensures.took

pub returns-in-Desc-clause-stopped : goal.returns-in-Desc-clause-stopped
returns-in-Desc-clause-stopped g c = rw (c.in-Desc.is) c.write_around_type-in-Desc.ensures.stopped
