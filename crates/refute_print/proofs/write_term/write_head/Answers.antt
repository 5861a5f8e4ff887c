use Rattle.std.proofs.Common.{◌++◌, codes, decimal, subst, append-nil, ap}
use Rattle.stt_core.specs.View.{the_head}
use Rattle.refute_print.specs.Named.{names_of, HasNames}
use Rattle.refute_print.proofs.NamesAt.{place_of_name, name_text-at}
use Rattle.refute_print.proofs.Writes.{took_same, stopped_same}
use Rattle.refute_print.proofs.write_term.write_head.Goals as goal

pub returns-in-False-clause-took : goal.returns-in-False-clause-took
returns-in-False-clause-took g c = rw (c.in-False.is) c.write.ensures.took

pub returns-in-False-clause-stopped : goal.returns-in-False-clause-stopped
returns-in-False-clause-stopped g c = rw (c.in-False.is) c.write.ensures.stopped

pub returns-in-Not-clause-took : goal.returns-in-Not-clause-took
returns-in-Not-clause-took g c = rw (c.in-Not.is) c.write-in-Not.ensures.took

pub returns-in-Not-clause-stopped : goal.returns-in-Not-clause-stopped
returns-in-Not-clause-stopped g c = rw (c.in-Not.is) c.write-in-Not.ensures.stopped

pub returns-in-Imp-clause-took : goal.returns-in-Imp-clause-took
returns-in-Imp-clause-took g c = rw (c.in-Imp.is) c.write-in-Imp.ensures.took

pub returns-in-Imp-clause-stopped : goal.returns-in-Imp-clause-stopped
returns-in-Imp-clause-stopped g c = rw (c.in-Imp.is) c.write-in-Imp.ensures.stopped

pub returns-in-All-clause-took : goal.returns-in-All-clause-took
returns-in-All-clause-took g c = rw (c.in-All.is) c.write_around_type.ensures.took

pub returns-in-All-clause-stopped : goal.returns-in-All-clause-stopped
returns-in-All-clause-stopped g c = rw (c.in-All.is) c.write_around_type.ensures.stopped

pub returns-in-Eq-clause-took : goal.returns-in-Eq-clause-took
returns-in-Eq-clause-took g c = rw (c.in-Eq.is) c.write_around_type-in-Eq.ensures.took

pub returns-in-Eq-clause-stopped : goal.returns-in-Eq-clause-stopped
returns-in-Eq-clause-stopped g c = rw (c.in-Eq.is) c.write_around_type-in-Eq.ensures.stopped

pub returns-in-Choice-clause-took : goal.returns-in-Choice-clause-took
returns-in-Choice-clause-took g c = rw (c.in-Choice.is) c.write_around_type-in-Choice.ensures.took

pub returns-in-Choice-clause-stopped : goal.returns-in-Choice-clause-stopped
returns-in-Choice-clause-stopped g c = rw (c.in-Choice.is) c.write_around_type-in-Choice.ensures.stopped

pub returns-in-Desc-clause-took : goal.returns-in-Desc-clause-took
returns-in-Desc-clause-took g c = rw (c.in-Desc.is) c.write_around_type-in-Desc.ensures.took

pub returns-in-Desc-clause-stopped : goal.returns-in-Desc-clause-stopped
returns-in-Desc-clause-stopped g c = rw (c.in-Desc.is) c.write_around_type-in-Desc.ensures.stopped

pub name_at-requires : goal.name_at-requires
name_at-requires g c =
    let names = names_of c.args.sig.now.bases c.args.sig.now.consts in
    place_of_name c.args.sig.now.bases c.args.sig.now.consts c.in-Name.k (subst (λ h. HasNames names (the_head h)) c.in-Name.is c.requires)

pub write_around_type-requires : goal.write_around_type-requires
write_around_type-requires g c = subst (λ h. HasNames (names_of c.args.sig.now.bases c.args.sig.now.consts) (the_head h)) c.in-All.is c.requires

pub write_around_type-requires-in-Eq : goal.write_around_type-requires-in-Eq
write_around_type-requires-in-Eq g c = subst (λ h. HasNames (names_of c.args.sig.now.bases c.args.sig.now.consts) (the_head h)) c.in-Eq.is c.requires

pub write_around_type-requires-in-Choice : goal.write_around_type-requires-in-Choice
write_around_type-requires-in-Choice g c = subst (λ h. HasNames (names_of c.args.sig.now.bases c.args.sig.now.consts) (the_head h)) c.in-Choice.is c.requires

pub write_around_type-requires-in-Desc : goal.write_around_type-requires-in-Desc
write_around_type-requires-in-Desc g c = subst (λ h. HasNames (names_of c.args.sig.now.bases c.args.sig.now.consts) (the_head h)) c.in-Desc.is c.requires

pub returns-in-Name-clause-took : goal.returns-in-Name-clause-took
returns-in-Name-clause-took g c =
    rw (c.in-Name.is) (took_same _ _ _ _ _ c.write_name.result _ _ (name_text-at c.args.sig.now.bases c.args.sig.now.consts c.in-Name.k c.name_at.result.now c.name_at.ensures) c.write_name.ensures.took)

pub returns-in-Name-clause-stopped : goal.returns-in-Name-clause-stopped
returns-in-Name-clause-stopped g c =
    rw (c.in-Name.is) (stopped_same _ _ _ _ _ c.write_name.result _ _ (name_text-at c.args.sig.now.bases c.args.sig.now.consts c.in-Name.k c.name_at.result.now c.name_at.ensures) c.write_name.ensures.stopped)

pub returns-in-Bound-clause-took : goal.returns-in-Bound-clause-took
returns-in-Bound-clause-took g c =
    rw (c.in-Bound.is) (took_same _ _ _ _ _ c.write_numbered.result _ _ (ap (λ x. codes "#" ++ x) (append-nil (decimal c.in-Bound.k))) c.write_numbered.ensures.took)

pub returns-in-Bound-clause-stopped : goal.returns-in-Bound-clause-stopped
returns-in-Bound-clause-stopped g c =
    rw (c.in-Bound.is) (stopped_same _ _ _ _ _ c.write_numbered.result _ _ (ap (λ x. codes "#" ++ x) (append-nil (decimal c.in-Bound.k))) c.write_numbered.ensures.stopped)

pub returns-in-Wit-clause-took : goal.returns-in-Wit-clause-took
returns-in-Wit-clause-took g c =
    rw (c.in-Wit.is) (took_same _ _ _ _ _ c.write_numbered-in-Wit.result _ _ (ap (λ x. codes "$w" ++ x) (append-nil (decimal c.in-Wit.k))) c.write_numbered-in-Wit.ensures.took)

pub returns-in-Wit-clause-stopped : goal.returns-in-Wit-clause-stopped
returns-in-Wit-clause-stopped g c =
    rw (c.in-Wit.is) (stopped_same _ _ _ _ _ c.write_numbered-in-Wit.result _ _ (ap (λ x. codes "$w" ++ x) (append-nil (decimal c.in-Wit.k))) c.write_numbered-in-Wit.ensures.stopped)
