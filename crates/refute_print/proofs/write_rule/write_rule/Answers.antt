use Rattle.std.proofs.Common.{◌++◌, codes, decimal}
use Rattle.refute_print.specs.Text.{term_text, one_place_name, two_places_name, predicate_name}
use Rattle.refute_print.specs.Named.{names_of, named_term}
use Rattle.refute_print.proofs.Writes.{took_same, stopped_same}
use Rattle.refute_print.proofs.LineTexts.{behind_mark}
use Rattle.refute_print.proofs.write_rule.write_rule.Goals as goal

pub returns-in-AtOne-clause-took : goal.returns-in-AtOne-clause-took
returns-in-AtOne-clause-took g c =
    rw (c.in-AtOne.is) (took_same _ _ _ _ _ c.write_numbered.result _ _ (behind_mark c.mark.result.now (one_place_name c.in-AtOne.kind) (decimal c.in-AtOne.i ++ codes ")") c.mark.ensures) c.write_numbered.ensures.took)

pub returns-in-AtOne-clause-stopped : goal.returns-in-AtOne-clause-stopped
returns-in-AtOne-clause-stopped g c =
    rw (c.in-AtOne.is) (stopped_same _ _ _ _ _ c.write_numbered.result _ _ (behind_mark c.mark.result.now (one_place_name c.in-AtOne.kind) (decimal c.in-AtOne.i ++ codes ")") c.mark.ensures) c.write_numbered.ensures.stopped)

pub returns-in-AtTwo-clause-took : goal.returns-in-AtTwo-clause-took
returns-in-AtTwo-clause-took g c =
    rw (c.in-AtTwo.is) (took_same _ _ _ _ _ c.write_two_places.result _ _ (behind_mark c.mark-in-AtTwo.result.now (two_places_name c.in-AtTwo.kind) (decimal c.in-AtTwo.i ++ (codes "," ++ (decimal c.in-AtTwo.j ++ codes ")"))) c.mark-in-AtTwo.ensures) c.write_two_places.ensures.took)

pub returns-in-AtTwo-clause-stopped : goal.returns-in-AtTwo-clause-stopped
returns-in-AtTwo-clause-stopped g c =
    rw (c.in-AtTwo.is) (stopped_same _ _ _ _ _ c.write_two_places.result _ _ (behind_mark c.mark-in-AtTwo.result.now (two_places_name c.in-AtTwo.kind) (decimal c.in-AtTwo.i ++ (codes "," ++ (decimal c.in-AtTwo.j ++ codes ")"))) c.mark-in-AtTwo.ensures) c.write_two_places.ensures.stopped)

pub returns-in-AllPos-clause-took : goal.returns-in-AllPos-clause-took
returns-in-AllPos-clause-took g c = rw (c.in-AllPos.is) c.write_instance.ensures.took

pub returns-in-AllPos-clause-stopped : goal.returns-in-AllPos-clause-stopped
returns-in-AllPos-clause-stopped g c = rw (c.in-AllPos.is) c.write_instance.ensures.stopped

pub returns-in-WithPredicate-clause-took : goal.returns-in-WithPredicate-clause-took
returns-in-WithPredicate-clause-took g c =
    let names = names_of c.args.sig.now.bases c.args.sig.now.consts in
    rw (c.in-WithPredicate.is) (took_same _ _ _ _ _ c.write_term_between.result _ _ (behind_mark c.mark-in-WithPredicate.result.now (predicate_name c.in-WithPredicate.kind) (term_text (named_term names c.in-WithPredicate.f) ++ codes ")") c.mark-in-WithPredicate.ensures) c.write_term_between.ensures.took)

pub returns-in-WithPredicate-clause-stopped : goal.returns-in-WithPredicate-clause-stopped
returns-in-WithPredicate-clause-stopped g c =
    let names = names_of c.args.sig.now.bases c.args.sig.now.consts in
    rw (c.in-WithPredicate.is) (stopped_same _ _ _ _ _ c.write_term_between.result _ _ (behind_mark c.mark-in-WithPredicate.result.now (predicate_name c.in-WithPredicate.kind) (term_text (named_term names c.in-WithPredicate.f) ++ codes ")") c.mark-in-WithPredicate.ensures) c.write_term_between.ensures.stopped)

pub returns-in-Cut-clause-took : goal.returns-in-Cut-clause-took
returns-in-Cut-clause-took g c = rw (c.in-Cut.is) c.write_cut.ensures.took

pub returns-in-Cut-clause-stopped : goal.returns-in-Cut-clause-stopped
returns-in-Cut-clause-stopped g c = rw (c.in-Cut.is) c.write_cut.ensures.stopped
