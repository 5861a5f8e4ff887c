use Rattle.std.proofs.Common.{[], refl}
use Rattle.stt_core.specs.SimpleType.{predicate}
use Rattle.tableau_calculus.proofs.ListLaws.{untrue}
use Rattle.refute_check.proofs.SharedLaws.{imported_good, has_place}
use Rattle.refute_check.proofs.shared.Shared.predicate_place.Goals as goal

pub returns-then-not-is_predicate-clause-place : goal.returns-then-not-is_predicate-clause-place
returns-then-not-is_predicate-clause-place c = λ a h.
    untrue (c.is_predicate.ensures.1 (a, (c.in_ok-found.ensures (predicate a)).1 h)) c.if-not-is_predicate.true

pub import-requires : goal.import-requires
import-requires c =
    let f = c.is_predicate.ensures.0 c.if-not-is_predicate.false in
    record { ctx = []; type = predicate f.0; canonical = (c.in_ok-found.ensures (predicate f.0)).0 f.1 }

pub returns-clause-place : goal.returns-clause-place
returns-clause-place c =
    let f = c.is_predicate.ensures.0 c.if-not-is_predicate.false in
    let h = has_place c.args.self.now c.import.new.self c.in_ok-id.ensures.grows c.in_ok-id.id (predicate f.0) c.args.nf.now c.args.nf.now refl
    ((c.in_ok-found.ensures (predicate f.0)).0 f.1) c.in_ok-id.ensures.term in
    ((f.0, h.0), h.1)

pub returns-clause-good : goal.returns-clause-good
returns-clause-good c = imported_good c.args.self.now c.import.new.self c.in_ok-id.ensures.grows c.requires.good
