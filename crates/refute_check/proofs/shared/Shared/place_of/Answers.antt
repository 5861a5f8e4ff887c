use Rattle.std.proofs.Common.{◌∙◌, [], not, option_map, ap, refl}
use Rattle.stt_core.specs.View.{the_type}
use Rattle.refute_check.proofs.SharedLaws.{imported_good, has_place, some_of}
use Rattle.refute_check.proofs.shared.Shared.place_of.Goals as goal

pub import-requires : goal.import-requires
import-requires c =
    let f = some_of c.in_ok-type_of.field-0 (c.is_none.ensures ∙ ap not c.if-is_none.false) in
    record { ctx = []; type = the_type f.0; canonical = (c.in_ok-type_of.ensures (the_type f.0)).0 (ap (option_map the_type) f.1) }

pub returns-clause-place : goal.returns-clause-place
returns-clause-place c =
    let f = some_of c.in_ok-type_of.field-0 (c.is_none.ensures ∙ ap not c.if-is_none.false) in
    let h = has_place c.args.self.now c.import.new.self c.in_ok-id.ensures.grows c.in_ok-id.id (the_type f.0) c.args.nf.now c.args.nf.now refl
    ((c.in_ok-type_of.ensures (the_type f.0)).0 (ap (option_map the_type) f.1)) c.in_ok-id.ensures.term in
    ((the_type f.0, h.0), h.1)

pub returns-clause-good : goal.returns-clause-good
returns-clause-good c = imported_good c.args.self.now c.import.new.self c.in_ok-id.ensures.grows c.requires.good
