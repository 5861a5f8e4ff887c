use Rattle.std.proofs.Common.{refl}
use Rattle.stt_core.specs.View.{the_type}
use Rattle.refute_check.specs.declared.shared.Shared.{Shared}
use Rattle.refute_check.proofs.RowLaws.{row_good}
use Rattle.refute_check.proofs.shared.Shared.push_row.Goals as goal

pub returns-clause-good : goal.returns-clause-good
returns-clause-good c =
    let old = c.args.self.now in
    let new : Shared = record { bank = c.add_witness.new.self; normal = old.normal; lits = old.lits; witnesses = c.fresh.new.self; types = c.push.new.self } in
    row_good old c.requires.good c.args.id c.requires.none new (the_type c.args.ty) c.requires.taken c.in_ok-add_witness.ensures.ok c.in_ok-fresh.ensures.added c.in_ok-push.ensures.ok refl refl c.in_ok-fresh.ensures.rows
