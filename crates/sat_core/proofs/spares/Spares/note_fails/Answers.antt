use Rattle.std.proofs.Common.{List, sym, subst}
use Rattle.std.specs.List.{Contains}
use Rattle.std.proofs.lemmas.Result.{on_ok_weaker}
use Rattle.sat_base.specs.declared.literal.Var.{Var}
use Rattle.sat_core.specs.Internal.Spares.{held}
use Rattle.sat_core.specs.declared.spares.Visit.{Visit}
use Rattle.sat_core.proofs.spares.Spares.note_fails.Goals as goal

pub returns : goal.returns
returns c = on_ok_weaker c.fail_rest.result (λ fails v has. fails v
    (subst (λ (list : List Visit). Contains (held c.note.new.self.judged.items list) v) (sym c.in_ok-note.ensures.visits)
    (subst (λ (list : List Var). Contains (held list c.args.self.now.visits.items) v) (sym c.in_ok-note.ensures.judged) has))) c.fail_rest.ensures
