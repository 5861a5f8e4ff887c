use Rattle.std.proofs.Common.{slice_index_or, sym, subst}
use Rattle.plain_tableau.specs.Internal.Due.{AreLiteralsOver}
use Rattle.plain_tableau.proofs.path.Path.new.Goals as goal

pub note_all-requires-clause-over : goal.note_all-requires-clause-over
note_all-requires-clause-over c = λ k d h. subst (λ n. AreLiteralsOver n c.args.steps.now (slice_index_or c.args.used.now k d)) (sym c.in_ok-noted.ensures.count) (c.requires.over k d h)
