use Rattle.std.proofs.Common.{subst, sym}
use Rattle.tableau_calculus.specs.Each.{Each}
use Rattle.refute_check.proofs.SharedLaws.{each_append}
use Rattle.refute_check.proofs.SeenLaws.{IsRightNote}
use Rattle.refute_check.proofs.seen.Seen.note.Goals as goal

pub returns-in_ok-push : goal.returns-in_ok-push
returns-in_ok-push c = λ names s h n.
    let right = IsRightNote names s in
    subst (Each right) (sym c.in_ok-push.ensures.items) (each_append right c.args.self.now.items.items (record { lit = c.args.lit; number = c.args.number }) h n)
