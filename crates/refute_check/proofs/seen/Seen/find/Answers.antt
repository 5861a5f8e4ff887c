use Rattle.std.proofs.Common.{◌∙◌, option_copied, slice_get, ap, refl, sym}
use Rattle.tableau_calculus.proofs.ListLaws.{contains-get}
use Rattle.refute_check.proofs.seen.Seen.find.Goals as goal

pub returns-then-same_literal : goal.returns-then-same_literal
returns-then-same_literal c =
    let noted = c.in-Some.noted.now in
    let at = ap (λ ns. slice_get ns c.args.place) (sym c.as_slice.ensures.value) ∙ sym c.noted_at.ensures ∙ ap option_copied c.in-Some.is in
    (noted, contains-get c.args.self.now.items.items c.args.place noted at, c.same_literal.ensures c.if-same_literal.true, refl)
