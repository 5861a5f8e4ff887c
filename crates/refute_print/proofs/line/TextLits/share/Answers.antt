use Rattle.std.proofs.Common.{◌<◌, ◌∙◌, ◌∷◌, [], ◌++◌, length, map, slice_get, ap, sym, subst}
use Rattle.refute_print.proofs.SharedLists.{shared-last}
use Rattle.refute_print.proofs.line.TextLits.share.Goals as goal

pub returns-clause-ok : goal.returns-clause-ok
returns-clause-ok c = λ lit at.
    let ours = c.self.inside.items.items in
    let theirs = c.other.inside.items.items in
    let within = subst (λ ls. c.args.i < length ls) (sym c.other.view_is) c.requires in
    ap (map (λ r. r.value.lit)) c.in_ok-push.ensures.items
    ∙ shared-last (λ r. r.value.lit) ours theirs c.index.result.now c.args.i c.index.ensures within c.in_ok-shared.shared lit (ap (λ p. p.lit) c.in_ok-shared.ensures.cases) (ap (λ ls. slice_get ls c.args.i) c.other.view_is ∙ at)
    ∙ ap (λ ls. ls ++ lit ∷ []) c.self.view_is
