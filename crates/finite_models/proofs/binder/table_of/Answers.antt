use Rattle.std.proofs.Common.{ap, sym, subst, ◌*◌, ◌^◌, ◌<◌, ◌∷◌}
use Rattle.finite_models.specs.Internal.Worth.{worth, IsSafe}
use Rattle.finite_models.proofs.BinderLaws.{table_repeated}
use Rattle.finite_models.proofs.binder.table_of.Goals as goal

pub returns-then-lacks : goal.returns-then-lacks
returns-then-lacks c =
    let f = c.in_ok-same.ensures.ok in
    let times = c.ones-times.result in
    table_repeated c.args.base c.args.entries times c.args.body _ c.requires.entries c.requires.small c.ones-times.ensures (c.lacks.ensures c.if-lacks.true)
    (λ vs env. ap (λ e. worth e vs (0 ∷ env) * times) f)
    (λ vs env safe small. (
      subst (λ e. IsSafe e vs (0 ∷ env)) (sym f) safe,
      subst (λ e. worth e vs (0 ∷ env) * times < 2 ^ 20) (sym f) small,
    ))
