use Rattle.std.proofs.Common.{ap, subst, ◌∙◌, refl}
use Rattle.stt_core.specs.Digits.{entry}
use Rattle.finite_models.specs.Internal.Worth.{worth, IsSafe}
use Rattle.finite_models.specs.Internal.Binder.{IsEntryInside}
use Rattle.finite_models.proofs.BinderLaws.{base_small, table_whole}
use Rattle.finite_models.proofs.binder.whole.Goals as goal

pub bounded_power-requires-clause-base_small : goal.bounded_power-requires-clause-base_small
bounded_power-requires-clause-base_small c =
    base_small c.args.base c.args.entries 1048576 c.requires.base c.requires.entries c.requires.small

pub returns : goal.returns
returns c =
    let f = c.in-Apply.function.value in
    let x = c.in-Apply.field-2.value in
    let is = c.in-Apply.is in
    let h = subst (IsEntryInside c.args.base c.args.entries) is c.requires.entry in
    let count = c.in-Some.ensures in
    table_whole c.args.base c.args.entries c.in-Some.count f x c.args.body _ c.requires.base c.requires.entries count.0 count.2 h.1.0 h.1.1
    (λ vs env. ap (λ e. worth e vs env) is ∙ ap (λ b. entry b (worth f vs env) (worth x vs env)) h.0)
    (λ vs env safe. (subst (λ e. IsSafe e vs env) is safe).1.0)
    (λ vs env. refl)
    (λ vs env safe some. (safe, some))
