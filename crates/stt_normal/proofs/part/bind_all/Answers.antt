use Rattle.std.proofs.Common.{ap, ◌∙◌, ◌++◌, drop}
use Rattle.stt_core.specs.Lambda.{lambdas, applied}
use Rattle.stt_core.specs.View.{the_head}
use Rattle.normal_forms.proofs.ReplaceLaws.{lambdas-append}
use Rattle.stt_normal.proofs.part.bind_all.Goals as goal

pub returns : goal.returns
returns c =
    let i = c.body.inside in
    let outer = drop c.args.skip c.args.outer.now in
    ap (λ bs. lambdas bs (applied (the_head i.head) i.args)) (c.in_ok-append-2.ensures ∙ ap (λ bs. bs ++ i.binders) (c.in_ok-append.ensures ∙ ap (λ bs. bs ++ outer) c.new-binders.ensures))
    ∙ lambdas-append outer i.binders (applied (the_head i.head) i.args)
    ∙ ap (lambdas outer) c.body.view_is
