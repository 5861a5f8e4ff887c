use Rattle.std.proofs.Common.{option_map, ap, sym, ◌∙◌}
use Rattle.stt_core.specs.Lambda.{applied}
use Rattle.stt_core.specs.View.{the_type, the_head}
use Rattle.refute_check.proofs.TermLaws.{argument_type-first, argument_type-none}
use Rattle.refute_check.proofs.number_line.argument_type.Goals as goal

pub returns-in_ok-try_clone-in-Some : goal.returns-in_ok-try_clone-in-Some
returns-in_ok-try_clone-in-Some c =
    let i = c.nf.inside in
    c.in_ok-try_clone-in-Some.ensures
    ∙ argument_type-first i.binders (the_type c.in-Some.ty.now) (applied (the_head i.head) i.args) c.args.nf.now (sym c.get.ensures ∙ ap (option_map (λ ty. the_type ty.now)) c.in-Some.is) c.nf.view_is

pub returns-in-None : goal.returns-in-None
returns-in-None c =
    let i = c.nf.inside in
    argument_type-none i.binders i.head i.args c.args.nf.now (sym c.get.ensures ∙ ap (option_map (λ ty. the_type ty.now)) c.in-None.is) c.nf.view_is
