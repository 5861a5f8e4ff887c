use Rattle.std.proofs.Common.{◌∙◌}
use Rattle.stt_core.specs.View.{the_head, the_type}
use Rattle.normal_forms.proofs.CycleLaws.{not_function_head}
use Rattle.normal_forms.proofs.EtaLaws.{first_of_function}
use Rattle.stt_normal.proofs.apply.apply_nf.Goals as goal

pub at-requires : goal.at-requires
at-requires c =
    let i = c.f.inside in
    (first_of_function i.binders (the_head i.head) i.args c.args.f.now c.args.a.now (not_function_head i.head) c.f.view_is c.requires).within

pub replace_nf-requires : goal.replace_nf-requires
replace_nf-requires c =
    let i = c.f.inside in
    ((first_of_function i.binders (the_head i.head) i.args c.args.f.now c.args.a.now (not_function_head i.head) c.f.view_is c.requires).first (the_type c.at.result.now) c.at.ensures).0

pub returns : goal.returns
returns c =
    let i = c.f.inside in
    c.in_ok-replace_nf.ensures
    ∙ ((first_of_function i.binders (the_head i.head) i.args c.args.f.now c.args.a.now (not_function_head i.head) c.f.view_is c.requires).first (the_type c.at.result.now) c.at.ensures).1
