use Rattle.std.proofs.Common.{◌≡◌, ◌-◌, [], Some, slice_get, sym, subst, ◌∙◌, arith}
use Rattle.std.proofs.lemmas.List.{length-map}
use Rattle.stt_core.specs.View.{the_type}
use Rattle.stt_core.specs.ScopeView.{the_scope}
use Rattle.finite_models.specs.ChooserView.{the_chooser}
use Rattle.finite_models.proofs.LookLaws.{type_got, declared_size, chooser_size_found, behind_place}
use Rattle.finite_models.proofs.models.symbol_size.Goals as goal

pub at-requires : goal.at-requires
at-requires c =
    let scope = the_scope c.args.sig.now [] in
    behind_place scope c.args.choosers.now c.args.i c.len-declared.result (c.len-declared.ensures ∙ sym (length-map c.args.sig.now.consts (λ x. x.type))) (omega arith) c.requires.within

pub returns-in-Some : goal.returns-in-Some
returns-in-Some c =
    let scope = the_scope c.args.sig.now [] in
    declared_size c.args.s scope c.args.choosers.now c.args.i (the_type c.in-Some.ty.now) c.small_size.result (type_got c.args.sig.now.consts c.args.i (the_type c.in-Some.ty.now) c.in-Some.ensures) c.small_size.ensures

pub returns-else-i-declared : goal.returns-else-i-declared
returns-else-i-declared c =
    let scope = the_scope c.args.sig.now [] in
    let e = c.len-declared.ensures ∙ sym (length-map c.args.sig.now.consts (λ x. x.type)) in
    let g = subst (λ n. slice_get c.args.choosers.now (c.args.i - n) ≡ Some (the_chooser c.at.result.now)) e c.at.ensures in
    chooser_size_found c.args.s scope c.args.choosers.now c.args.i (the_chooser c.at.result.now) (the_type c.type_in.result.now) c.chooser_size.result (omega arith) g c.type_in.ensures c.chooser_size.ensures
