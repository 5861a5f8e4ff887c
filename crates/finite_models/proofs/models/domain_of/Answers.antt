use Rattle.std.proofs.lemmas.Result.{IfOk-weaker}
use Rattle.std.proofs.Common.{◌≡◌, ◌-◌, ◌<◌, ◌≤◌, length, [], Some, slice_get, sym, subst, ◌∙◌, arith}
use Rattle.std.proofs.lemmas.List.{length-map}
use Rattle.stt_core.specs.ScopeView.{the_scope}
use Rattle.finite_models.specs.ChooserView.{the_chooser}
use Rattle.finite_models.specs.Internal.Looking.{IsDomain}
use Rattle.finite_models.proofs.LookLaws.{symbol_behind, behind_place, declared_domain, behind_same}
use Rattle.finite_models.proofs.models.domain_of.Goals as goal

pub at-requires : goal.at-requires
at-requires c =
    let scope = the_scope c.args.sig.now [] in
    behind_place scope c.args.choosers.now c.args.i c.len-declared.result (c.len-declared.ensures ∙ sym (length-map c.args.sig.now.consts (λ x. x.type))) (omega arith) c.requires.within

pub lawful_values-requires-clause-size : goal.lawful_values-requires-clause-size
lawful_values-requires-clause-size c =
    let scope = the_scope c.args.sig.now [] in
    let e = c.len-declared.ensures ∙ sym (length-map c.args.sig.now.consts (λ x. x.type)) in
    let g = subst (λ n. slice_get c.args.choosers.now (c.args.i - n) ≡ Some (the_chooser c.at.result.now)) e c.at.ensures in
    c.requires.size (the_chooser c.at.result.now) (symbol_behind 0 scope.names c.args.choosers.now c.args.i (omega arith) ∙ g)

pub returns-then-i-declared : goal.returns-then-i-declared
returns-then-i-declared c =
    let scope = the_scope c.args.sig.now [] in
    let e = c.len-declared.ensures ∙ sym (length-map c.args.sig.now.consts (λ x. x.type)) in
    let below : c.args.i < length scope.names = omega arith in
    IfOk-weaker c.all_values.result _ _ (λ v h. declared_domain c.args.s scope c.args.choosers.now c.args.i c.args.size v.items below c.requires.size h.0 h.1) c.all_values.ensures

pub returns-else-i-declared : goal.returns-else-i-declared
returns-else-i-declared c =
    let scope = the_scope c.args.sig.now [] in
    let e = c.len-declared.ensures ∙ sym (length-map c.args.sig.now.consts (λ x. x.type)) in
    let g = subst (λ n. slice_get c.args.choosers.now (c.args.i - n) ≡ Some (the_chooser c.at.result.now)) e c.at.ensures in
    let behind : length scope.names ≤ c.args.i = omega arith in
    IfOk-weaker c.lawful_values.result _ _
    (λ v h. λ x k. subst (λ y. IsDomain c.args.s y v.items) (behind_same scope c.args.choosers.now c.args.i (the_chooser c.at.result.now) x behind g k) h)
    c.lawful_values.ensures
