use Rattle.std.proofs.Common.{true, refl}
use Rattle.stt_core.specs.View.{the_type}
use Rattle.stt_core.specs.ScopeView.{the_scope}
use Rattle.normal_forms.specs.Normal.{apply}
use Rattle.tableau_calculus.proofs.InstanceLaws.{all_pos_is}
use Rattle.stt_tableau.proofs.InstanceTypes.{predicate_applies}
use Rattle.stt_tableau.proofs.quantifier.all_pos_instance.Goals as goal

pub applied_literal-requires : goal.applied_literal-requires
applied_literal-requires c =
    let q = c.in-Some.quantified in
    predicate_applies (the_scope c.args.sig.now c.args.types.now) c.args.branch.now c.args.i true (the_type q.ty.now) q.predicate.now c.args.u.now c.requires c.in-Some.ensures (c.in_ok-is_typed_at-in-Some.ensures.0 c.if-branch.true)

pub returns-in_ok-one-in-Some : goal.returns-in_ok-one-in-Some
returns-in_ok-one-in-Some c = λ rows.
    let q = c.in-Some.quantified in
    all_pos_is (the_scope c.args.sig.now c.args.types.now) rows c.args.branch.now c.args.i (the_type q.ty.now) q.predicate.now c.args.u.now (apply q.predicate.now c.args.u.now) c.in_ok-holds-in-Some.holds c.in_ok-one-in-Some.field-0 c.in-Some.ensures (c.in_ok-is_typed_at-in-Some.ensures.0 c.if-branch.true) refl c.in_ok-holds-in-Some.ensures c.in_ok-one-in-Some.ensures
