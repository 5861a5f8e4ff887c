use Rattle.std.proofs.Common.{false, refl}
use Rattle.stt_core.specs.Lambda.{witness, constant}
use Rattle.stt_core.specs.View.{the_type}
use Rattle.normal_forms.specs.Normal.{eta, apply}
use Rattle.tableau_calculus.specs.Literals.{as_literal, opposite}
use Rattle.tableau_calculus.proofs.InstanceLaws.{all_neg_is}
use Rattle.stt_tableau.proofs.InstanceTypes.{witness_applies}
use Rattle.stt_tableau.proofs.quantifier.all_neg_instance.Goals as goal

pub denied_of_witness-requires : goal.denied_of_witness-requires
denied_of_witness-requires c =
    let q = c.in-Some.quantified in
    witness_applies c.args.rows.now c.args.branch.now c.args.i c.in-Some-witness_of.k false (the_type q.ty.now) q.predicate.now c.requires c.in-Some.ensures c.in-Some-witness_of.ensures

pub returns-in_ok-denied_of_witness-in-Some-witness_of : goal.returns-in_ok-denied_of_witness-in-Some-witness_of
returns-in_ok-denied_of_witness-in-Some-witness_of c = λ scope.
    let q = c.in-Some.quantified in
    let k = c.in-Some-witness_of.k in
    let w = eta (the_type q.ty.now) (constant (witness c.in-Some-witness_of.k)) in
    let holds = as_literal (apply q.predicate.now (eta (the_type q.ty.now) (constant (witness c.in-Some-witness_of.k)))) in
    all_neg_is scope c.args.rows.now c.args.branch.now c.args.i k (the_type q.ty.now) q.predicate.now w (apply q.predicate.now (eta (the_type q.ty.now) (constant (witness c.in-Some-witness_of.k)))) holds (opposite holds) c.in_ok-denied_of_witness-in-Some-witness_of.field-0 c.in-Some.ensures c.in-Some-witness_of.ensures refl refl refl refl c.in_ok-denied_of_witness-in-Some-witness_of.ensures
