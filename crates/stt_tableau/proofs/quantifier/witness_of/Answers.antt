use Rattle.std.proofs.Common.{◌≡◌, ◌≤◌, Some, refl, subst, ap, ◌∙◌, take_all, length, arith}
use Rattle.stt_core.specs.View.{the_type}
use Rattle.tableau_calculus.proofs.ListLaws.{untrue, Each, each-more, contains-get}
use Rattle.stt_tableau.proofs.quantifier.witness_of.Goals as goal

pub returns-then-is_row_of : goal.returns-then-is_row_of
returns-then-is_row_of c = c.at.ensures ∙ ap Some (c.is_row_of.ensures.0 c.if-is_row_of.true)

pub loop-k-preserved : goal.loop-k-preserved
loop-k-preserved c =
    let i = c.args.quantified.now in
    each-more (λ q. q ≡ record { type = the_type i.ty.now; predicate = i.predicate.now } → ⊥) c.args.rows.now c.loop-k.k c.at.result.now c.at.ensures c.loop-k.invariant
    (λ same. untrue (c.is_row_of.ensures.1 same) c.if-is_row_of.false)

pub returns : goal.returns
returns c = λ k g.
    let i = c.args.quantified.now in
    let all : length c.args.rows.now ≤ c.loop-k.k = omega (arith, c.loop-k-test.false, c.len-k-end.ensures.len) in
    let none = subst (Each (λ q. q ≡ record { type = the_type i.ty.now; predicate = i.predicate.now } → ⊥)) (take_all c.loop-k.k c.args.rows.now all) c.loop-k.invariant in
    none (record { type = the_type i.ty.now; predicate = i.predicate.now }) (contains-get c.args.rows.now k (record { type = the_type i.ty.now; predicate = i.predicate.now }) g) refl
