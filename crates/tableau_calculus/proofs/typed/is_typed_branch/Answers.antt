use Rattle.std.proofs.Common.{◌≤◌, length, refl, arith}
use Rattle.stt_core.specs.ScopeView.{the_scope}
use Rattle.tableau_calculus.specs.Literals.{IsLiteral}
use Rattle.tableau_calculus.proofs.ListLaws.{untrue, each-more, each-all, contains-get}
use Rattle.tableau_calculus.proofs.ClosedLaws.{literal_in}
use Rattle.tableau_calculus.proofs.TypedLaws.{branch-each}
use Rattle.tableau_calculus.proofs.typed.is_typed_branch.Goals as goal

pub returns-then-not-typed : goal.returns-then-not-typed
returns-then-not-typed c =
    let scope = the_scope c.args.sig.now c.args.types.now in
    let here = contains-get c.args.branch.now c.loop-i.i c.at.result.now c.at.ensures in
    (λ h. absurd (untrue h refl), λ h. absurd (untrue (c.in_ok-typed.ensures.1 (literal_in scope c.at.result.now c.args.branch.now here h)) c.if-not-typed.true))

pub loop-i-preserved : goal.loop-i-preserved
loop-i-preserved c =
    each-more (IsLiteral (the_scope c.args.sig.now c.args.types.now)) c.args.branch.now c.loop-i.i c.at.result.now c.at.ensures c.loop-i.invariant (c.in_ok-typed.ensures.0 c.if-not-typed.false)

pub returns : goal.returns
returns c =
    let scope = the_scope c.args.sig.now c.args.types.now in
    let passed : length c.args.branch.now ≤ c.loop-i.i = omega (arith, c.len-i-end.ensures) in
    (λ _. branch-each scope c.args.branch.now (each-all (IsLiteral scope) c.args.branch.now c.loop-i.i passed c.loop-i.invariant), λ _. refl)
