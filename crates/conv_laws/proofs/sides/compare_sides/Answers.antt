use Rattle.std.proofs.Common.{sym, ap, subst, option_map}
use Rattle.stt_core.specs.View.{the_term}
use Rattle.stt_core.specs.PlainProblem.{PlainProblem}
use Rattle.stt_core.specs.TypedProblem.{IsTyped}
use Rattle.conv_laws.specs.Sides.{AreSidesOf}
use Rattle.conv_laws.specs.declared.sides.Sides.TheVariants.{Same, Different, NoEquation}
use Rattle.conv_laws.proofs.SideLaws.{asked_typed, unasked, no_sides, said_same, said_different}
use Rattle.conv_laws.proofs.sides.compare_sides.Goals as goal

pub convertible-requires-clause-typed : goal.convertible-requires-clause-typed
convertible-requires-clause-typed c =
    let i = c.problem.inside in
    let p : PlainProblem = record { declared = record { bases = i.signature.bases; consts = i.signature.consts }; assumed = i.assumed; marked = i.marked; conjecture = option_map the_term i.conjecture } in
    asked_typed p (the_term c.in-Some.conjecture) _ _ (subst IsTyped (sym c.problem.view_is) c.requires) (ap (option_map the_term) c.in-Some.is) c.in-Some-as_equation.ensures

pub returns-in-None : goal.returns-in-None
returns-in-None c =
    let i = c.problem.inside in
    let p : PlainProblem = record { declared = record { bases = i.signature.bases; consts = i.signature.consts }; assumed = i.assumed; marked = i.marked; conjecture = option_map the_term i.conjecture } in
    subst (λ q. AreSidesOf q NoEquation) c.problem.view_is (unasked p (ap (option_map the_term) c.in-None.is))

pub returns-in-None-as_equation : goal.returns-in-None-as_equation
returns-in-None-as_equation c =
    let i = c.problem.inside in
    let p : PlainProblem = record { declared = record { bases = i.signature.bases; consts = i.signature.consts }; assumed = i.assumed; marked = i.marked; conjecture = option_map the_term i.conjecture } in
    subst (λ q. AreSidesOf q NoEquation) c.problem.view_is (no_sides p (the_term c.in-Some.conjecture) (ap (option_map the_term) c.in-Some.is) c.in-None-as_equation.ensures)

pub returns-then-branch : goal.returns-then-branch
returns-then-branch c =
    let i = c.problem.inside in
    let p : PlainProblem = record { declared = record { bases = i.signature.bases; consts = i.signature.consts }; assumed = i.assumed; marked = i.marked; conjecture = option_map the_term i.conjecture } in
    subst (λ q. AreSidesOf q Same) c.problem.view_is
    (said_same p (the_term c.in-Some.conjecture) _ _ _ (ap (option_map the_term) c.in-Some.is) c.in-Some-as_equation.ensures c.in_ok-convertible-in-Some-as_equation.ensures c.if-branch.true)

pub returns-else-branch : goal.returns-else-branch
returns-else-branch c =
    let i = c.problem.inside in
    let p : PlainProblem = record { declared = record { bases = i.signature.bases; consts = i.signature.consts }; assumed = i.assumed; marked = i.marked; conjecture = option_map the_term i.conjecture } in
    subst (λ q. AreSidesOf q Different) c.problem.view_is
    (said_different p (the_term c.in-Some.conjecture) _ _ _ (ap (option_map the_term) c.in-Some.is) c.in-Some-as_equation.ensures c.in_ok-convertible-in-Some-as_equation.ensures c.if-branch.false)
