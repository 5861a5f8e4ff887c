use Rattle.std.proofs.Common.{◌<◌, ◌++◌, [], length, refl, ap, sym, subst, ◌∙◌, arith}
use Rattle.std.specs.Prelude.{All}
use Rattle.std.proofs.lemmas.List.Elements.{All-nil}
use Rattle.stt_core.specs.View.{the_term}
use Rattle.stt_core.specs.PlainProblem.{PlainProblem}
use Rattle.stt_core.specs.TypedProblem.{IsFormula, AreFormulas}
use Rattle.stt_core.specs.Declarations.{scope_of}
use Rattle.tableau_calculus.proofs.StartLaws.{formula_at}
use Rattle.term_bank.proofs.GrowLaws.{grows_itself, grows_on, grown_scope}
use Rattle.delta_defs.specs.Unfolding.{taken_from, with_next, taken_after, left_after, left_formulas}
use Rattle.delta_defs.proofs.Walks.{sorted_further, taken_done, left_done}
use Rattle.problem_start.specs.Unfolds.{IsUnfolding, StandAt, formulas_at}
use Rattle.problem_start.proofs.UnfoldLaws.{places_more, places_within}
use Rattle.problem_start.proofs.unfolding.taken_unfolding.Goals as goal

pub loop-i-init : goal.loop-i-init
loop-i-init c =
    let p = c.problem.inside in
    let none = sym c.new-walk.ensures.left in
    record {
      grows = grows_itself c.args.bank.now;
      right = c.requires.right;
      ds = [];
      definitions = c.new-walk.ensures.definitions c.args.bank.now;
      taken = refl;
      left = ap (λ places. formulas_at p.assumed places ++ left_after [] p.marked p.assumed) none;
      within = subst (All (λ i. i < length p.assumed)) none (All-nil (λ i. i < length p.assumed));
    }

pub with-requires-clause-formula : goal.with-requires-clause-formula
with-requires-clause-formula c =
    let t = the_term c.at.result.now in
    let b = c.args.bank.now in
    let formulas = subst (λ (q : PlainProblem). AreFormulas (scope_of c.args.problem.now.declared) q.assumed) (sym c.problem.view_is) c.requires.problem.assumed in
    subst (λ s. IsFormula s t) (sym (grown_scope b c.loop-i.bank c.loop-i.invariant.grows ∙ c.requires.scope))
    (formula_at (scope_of c.args.problem.now.declared) c.problem.inside.assumed c.loop-i.i t c.at.ensures formulas)

pub loop-i-preserved : goal.loop-i-preserved
loop-i-preserved c =
    let p = c.problem.inside in
    let v = c.loop-i.invariant in
    let i = c.loop-i.i in
    let t = the_term c.at.result.now in
    let mark = c.mark_at-mark.result in
    let taken = taken_from v.ds mark t in
    let places = c.loop-i.walk.left.items in
    let more = c.in_ok-walk.walk.left.items in
    let left = c.in_ok-walk.ensures.left v.ds v.definitions in
    let next =
    sorted_further (taken_after [] p.marked p.assumed) (left_after [] p.marked p.assumed) v.ds (with_next v.ds mark t) p.marked p.assumed i t mark (formulas_at p.assumed places) (formulas_at p.assumed more) c.at.ensures c.mark_at-mark.ensures v.taken v.left refl
    (places_more p.assumed i t taken places more c.at.ensures left) in
    record {
      grows = grows_on c.args.bank.now c.loop-i.bank c.with.new.bank v.grows c.in_ok-walk.ensures.grows;
      right = c.in_ok-walk.ensures.right;
      ds = with_next v.ds mark t;
      definitions = c.in_ok-walk.ensures.definitions v.ds v.definitions;
      taken = next.0;
      left = next.1;
      within = places_within p.assumed i t taken places more c.at.ensures v.within left;
    }

pub returns-clause-definitions : goal.returns-clause-definitions
returns-clause-definitions c =
    let p = c.problem.inside in
    let v = c.loop-i.invariant in
    subst (IsUnfolding c.loop-i.bank c.loop-i.walk)
    (taken_done v.ds (taken_after [] p.marked p.assumed) p.marked p.assumed c.loop-i.i (omega (arith, c.len-i-end.ensures)) v.taken
    ∙ ap (λ (q : PlainProblem). taken_after [] q.marked q.assumed) c.problem.view_is)
    v.definitions

pub returns-clause-left : goal.returns-clause-left
returns-clause-left c =
    let p = c.problem.inside in
    let v = c.loop-i.invariant in
    let places = c.loop-i.walk.left.items in
    subst (λ (q : PlainProblem). StandAt q.assumed places (left_formulas q)) c.problem.view_is
    (record {
      within = v.within;
      formulas = left_done v.ds (left_after [] p.marked p.assumed) (formulas_at p.assumed places) p.marked p.assumed c.loop-i.i (omega (arith, c.len-i-end.ensures)) v.left;
    })
