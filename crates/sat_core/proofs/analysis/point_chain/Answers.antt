use Rattle.std.proofs.Common.{◌≡◌, ◌≤◌, ◌-◌, ◌&&◌, ◌||◌, not, List, Some, None, length, take, sym, ap, subst, ◌∙◌, arith}
use Rattle.std.proofs.lemmas.Option.{slice_get_within}
use Rattle.sat_base.specs.declared.literal.Var.{Var}
use Rattle.sat_base.specs.declared.literal.SatLit.{SatLit}
use Rattle.sat_base.specs.Literal.{mentions_variable, same_var, IsOver, holds}
use Rattle.sat_log.specs.declared.chain.ChainStep.{ChainStep}
use Rattle.sat_propagate.specs.Internal.Trail.{literals}
use Rattle.sat_core.specs.Internal.Marks.{is_marked, others}
use Rattle.sat_core.specs.Internal.Learned.{IsLearned, IsAnalysed}
use Rattle.sat_propagate.proofs.LevelLaws.{complete_at}
use Rattle.sat_laws.specs.Internal.Complete.{IsComplete}
use Rattle.sat_propagate.specs.Internal.Propagator.{texts}
use Rattle.sat_core.proofs.CountingLaws.{held_from}
use Rattle.sat_core.proofs.AnalysisSteps.{over_more, learned_once, contains_at, conflict_valued, reason_valued, analysed_start, analysed_next, analysed_skip, analysed_stop, analysed_end}
use Rattle.sat_core.proofs.analysis.point_chain.Goals as goal

pub mark_others-requires-clause-valued : goal.mark_others-requires-clause-valued
mark_others-requires-clause-valued c =
    let conflict = c.requires.conflict in
    conflict_valued c.args.propagator.now.trail conflict.watched.clause c.literals.result.now conflict.falsified (c.literals.ensures conflict.watched conflict.there)

pub loop-place-init : goal.loop-place-init
loop-place-init c =
    let trail = c.args.propagator.now.trail in
    let clauses = c.args.propagator.now.clauses.items in
    let conflict = c.requires.conflict in
    let start = c.args.start in
    let read : c.literals.result.now ≡ conflict.watched.clause = c.literals.ensures conflict.watched conflict.there in
    record {
      analysed = subst (λ (steps : List ChainStep). IsAnalysed clauses trail c.args.names.now c.args.conflict start c.mark_others.new.marks.marked steps c.in_ok-late.late c.len-place.result) (sym c.new-steps.ensures)
          (analysed_start clauses trail c.args.names.now c.args.conflict start c.clear.new.self.marked c.mark_others.new.marks.marked c.in_ok-late.late c.len-place.result conflict.watched c.len-place.ensures.right
          (complete_at trail c.args.propagator.now.processed clauses c.args.propagator.now.lists start c.requires.right c.len-place.ensures.right (contains_at trail.starts (length trail.starts - 1) start c.requires.last))
          conflict.there conflict.falsified c.in_ok-clear.ensures.ok
          (subst (λ (some : List SatLit). (v : Var) → is_marked c.mark_others.new.marks.marked v ≡ (is_marked c.clear.new.self.marked v || mentions_variable (others None some) v)) read c.in_ok-late.ensures.marks)
          c.in_ok-late.ensures.counted c.len-place.ensures.number);
      made = c.mark_others.ensures.made ∙ c.clear.ensures.made;
    }

pub name_of-first-requires : goal.name_of-first-requires
name_of-first-requires c =
    let inside = slice_get_within c.args.propagator.now.clauses.items c.args.conflict c.requires.conflict.watched c.requires.conflict.there in
    omega (arith, c.requires.named)

pub returns-in_default-clause-shortening : goal.returns-in_default-clause-shortening
returns-in_default-clause-shortening c =
    let trail = c.args.propagator.now.trail in
    let clauses = c.args.propagator.now.clauses.items in
    let a = c.loop-place.invariant.analysed in
    let complete : IsComplete (texts clauses) (take c.args.start (literals trail.steps)) =
    complete_at trail c.args.propagator.now.processed clauses c.args.propagator.now.lists c.args.start c.requires.right c.len-place.ensures.right (contains_at trail.starts (length trail.starts - 1) c.args.start c.requires.last) in
    let learned : IsLearned trail c.args.start a.so_far = analysed_stop clauses trail c.args.names.now c.args.conflict c.args.start c.loop-place.marks.marked c.loop-place.steps c.loop-place.late c.loop-place.place c.step-step.result a
    c.len-place.ensures.right c.requires.last c.loop-place-test.true c.step-step.ensures (sym c.contains.ensures ∙ c.if-contains.true)
    ((c.requires.right.reasoned (c.loop-place.place - 1) c.step-step.result c.step-step.ensures).decided) c.in_default.ensures.none in
    record {
      so_far = a.so_far;
      learned = learned;
      marked = a.marked;
      occurring = a.occurring;
      once = learned_once clauses trail c.args.start a.so_far complete c.len-place.ensures.right learned a.origin;
      derived = λ store results named. a.derived store results named c.name_of-first.result c.name_of-first.ensures;
    }

pub literals-literals-requires : goal.literals-literals-requires
literals-literals-requires c =
    let why = c.in-Some.ensures.some in
    let reason = (c.requires.right.reasoned (c.loop-place.place - 1) c.step-step.result c.step-step.ensures).forced c.in-Some.reason why.0 in
    slice_get_within c.args.propagator.now.clauses.items c.in-Some.reason reason.0 reason.1

pub resolve_marks-requires-clause-valued : goal.resolve_marks-requires-clause-valued
resolve_marks-requires-clause-valued c =
    let why = c.in-Some.ensures.some in
    let reason = (c.requires.right.reasoned (c.loop-place.place - 1) c.step-step.result c.step-step.ensures).forced c.in-Some.reason why.0 in
    let read : c.literals-literals.result.now ≡ reason.0.clause = c.literals-literals.ensures reason.0 reason.1 in
    λ l h. reason_valued c.args.propagator.now.trail (c.loop-place.place - 1) c.step-step.result reason.0.clause c.step-step.ensures reason.2 l (ap (λ (some : List SatLit). holds some l) (sym read) ∙ h)

pub resolve_marks-requires-clause-made : goal.resolve_marks-requires-clause-made
resolve_marks-requires-clause-made c =
    let why = c.in-Some.ensures.some in
    let reason = (c.requires.right.reasoned (c.loop-place.place - 1) c.step-step.result c.step-step.ensures).forced c.in-Some.reason why.0 in
    let read : c.literals-literals.result.now ≡ reason.0.clause = c.literals-literals.ensures reason.0 reason.1 in
    subst (λ (some : List SatLit). IsOver (length c.loop-place.marks.marked) some) (sym read)
    (over_more (length c.args.propagator.now.trail.phases) (length c.loop-place.marks.marked) reason.0.clause (omega (arith, c.loop-place.invariant.made, c.requires.made)) (c.requires.right.over c.in-Some.reason reason.0 reason.1))

pub resolve_marks-requires-clause-own_late : goal.resolve_marks-requires-clause-own_late
resolve_marks-requires-clause-own_late c =
    let late : c.args.start ≤ c.loop-place.place - 1 = omega (arith, c.loop-place-test.true) in
    held_from c.args.propagator.now.trail.steps (c.loop-place.place - 1) c.args.start c.step-step.result c.step-step.ensures late

pub name_of-requires : goal.name_of-requires
name_of-requires c =
    let why = c.in-Some.ensures.some in
    let reason = (c.requires.right.reasoned (c.loop-place.place - 1) c.step-step.result c.step-step.ensures).forced c.in-Some.reason why.0 in
    let inside = slice_get_within c.args.propagator.now.clauses.items c.in-Some.reason reason.0 reason.1 in
    omega (arith, c.requires.named)

pub loop-place-preserved-in-Continue-branch-6 : goal.loop-place-preserved-in-Continue-branch-6
loop-place-preserved-in-Continue-branch-6 c =
    let trail = c.args.propagator.now.trail in
    let clauses = c.args.propagator.now.clauses.items in
    let why = c.in-Some.ensures.some in
    let reason = (c.requires.right.reasoned (c.loop-place.place - 1) c.step-step.result c.step-step.ensures).forced c.in-Some.reason why.0 in
    let read : c.literals-literals.result.now ≡ reason.0.clause = c.literals-literals.ensures reason.0 reason.1 in
    let counts = c.in_ok-late-2.ensures.counted in
    record {
      analysed = subst (λ (steps : List ChainStep). IsAnalysed clauses trail c.args.names.now c.args.conflict c.args.start c.resolve_marks.new.marks.marked steps c.in_ok-late-2.late (c.loop-place.place - 1)) (sym c.in_ok-push.ensures.ok)
          (analysed_next clauses trail c.args.names.now c.args.conflict c.args.start c.loop-place.marks.marked c.resolve_marks.new.marks.marked c.loop-place.steps c.loop-place.late c.in_ok-late-2.late c.loop-place.place c.in-Some.reason
          c.step-step.result reason.0 c.name_of.result c.loop-place.invariant.analysed c.len-place.ensures.right (omega (arith, c.loop-place-test.true)) c.step-step.ensures (sym c.contains.ensures ∙ c.if-contains.true)
          reason.1 reason.2 c.name_of.ensures
          (λ v. c.in_ok-late-2.ensures.marks v ∙ ap (λ (some : List SatLit). (is_marked c.loop-place.marks.marked v && not (same_var v c.step-step.result.literal.var)) || mentions_variable (others (Some c.step-step.result.literal) some) v) read)
          counts.0 counts.1 why.1);
      made = c.resolve_marks.ensures.made ∙ c.loop-place.invariant.made;
    }

pub loop-place-preserved : goal.loop-place-preserved
loop-place-preserved c = record {
  analysed = analysed_skip c.args.propagator.now.clauses.items c.args.propagator.now.trail c.args.names.now c.args.conflict c.args.start c.loop-place.marks.marked c.loop-place.steps c.loop-place.late c.loop-place.place
      c.step-step.result c.loop-place.invariant.analysed (omega (arith, c.loop-place-test.true)) c.step-step.ensures (sym c.contains.ensures ∙ c.if-contains.false);
  made = c.loop-place.invariant.made;
}

pub unreachable-requires : goal.unreachable-requires
unreachable-requires c =
    analysed_end c.args.propagator.now.clauses.items c.args.propagator.now.trail c.args.names.now c.args.conflict c.args.start c.loop-place.marks.marked c.loop-place.steps c.loop-place.late c.loop-place.place
    c.loop-place.invariant.analysed c.len-place.ensures.right c.loop-place-test.false
