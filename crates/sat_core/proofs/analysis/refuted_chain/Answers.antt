use Rattle.std.proofs.Common.{◌≡◌, ◌-◌, ◌&&◌, ◌||◌, not, Bool, List, Some, length, refl, sym, ap, subst, ◌∙◌, arith}
use Rattle.std.proofs.lemmas.Option.{slice_get_within}
use Rattle.sat_base.specs.declared.literal.SatLit.{SatLit}
use Rattle.sat_base.specs.Literal.{mentions_variable, same_var, IsOver, holds}
use Rattle.sat_log.specs.declared.chain.ChainStep.{ChainStep}
use Rattle.sat_core.specs.Internal.Marks.{is_marked, others}
use Rattle.sat_core.specs.Internal.Learned.{IsRefuting}
use Rattle.sat_core.proofs.AnalysisSteps.{over_more, conflict_valued, reason_valued, refuting_start, refuting_next, refuting_skip, refuting_end, no_start}
use Rattle.sat_core.proofs.analysis.refuted_chain.Goals as goal

pub mark_all-requires-clause-valued : goal.mark_all-requires-clause-valued
mark_all-requires-clause-valued c = conflict_valued c.args.propagator.now.trail c.args.among.now c.args.among.now c.requires.falsified refl

pub loop-place-init : goal.loop-place-init
loop-place-init c =
    let trail = c.args.propagator.now.trail in
    let clauses = c.args.propagator.now.clauses.items in
    record {
      refuting = subst (λ (steps : List ChainStep). IsRefuting clauses trail c.args.names.now c.args.first c.args.among.now c.mark_all.new.marks.marked steps c.len-place.result) (sym c.new-steps.ensures)
          (refuting_start clauses trail c.args.names.now c.args.first c.args.among.now c.clear.new.self.marked c.mark_all.new.marks.marked c.len-place.result c.requires.falsified c.in_ok-clear.ensures.ok c.in_ok-mark_all.ensures.marks c.len-place.ensures.number);
      made = c.mark_all.ensures.made ∙ c.clear.ensures.made;
    }

pub unreachable-requires : goal.unreachable-requires
unreachable-requires c =
    no_start c.args.propagator.now.trail.starts (c.loop-place.place - 1) c.requires.root ((c.requires.right.reasoned (c.loop-place.place - 1) c.step-step.result c.step-step.ensures).decided c.in_default.is)

pub literals-literals-requires : goal.literals-literals-requires
literals-literals-requires c =
    let reason = (c.requires.right.reasoned (c.loop-place.place - 1) c.step-step.result c.step-step.ensures).forced c.in-Some.reason c.in-Some.is in
    slice_get_within c.args.propagator.now.clauses.items c.in-Some.reason reason.0 reason.1

pub mark_others-requires-clause-valued : goal.mark_others-requires-clause-valued
mark_others-requires-clause-valued c =
    let reason = (c.requires.right.reasoned (c.loop-place.place - 1) c.step-step.result c.step-step.ensures).forced c.in-Some.reason c.in-Some.is in
    let read : c.literals-literals.result.now ≡ reason.0.clause = c.literals-literals.ensures reason.0 reason.1 in
    λ l h. reason_valued c.args.propagator.now.trail (c.loop-place.place - 1) c.step-step.result reason.0.clause c.step-step.ensures reason.2 l (ap (λ (some : List SatLit). holds some l) (sym read) ∙ h)

pub mark_others-requires-clause-made : goal.mark_others-requires-clause-made
mark_others-requires-clause-made c =
    let reason = (c.requires.right.reasoned (c.loop-place.place - 1) c.step-step.result c.step-step.ensures).forced c.in-Some.reason c.in-Some.is in
    let read : c.literals-literals.result.now ≡ reason.0.clause = c.literals-literals.ensures reason.0 reason.1 in
    subst (λ (some : List SatLit). IsOver (length c.unmark.new.self.marked) some) (sym read)
    (over_more (length c.args.propagator.now.trail.phases) (length c.unmark.new.self.marked) reason.0.clause (omega (arith, c.unmark.ensures.made, c.loop-place.invariant.made, c.requires.made)) (c.requires.right.over c.in-Some.reason reason.0 reason.1))

pub name_of-requires : goal.name_of-requires
name_of-requires c =
    let reason = (c.requires.right.reasoned (c.loop-place.place - 1) c.step-step.result c.step-step.ensures).forced c.in-Some.reason c.in-Some.is in
    let inside = slice_get_within c.args.propagator.now.clauses.items c.in-Some.reason reason.0 reason.1 in
    omega (arith, c.requires.named)

pub loop-place-preserved-in-Continue-branch-4 : goal.loop-place-preserved-in-Continue-branch-4
loop-place-preserved-in-Continue-branch-4 c =
    let trail = c.args.propagator.now.trail in
    let clauses = c.args.propagator.now.clauses.items in
    let reason = (c.requires.right.reasoned (c.loop-place.place - 1) c.step-step.result c.step-step.ensures).forced c.in-Some.reason c.in-Some.is in
    let read : c.literals-literals.result.now ≡ reason.0.clause = c.literals-literals.ensures reason.0 reason.1 in
    let t : SatLit = c.step-step.result.literal in
    record {
      refuting = subst (λ (steps : List ChainStep). IsRefuting clauses trail c.args.names.now c.args.first c.args.among.now c.mark_others.new.marks.marked steps (c.loop-place.place - 1)) (sym c.in_ok-push.ensures.ok)
          (refuting_next clauses trail c.args.names.now c.args.first c.args.among.now c.loop-place.marks.marked c.mark_others.new.marks.marked c.loop-place.steps c.loop-place.place c.in-Some.reason
          c.step-step.result reason.0 c.name_of.result c.loop-place.invariant.refuting c.len-place.ensures.right (omega (arith, c.loop-place-test.true)) c.step-step.ensures (sym c.contains.ensures ∙ c.if-contains.true)
          reason.1 reason.2 c.name_of.ensures
          (λ v. c.in_ok-_more.ensures.marks v
          ∙ ap (λ (b : Bool). b || mentions_variable (others (Some t) c.literals-literals.result.now) v) (c.unmark.ensures.marks v)
          ∙ ap (λ (some : List SatLit). (is_marked c.loop-place.marks.marked v && not (same_var v t.var)) || mentions_variable (others (Some t) some) v) read));
      made = c.mark_others.ensures.made ∙ c.unmark.ensures.made ∙ c.loop-place.invariant.made;
    }

pub loop-place-preserved : goal.loop-place-preserved
loop-place-preserved c = record {
  refuting = refuting_skip c.args.propagator.now.clauses.items c.args.propagator.now.trail c.args.names.now c.args.first c.args.among.now c.loop-place.marks.marked c.loop-place.steps c.loop-place.place
      c.step-step.result c.loop-place.invariant.refuting c.step-step.ensures (sym c.contains.ensures ∙ c.if-contains.false);
  made = c.loop-place.invariant.made;
}

pub returns-clause-refuted : goal.returns-clause-refuted
returns-clause-refuted c =
    refuting_end c.args.propagator.now.clauses.items c.args.propagator.now.trail c.args.names.now c.args.first c.args.among.now c.loop-place.marks.marked c.loop-place.steps c.loop-place.place
    c.loop-place.invariant.refuting c.loop-place-test.false
