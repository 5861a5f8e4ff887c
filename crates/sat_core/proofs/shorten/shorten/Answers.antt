use Rattle.std.proofs.Common.{◌≡◌, ◌&&◌, ◌||◌, not, Bool, List, Some, length, sym, ap, subst, ◌∙◌, arith}
use Rattle.std.proofs.lemmas.Option.{slice_get_within}
use Rattle.sat_base.specs.declared.literal.SatLit.{SatLit}
use Rattle.sat_base.specs.Literal.{holds, mentions_variable, same_var, IsOver}
use Rattle.sat_log.specs.declared.chain.ChainStep.{ChainStep}
use Rattle.sat_core.specs.Internal.Marks.{is_marked, others}
use Rattle.sat_core.specs.Internal.Learned.{IsShortening}
use Rattle.sat_core.proofs.AnalysisSteps.{over_more, reason_valued}
use Rattle.sat_core.proofs.ShortenSteps.{shortening_next}
use Rattle.sat_core.proofs.shorten.shorten.Goals as goal

pub literals-literals-requires : goal.literals-literals-requires
literals-literals-requires c =
    let reason = (c.requires.right.reasoned c.args.place c.step-step.result c.step-step.ensures).forced c.in-Some.reason c.in-Some.is in
    slice_get_within c.args.propagator.now.clauses.items c.in-Some.reason reason.0 reason.1

pub name_of-requires : goal.name_of-requires
name_of-requires c =
    let reason = (c.requires.right.reasoned c.args.place c.step-step.result c.step-step.ensures).forced c.in-Some.reason c.in-Some.is in
    let inside = slice_get_within c.args.propagator.now.clauses.items c.in-Some.reason reason.0 reason.1 in
    omega (arith, c.requires.named)

pub mark_others-requires-clause-valued : goal.mark_others-requires-clause-valued
mark_others-requires-clause-valued c =
    let reason = (c.requires.right.reasoned c.args.place c.step-step.result c.step-step.ensures).forced c.in-Some.reason c.in-Some.is in
    let read : c.literals-literals.result.now ≡ reason.0.clause = c.literals-literals.ensures reason.0 reason.1 in
    λ l h. reason_valued c.args.propagator.now.trail c.args.place c.step-step.result reason.0.clause c.step-step.ensures reason.2 l (ap (λ (some : List SatLit). holds some l) (sym read) ∙ h)

pub mark_others-requires-clause-made : goal.mark_others-requires-clause-made
mark_others-requires-clause-made c =
    let reason = (c.requires.right.reasoned c.args.place c.step-step.result c.step-step.ensures).forced c.in-Some.reason c.in-Some.is in
    let read : c.literals-literals.result.now ≡ reason.0.clause = c.literals-literals.ensures reason.0 reason.1 in
    subst (λ (some : List SatLit). IsOver (length c.unmark.new.self.marked) some) (sym read)
    (over_more (length c.args.propagator.now.trail.phases) (length c.unmark.new.self.marked) reason.0.clause (omega (arith, c.unmark.ensures.made, c.requires.made)) (c.requires.right.over c.in-Some.reason reason.0 reason.1))

pub returns-in_ok-push-clause-shortening : goal.returns-in_ok-push-clause-shortening
returns-in_ok-push-clause-shortening c =
    let clauses = c.args.propagator.now.clauses.items in
    let trail = c.args.propagator.now.trail in
    let reason = (c.requires.right.reasoned c.args.place c.step-step.result c.step-step.ensures).forced c.in-Some.reason c.in-Some.is in
    let read : c.literals-literals.result.now ≡ reason.0.clause = c.literals-literals.ensures reason.0 reason.1 in
    let t : SatLit = c.step-step.result.literal in
    subst (λ (steps : List ChainStep). IsShortening clauses trail c.args.names.now c.mark_others.new.marks.marked c.args.start (record { first = c.args.chain.now.first; steps = steps })) (sym c.in_ok-push.ensures.ok)
    (shortening_next clauses trail c.args.names.now c.args.marks.now.marked c.mark_others.new.marks.marked c.args.start c.args.place c.in-Some.reason c.args.chain.now c.step-step.result reason.0 c.name_of.result
    c.requires.shortening c.len.ensures.right (omega (arith, c.if-start-place.false)) c.step-step.ensures (sym c.contains.ensures ∙ c.if-contains.true)
    reason.1 reason.2 c.name_of.ensures
    (λ v. c.in_ok-_late.ensures.marks v
    ∙ ap (λ (b : Bool). b || mentions_variable (others (Some t) c.literals-literals.result.now) v) (c.unmark.ensures.marks v)
    ∙ ap (λ (some : List SatLit). (is_marked c.args.marks.now.marked v && not (same_var v t.var)) || mentions_variable (others (Some t) some) v) read))
