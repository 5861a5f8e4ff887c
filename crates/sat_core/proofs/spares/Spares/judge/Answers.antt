use Rattle.std.proofs.Common.{◌∷◌, ◌++◌, [], List, refl, sym, subst, ◌∙◌, append-nil}
use Rattle.std.specs.List.{Contains}
use Rattle.std.proofs.lemmas.Result.{on_ok_weaker}
use Rattle.sat_base.specs.declared.literal.Var.{Var}
use Rattle.sat_core.specs.Internal.Spares.{held}
use Rattle.sat_core.specs.declared.spares.Spares.{Spares}
use Rattle.sat_core.specs.declared.spares.Visit.{Visit}
use Rattle.sat_core.proofs.SparesLaws.{held_noted, held_needed, held_judged, held_started}
use Rattle.sat_core.proofs.spares.Spares.judge.Goals.{in-Known-Follows+in_ok-note_follows-in-Known-Follows, in-Known+in_ok-note_fails-in-Known, in-Needed+in_ok-push-in-Needed+in_ok-push-in-Needed-2, else-loop-test, then-loop-test+in_default}
use Rattle.sat_core.proofs.spares.Spares.judge.Goals as goal

pub loop-init : goal.loop-init
loop-init c = record {
  taken = held_started c.args.self.now.judged.items c.push.new.self.items c.clear.new.self.items (record { var = c.args.var; read = 0 }) c.in_ok-push.ensures.items;
  kept = λ v has. held_judged c.args.self.now.judged.items c.push.new.self.items v has;
}

pub loop-preserved : goal.loop-preserved
loop-preserved c =
    let judged : List Var = c.loop.self.judged.items in
    let visits : List Visit = c.loop.self.visits.items in
    let rest : List Visit = c.pop.new.self.items in
    let visit : Visit = c.in-Some.visit in
    let step : (v : Var) → Contains (held judged visits) v → Contains (held c.match-read_on.self.judged.items c.match-read_on.self.visits.items) v = λ v has. elim c.match-read_on.branch [
      | in-Known-Follows+in_ok-note_follows-in-Known-Follows w ↦
          subst (λ (s : Spares). Contains (held s.judged.items s.visits.items) v) (sym w.self-is)
          (subst (λ (list : List Visit). Contains (held w.note_follows.new.self.judged.items list) v) (sym w.in_ok-note_follows-in-Known-Follows.ensures.visits)
          (held_noted judged w.note_follows.new.self.judged.items visits rest visit c.in-Some.ensures.items w.in_ok-note_follows-in-Known-Follows.ensures.judged v has))
      | in-Known+in_ok-note_fails-in-Known w ↦
          subst (λ (s : Spares). Contains (held s.judged.items s.visits.items) v) (sym w.self-is)
          (held_judged w.note_fails.new.self.judged.items w.note_fails.new.self.visits.items v
          (w.in_ok-note_fails-in-Known.ensures v (held_noted judged (judged ++ visit.var ∷ []) visits rest visit c.in-Some.ensures.items refl v has)))
      | in-Needed+in_ok-push-in-Needed+in_ok-push-in-Needed-2 w ↦
          subst (λ (s : Spares). Contains (held s.judged.items s.visits.items) v) (sym w.self-is)
          (held_needed judged visits rest w.push-in-Needed.new.self.items w.push-in-Needed-2.new.self.items visit w.in-Needed.visit (record { var = w.in-Needed.var; read = 0 }) c.in-Some.ensures.items
          (c.read_on.ensures.same w.in-Needed.visit w.in-Needed.var w.in-Needed.is) w.in_ok-push-in-Needed.ensures.items w.in_ok-push-in-Needed-2.ensures.items v has)
    ] in
    record { taken = step c.args.var c.loop.invariant.taken; kept = λ v has. step v (c.loop.invariant.kept v has) }

pub returns-clause-kept : goal.returns-clause-kept
returns-clause-kept c =
    let ends : (v : Var) → Contains (held c.loop.self.judged.items c.loop.self.visits.items) v → Contains (held c.loop-test.self.judged.items c.loop-test.self.visits.items) v = λ v has. elim c.loop-test.branch [
      | else-loop-test w ↦ subst (λ (s : Spares). Contains (held s.judged.items s.visits.items) v) (sym w.self-is) has
      | then-loop-test+in_default w ↦
          subst (λ (s : Spares). Contains (held s.judged.items s.visits.items) v) (sym w.self-is)
          (subst (λ (list : List Visit). Contains (held c.loop.self.judged.items list) v) (w.in_default.ensures.items ∙ append-nil w.pop.new.self.items) has)
    ] in
    on_ok_weaker c.fail_rest.result (λ fails v has. fails v (ends v (c.loop.invariant.kept v has))) c.fail_rest.ensures

pub returns-clause-judged : goal.returns-clause-judged
returns-clause-judged c =
    let ends : Contains (held c.loop-test.self.judged.items c.loop-test.self.visits.items) c.args.var = elim c.loop-test.branch [
      | else-loop-test w ↦ subst (λ (s : Spares). Contains (held s.judged.items s.visits.items) c.args.var) (sym w.self-is) c.loop.invariant.taken
      | then-loop-test+in_default w ↦
          subst (λ (s : Spares). Contains (held s.judged.items s.visits.items) c.args.var) (sym w.self-is)
          (subst (λ (list : List Visit). Contains (held c.loop.self.judged.items list) c.args.var) (w.in_default.ensures.items ∙ append-nil w.pop.new.self.items) c.loop.invariant.taken)
    ] in
    on_ok_weaker c.fail_rest.result (λ fails. fails c.args.var ends) c.fail_rest.ensures
