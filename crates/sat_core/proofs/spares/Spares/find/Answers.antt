use Rattle.std.proofs.Common.{◌≡◌, inl, inr, ℕ, List, length, get_or, sym, ap, subst, ◌∙◌, arith}
use Rattle.std.specs.Bool.{IsTrue}
use Rattle.std.specs.List.{Contains, slice_get}
use Rattle.std.proofs.lemmas.Bool.{cases_lt, false≢true, true≢false}
use Rattle.std.proofs.lemmas.Option.{slice_get_within, get_or_from_slice_get}
use Rattle.sat_base.specs.declared.literal.Var.{Var}
use Rattle.sat_core.specs.declared.spares.Spares.{Spares}
use Rattle.sat_core.specs.Internal.Marks.{is_marked}
use Rattle.sat_core.specs.Internal.Spares.{StandsBefore}
use Rattle.sat_core.specs.Internal.Sides.{met_ones}
use Rattle.sat_core.proofs.SparesLaws.{not_before}
use Rattle.sat_core.proofs.spares.Spares.find.Goals.{in-Some, in-None, then-is_before+then-contains+in_ok-judge, else-is_before, else-is_before-via-then-is_before+else-contains, else-is_before-via-else-is_before}
use Rattle.sat_core.proofs.spares.Spares.find.Goals as goal

pub loop-var-preserved : goal.loop-var-preserved
loop-var-preserved c =
    let met = c.met-var-items.result.now in
    let item : Var = get_or met c.loop-var.var-index (record { 0 = 0 }) in
    let kept : (v : Var) → Contains c.loop-var.self.judged.items v → Contains c.if-is_before.self.judged.items v = λ v has. elim c.if-is_before.branch [
      | then-is_before+then-contains+in_ok-judge w ↦ subst (λ (s : Spares). Contains s.judged.items v) (sym w.self-is) (w.in_ok-judge.ensures.kept v has)
      | else-is_before w ↦ subst (λ (s : Spares). Contains s.judged.items v) (sym w.self-is) has
    ] in
    let last : IsTrue (is_marked c.args.marks.now.marked item) → StandsBefore c.args.propagator.now.trail c.args.start item → Contains c.if-is_before.self.judged.items item = λ marked stands. elim c.if-is_before.branch [
      | then-is_before+then-contains+in_ok-judge w ↦ subst (λ (s : Spares). Contains s.judged.items item) (sym w.self-is) w.in_ok-judge.ensures.judged
      | else-is_before w ↦ elim w.else-is_before.branch [
        | else-is_before-via-then-is_before+else-contains x ↦ absurd (true≢false (sym marked ∙ sym x.contains.ensures ∙ x.if-contains.false))
        | else-is_before-via-else-is_before x ↦ elim c.match-find.branch [
          | in-Some y ↦ absurd (not_before c.args.propagator.now.trail c.args.start item y.in-Some.place c.match-find.is_before y.in-Some.ensures.some y.is_before-is x.if-is_before.false stands)
          | in-None y ↦ absurd (false≢true (sym y.in-None.ensures.none ∙ stands.on_trail))
        ]
      ]
    ] in
    record {
      so_far = λ k v below at marked stands. elim (cases_lt k c.loop-var.var-index) [
        | inl less ↦ kept v (c.loop-var.invariant.so_far k v less at marked stands)
        | inr more ↦
            let same : k ≡ c.loop-var.var-index = omega (arith, below, more) in
            let is : item ≡ v = ap (λ (n : ℕ). get_or met n (record { 0 = 0 })) (sym same) ∙ get_or_from_slice_get met k v (record { 0 = 0 }) at in
            subst (λ (w : Var). IsTrue (is_marked c.args.marks.now.marked w) → StandsBefore c.args.propagator.now.trail c.args.start w → Contains c.if-is_before.self.judged.items w) is last marked stands
      ];
    }

pub returns-clause-judged : goal.returns-clause-judged
returns-clause-judged c = λ k v at marked stands.
    let inside = slice_get_within (met_ones c.args.marks.now) k v at in
    c.loop-var.invariant.so_far k v
    (omega (arith, inside, ap (λ (list : List Var). length list) c.met-var-items.ensures, c.loop-var-test.false))
    (ap (λ (list : List Var). slice_get list k) c.met-var-items.ensures ∙ at) marked stands
