use Rattle.std.proofs.Common.{◌+◌, ℕ, drop, slice_get, nat_eq, sym, ap, ap₂, ◌∙◌, arith, eq-eqb}
use Rattle.std.proofs.lemmas.Bool.{ne_eqb}
use Rattle.search_spec.specs.Heads.{places_to}
use Rattle.prover_state.proofs.FittingLaws.{variable-here, variable-next, variable-later, none-behind}
use Rattle.prover_state.proofs.cells.Cell.variable.Goals.{then-target_at-base+else-left-eq0, else-target_at-base}
use Rattle.prover_state.proofs.cells.Cell.variable.Goals as goal

pub returns-then-left-eq0 : goal.returns-then-left-eq0
returns-then-left-eq0 c =
    let h = c.args.self.now.0 in
    let found = c.target_at.ensures in
    let n = c.target_at.result in
    let m = c.base-base.result in
    let e = ap₂ nat_eq found.1.1 c.base-base.ensures in
    sym c.loop-i.invariant ∙ variable-here h.base c.loop-i.i h.context found.0 found.1.0 (nat_eq n m) e c.loop-i.left (eq-eqb n m c.if-target_at-base.true) c.if-left-eq0.true

pub loop-i-preserved : goal.loop-i-preserved
loop-i-preserved c =
    let h = c.args.self.now.0 in
    let found = c.target_at.ensures in
    let n = c.target_at.result in
    let m = c.base-base.result in
    let e = ap₂ nat_eq found.1.1 c.base-base.ensures in
    let at = λ (k : ℕ). slice_get (places_to h.base (c.loop-i.i + 1) (drop (c.loop-i.i + 1) h.context)) k in
    elim c.if-target_at-base.branch [
      | then-target_at-base+else-left-eq0 w ↦
          ap at w.left-is ∙ variable-next h.base c.loop-i.i h.context found.0 found.1.0 (nat_eq n m) e c.loop-i.left (eq-eqb n m w.if-target_at-base.true) w.if-left-eq0.false ∙ c.loop-i.invariant
      | else-target_at-base w ↦
          ap at w.left-is ∙ variable-later h.base c.loop-i.i h.context found.0 found.1.0 (nat_eq n m) e c.loop-i.left (ne_eqb n m w.if-target_at-base.false) ∙ c.loop-i.invariant
    ]

pub unreachable-requires : goal.unreachable-requires
unreachable-requires c =
    let h = c.args.self.now.0 in
    none-behind h.base c.loop-i.i c.loop-i.left c.args.place h.context (omega (arith, c.loop-i-test.false, c.len-i-end.ensures)) c.loop-i.invariant c.requires
