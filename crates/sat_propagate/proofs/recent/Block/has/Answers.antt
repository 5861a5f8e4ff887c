use Rattle.std.proofs.Common.{◌≡◌, inl, inr, ℕ, get_or, subst, arith}
use Rattle.std.specs.Int.Bits.{bit_and}
use Rattle.std.proofs.lemmas.Bool.{cases_lt}
use Rattle.sat_propagate.proofs.RecentLaws.{top_kept, top_new}
use Rattle.sat_propagate.proofs.recent.Block.has.Goals as goal

pub loop-absent-preserved : goal.loop-absent-preserved
loop-absent-preserved c = λ j within none.
    elim (cases_lt j c.loop-absent.absent-index) [
      | inl less ↦ top_kept c.loop-absent.tops _ (c.loop-absent.invariant j less none)
      | inr least ↦
          let last : j ≡ c.loop-absent.absent-index = omega (arith, within, least) in
          top_new c.loop-absent.tops _ (subst (λ (k : ℕ). bit_and c.args.bits (get_or c.args.self.now.absent k 0) ≡ 0) last none)
    ]
