use Rattle.std.proofs.Common.{◌≡◌, ◌+◌, ◌∷◌, [], length, length-append, sym, ap, subst, arith}
use Rattle.prover_state.specs.Internal.HeadTypes.{IsBaseHeads, AreBaseHeads}
use Rattle.prover_state.proofs.HeadTypeLaws.{base-heads-last}
use Rattle.prover_state.proofs.head_types.first_bases.Goals as goal

pub loop-n-preserved : goal.loop-n-preserved
loop-n-preserved c =
    let before = c.loop-n.bases.items in
    let h = c.in_ok-new.field-0 in
    let inv = c.loop-n.invariant in
    let place : c.loop-n.n ≡ 0 + length before = omega (arith, inv.many) in
    record {
      many = omega (arith, ap length c.in_ok-push.ensures.items, length-append before (h ∷ []), inv.many);
      right = subst (AreBaseHeads 0) (sym c.in_ok-push.ensures.items) (base-heads-last 0 before h inv.right (subst (λ m. IsBaseHeads m h) place c.in_ok-new.ensures));
    }
