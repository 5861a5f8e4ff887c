use Rattle.std.proofs.Common.{◌≡◌, length, inl, inr, subst, sym, arith}
use Rattle.tableau_rebuild.specs.Internal.Flags.{HasFlaggedOrigin}
use Rattle.tableau_rebuild.proofs.FlagLaws.{origin_more, origin_less}
use Rattle.tableau_rebuild.proofs.reached.instances_of.Goals as goal

pub loop-n-preserved : goal.loop-n-preserved
loop-n-preserved c = λ k.
    let t = c.args.steps.now in
    let clauses = c.args.clauses.now in
    let n = c.loop-n.n in
    let step = c.in_ok-add_instance.ensures k in
    let old = c.loop-n.invariant k in (
      λ h. elim (step.0 h) [
        | inl before ↦ origin_more t clauses n k (inl (old.0 before))
        | inr new ↦ origin_more t clauses n k (inr new)
      ],
      λ h. elim (origin_less t clauses n k h) [
        | inl before ↦ step.1 (inl (old.1 before))
        | inr new ↦ step.1 (inr new)
      ],
    )

pub returns : goal.returns
returns c = λ k.
    let t = c.args.steps.now in
    let clauses = c.args.clauses.now in
    let below = c.loop-n-test.false in
    let above = c.loop-n.auto.n-end in
    let all : c.loop-n.n ≡ length clauses = omega (arith, below, above) in
    let old = c.loop-n.invariant k in
    (λ h. subst (λ m. HasFlaggedOrigin t clauses m k) all (old.0 h), λ h. old.1 (subst (λ m. HasFlaggedOrigin t clauses m k) (sym all) h))
