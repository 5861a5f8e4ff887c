use Rattle.std.proofs.Common.{inl, inr, sym, subst, ◌∙◌}
use Rattle.sat_base.specs.declared.literal.SatLit.{SatLit}
use Rattle.sat_propagate.proofs.ListLaws.{held_more, no_literal}
use Rattle.sat_core.specs.Internal.Uses.{IsUse}
use Rattle.sat_core.proofs.keeper.list.Goals as goal

pub returns-in_err-push-clause-before : goal.returns-in_err-push-clause-before
returns-in_err-push-clause-before c = λ v k h. c.push.ensures.kept v k (c.loop-literal.invariant.before v k h)

pub loop-literal-preserved : goal.loop-literal-preserved
loop-literal-preserved c =
    let kept = c.push.ensures.kept in
    record {
      made = c.push.ensures.made ∙ c.loop-literal.invariant.made;
      before = λ v k h. kept v k (c.loop-literal.invariant.before v k h);
      listed = λ l h. elim (held_more c.args.among.now c.loop-literal.literal-index no_literal l c.loop-literal-test.true h) [
        | inl before ↦ kept l.var c.args.n (c.loop-literal.invariant.listed l before)
        | inr same ↦ subst (λ (m : SatLit). IsUse c.push.new.self m.var c.args.n) (sym same) c.in_ok-push.ensures.there
      ];
    }
