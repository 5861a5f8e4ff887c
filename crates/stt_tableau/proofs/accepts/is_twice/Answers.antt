use Rattle.std.proofs.Common.{◌≡◌, refl, subst, sym, ap, ◌∙◌, take, arith}
use Rattle.tableau_calculus.proofs.ListLaws.{untrue, Each, each-more}
use Rattle.tableau_calculus.proofs.FailureLaws.{contains_map}
use Rattle.stt_tableau.proofs.accepts.is_twice.Goals as goal

pub loop-j-preserved : goal.loop-j-preserved
loop-j-preserved c =
    each-more (λ q. q.predicate ≡ c.args.row.now.predicate → ⊥) c.args.rows.now c.loop-j.j c.at.result.now c.at.ensures c.loop-j.invariant
    (λ same. untrue (c.same_nf.ensures.1 (ap (λ r. r.predicate) c.behind-rows.view_is ∙ same ∙ sym (ap (λ r. r.predicate) c.row.view_is))) c.if-same_nf.false)

pub returns : goal.returns
returns c =
    let all : c.loop-j.j ≡ c.args.count = omega (arith, c.loop-j-test.false, c.loop-j.auto.j-end) in
    let none = subst (λ n. Each (λ q. q.predicate ≡ c.args.row.now.predicate → ⊥) (take n c.args.rows.now)) all c.loop-j.invariant in
    let found = contains_map (λ q. q.predicate) (take c.args.count c.args.rows.now) c.args.row.now.predicate in
    (λ h. absurd (untrue h refl), λ h. let q = found h in absurd (none q.0 q.1 q.2))
