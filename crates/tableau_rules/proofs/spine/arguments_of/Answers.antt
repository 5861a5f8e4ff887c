use Rattle.std.proofs.Common.{arith}
use Rattle.tableau_calculus.proofs.ListLaws.{untrue}
use Rattle.term_bank.specs.Terms.{term_at}
use Rattle.tableau_rules.proofs.SpineLaws.{compared-no_left, compared-no_right, compared-head, compared-heads}
use Rattle.tableau_rules.proofs.spine.arguments_of.Goals.{then-len-eq0-via-then-len-eq0, then-len-eq0-via-else-len-eq0+then-len-eq0-2, then-not-is_compared-via-then-not-is_compared, then-not-is_compared-via-else-not-is_compared+then-not-same}
use Rattle.tableau_rules.proofs.spine.arguments_of.Goals as goal

pub returns-then-len-eq0 : goal.returns-then-len-eq0
returns-then-len-eq0 c =
    let b = c.args.bank.now in
    elim c.then-len-eq0.branch [
      | then-len-eq0-via-then-len-eq0 w ↦ compared-no_left b (term_at b.terms c.args.s) (term_at b.terms c.args.t) c.in-Some.left c.in-Some-spine_of.right c.in-Some.ensures c.in-Some-spine_of.ensures (omega (arith, c.len.ensures, w.if-len-eq0.true))
      | then-len-eq0-via-else-len-eq0+then-len-eq0-2 w ↦ compared-no_right b (term_at b.terms c.args.s) (term_at b.terms c.args.t) c.in-Some.left c.in-Some-spine_of.right c.in-Some.ensures c.in-Some-spine_of.ensures (omega (arith, w.len-else-len-eq0.ensures, w.if-len-eq0-2.true))
    ]

pub returns-then-not-is_compared : goal.returns-then-not-is_compared
returns-then-not-is_compared c =
    let b = c.args.bank.now in
    elim c.then-not-is_compared.branch [
      | then-not-is_compared-via-then-not-is_compared w ↦ compared-head b (term_at b.terms c.args.s) (term_at b.terms c.args.t) c.in-Some.left c.in-Some-spine_of.right c.in-Some.ensures c.in-Some-spine_of.ensures (λ h. untrue (c.is_compared.ensures.1 h) w.if-not-is_compared.true)
      | then-not-is_compared-via-else-not-is_compared+then-not-same w ↦ compared-heads b (term_at b.terms c.args.s) (term_at b.terms c.args.t) c.in-Some.left c.in-Some-spine_of.right c.in-Some.ensures c.in-Some-spine_of.ensures (λ e. untrue (w.same.ensures.1 e) w.if-not-same.true)
    ]
