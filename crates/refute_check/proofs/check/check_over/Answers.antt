use Rattle.std.proofs.Common.{[], subst}
use Rattle.stt_core.specs.Typing.{Scope}
use Rattle.stt_core.specs.ScopeView.{the_scope}
use Rattle.tableau_calculus.specs.Start.{start}
use Rattle.problem_start.specs.Unfolds.{unfolded_if}
use Rattle.refute_print.specs.TextView.{the_text}
use Rattle.refute_print.specs.Named.{Names, names_of}
use Rattle.refute_check.specs.Numbered.{numbered_refutation}
use Rattle.refute_check.specs.Internal.Strictly.{IsAcceptedBy, FirstFailureBy}
use Rattle.refute_check.proofs.CheckLaws.{if_place, if_ok}
use Rattle.refute_check.proofs.check.check_over.Goals as goal

pub returns-clause-accepted : goal.returns-clause-accepted
returns-clause-accepted c =
    let begin = start (unfolded_if c.args.unfolds c.args.problem.now) in
    let t = the_text c.args.text.now in
    let names = c.in_ok-numbering.numbering in
    if_ok c.check_with-checked.result
    (λ h. subst (λ (n : Names). IsAcceptedBy c.args.strict (the_scope c.args.sig.now []) begin (numbered_refutation n t)) c.in_ok-numbering.ensures
    (subst (λ (x : Scope). IsAcceptedBy c.args.strict x begin (numbered_refutation names t)) c.in_ok-shared.ensures.declared h))
    c.check_with-checked.ensures.accepted

pub returns-clause-refused : goal.returns-clause-refused
returns-clause-refused c =
    let begin = start (unfolded_if c.args.unfolds c.args.problem.now) in
    let t = the_text c.args.text.now in
    let names = c.in_ok-numbering.numbering in
    if_place c.check_with-checked.result _ (FirstFailureBy c.args.strict (the_scope c.args.sig.now []) begin (numbered_refutation (names_of c.args.sig.now.bases c.args.sig.now.consts) t))
    (λ place why h. subst (λ (n : Names). FirstFailureBy c.args.strict (the_scope c.args.sig.now []) begin (numbered_refutation n t) place why) c.in_ok-numbering.ensures
    (subst (λ (x : Scope). FirstFailureBy c.args.strict x begin (numbered_refutation names t) place why) c.in_ok-shared.ensures.declared h))
    c.check_with-checked.ensures.refused
