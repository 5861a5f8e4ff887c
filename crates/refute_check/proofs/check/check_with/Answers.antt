use Rattle.std.proofs.Common.{subst, ◌∙◌}
use Rattle.stt_core.specs.Typing.{Scope}
use Rattle.tableau_calculus.specs.Start.{start}
use Rattle.problem_start.specs.Unfolds.{unfolded_if}
use Rattle.refute_print.specs.TextView.{the_text}
use Rattle.refute_check.specs.Numbered.{numbered_refutation}
use Rattle.refute_check.specs.Internal.Strictly.{IsAcceptedBy, FirstFailureBy}
use Rattle.refute_check.specs.Internal.Shared.{declared_in}
use Rattle.refute_check.proofs.CheckLaws.{if_place, if_ok}
use Rattle.refute_check.proofs.SharedLaws.{extends_declared, extends_rows}
use Rattle.refute_check.proofs.check.check_with.Goals as goal

pub check_from-requires-clause-none : goal.check_from-requires-clause-none
check_from-requires-clause-none c = extends_rows c.args.shared.now c.start.new.self c.in_ok-start.ensures.extends c.requires.good ∙ c.requires.none

pub returns-clause-accepted : goal.returns-clause-accepted
returns-clause-accepted c =
    let begin = start (unfolded_if c.args.unfolds c.args.problem.now) in
    let r = numbered_refutation c.args.numbering.now (the_text c.args.text.now) in
    let same = extends_declared c.args.shared.now c.start.new.self c.in_ok-start.ensures.extends in
    if_ok c.check_from.result
    (λ h. subst (λ (x : Scope). IsAcceptedBy c.args.strict x begin r) same (h begin c.in_ok-start.ensures.set c.in_ok-start.ensures.numbered))
    c.check_from.ensures.accepted

pub returns-clause-refused : goal.returns-clause-refused
returns-clause-refused c =
    let begin = start (unfolded_if c.args.unfolds c.args.problem.now) in
    let r = numbered_refutation c.args.numbering.now (the_text c.args.text.now) in
    let same = extends_declared c.args.shared.now c.start.new.self c.in_ok-start.ensures.extends in
    if_place c.check_from.result _ (FirstFailureBy c.args.strict (declared_in c.args.shared.now) begin r)
    (λ place why h. subst (λ (x : Scope). FirstFailureBy c.args.strict x begin r place why) same (h begin c.in_ok-start.ensures.set c.in_ok-start.ensures.numbered))
    c.check_from.ensures.refused
