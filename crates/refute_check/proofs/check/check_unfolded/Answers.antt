use Rattle.std.proofs.Common.{rules}
use Rattle.refute_print.specs.TextView.{the_text}
use Rattle.std.proofs.lemmas.Result.{on_ok_weaker}
use Rattle.refute_check.specs.Internal.Strictly.{TextFailsBy}
use Rattle.refute_check.proofs.AcceptanceLaws.{at_its_line, if_line}
use Rattle.refute_check.proofs.StrictLaws.{unfolded_accepted_by, unfolded_fails_by, definition_fails_by}
use Rattle.refute_check.proofs.check.check_unfolded.Goals as goal

pub returns-in_err-check_definitions-clause-refused : goal.returns-in_err-check_definitions-clause-refused
returns-in_err-check_definitions-clause-refused c =
    let p = c.args.problem.now in
    let t = the_text c.args.text.now in
    let first = c.args.text.now.first in
    let refused = at_its_line c.in_err-check_definitions.field-0.0 _ (TextFailsBy c.args.strict p t first) (λ line why. definition_fails_by p t first line why c.args.strict c.requires.named) c.in_err-check_definitions.ensures.refused in
    search (rules, refused)

pub returns-clause-accepted : goal.returns-clause-accepted
returns-clause-accepted c =
    on_ok_weaker c.check_start.result (unfolded_accepted_by c.args.problem.now (the_text c.args.text.now) c.args.strict c.requires.named c.in_ok-check_definitions.ensures.named) c.check_start.ensures.accepted

pub returns-clause-refused : goal.returns-clause-refused
returns-clause-refused c =
    let p = c.args.problem.now in
    let t = the_text c.args.text.now in
    let first = c.args.text.now.first in
    if_line c.check_start.result _ (TextFailsBy c.args.strict p t first) (λ line why. unfolded_fails_by p t first line why c.args.strict c.requires.named c.in_ok-check_definitions.ensures.named) c.check_start.ensures.refused
