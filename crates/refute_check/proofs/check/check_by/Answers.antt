use Rattle.std.proofs.Common.{sym, ◌∙◌}
use Rattle.refute_print.specs.TextView.{the_text}
use Rattle.std.proofs.lemmas.Result.{on_ok_weaker}
use Rattle.refute_check.specs.Internal.Strictly.{TextFailsBy}
use Rattle.refute_check.proofs.AcceptanceLaws.{if_line}
use Rattle.refute_check.proofs.StrictLaws.{plain_accepted_by, plain_fails_by, fails_not_by}
use Rattle.refute_check.proofs.check.check_by.Goals as goal

pub returns-then-len-eq0-clause-accepted : goal.returns-then-len-eq0-clause-accepted
returns-then-len-eq0-clause-accepted c =
    on_ok_weaker c.check_start.result (plain_accepted_by c.args.problem.now (the_text c.args.text.now) c.args.strict (sym c.len.ensures ∙ c.if-len-eq0.true)) c.check_start.ensures.accepted

pub returns-then-len-eq0-clause-refused : goal.returns-then-len-eq0-clause-refused
returns-then-len-eq0-clause-refused c =
    let p = c.args.problem.now in
    let t = the_text c.args.text.now in
    let first = c.args.text.now.first in
    if_line c.check_start.result _ (TextFailsBy c.args.strict p t first) (λ line why. plain_fails_by p t first line why c.args.strict (sym c.len.ensures ∙ c.if-len-eq0.true)) c.check_start.ensures.refused

pub returns-then-len-eq0-clause-refused_only : goal.returns-then-len-eq0-clause-refused_only
returns-then-len-eq0-clause-refused_only c =
    let p = c.args.problem.now in
    let t = the_text c.args.text.now in
    let first = c.args.text.now.first in
    if_line c.check_start.result (TextFailsBy c.args.strict p t first) _ (λ line why. fails_not_by p t c.args.strict first line why) (returns-then-len-eq0-clause-refused c)

pub returns-else-len-eq0-clause-refused_only : goal.returns-else-len-eq0-clause-refused_only
returns-else-len-eq0-clause-refused_only c =
    let p = c.args.problem.now in
    let t = the_text c.args.text.now in
    let first = c.args.text.now.first in
    if_line c.check_unfolded.result (TextFailsBy c.args.strict p t first) _ (λ line why. fails_not_by p t c.args.strict first line why) c.check_unfolded.ensures.refused
