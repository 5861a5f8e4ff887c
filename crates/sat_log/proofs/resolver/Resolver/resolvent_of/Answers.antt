use Rattle.std.proofs.Common.{◌++◌, sym, ap, subst, ◌∙◌}
use Rattle.sat_base.specs.Literal.{positive, negative}
use Rattle.sat_log.specs.Resolution.{without_literal, each_once, HasNoRepeats}
use Rattle.sat_log.proofs.ResolutionLaws.{without-without_repeats, without_repeats-append_left, without_repeats-without_repeats}
use Rattle.sat_log.proofs.resolver.Resolver.resolvent_of.Goals as goal

pub append_others-requires : goal.append_others-requires
append_others-requires c =
    let same = c.remove.ensures ∙ ap (without_literal (positive c.args.var)) c.in_ok-start.ensures.ok ∙ without-without_repeats (positive c.args.var) c.args.first.now in
    subst HasNoRepeats (sym same) (without_repeats-without_repeats (without_literal (positive c.args.var) c.args.first.now))

pub returns-clause-resolvent : goal.returns-clause-resolvent
returns-clause-resolvent c =
    let same = c.remove.ensures ∙ ap (without_literal (positive c.args.var)) c.in_ok-start.ensures.ok ∙ without-without_repeats (positive c.args.var) c.args.first.now in
    c.in_ok-clause.ensures
    ∙ c.in_ok-append_others.ensures.ok
    ∙ ap (λ l. each_once (c.remove.new.self ++ without_literal l c.args.second.now)) c.negated.ensures
    ∙ ap (λ k. each_once (k ++ without_literal (negative c.args.var) c.args.second.now)) same
    ∙ without_repeats-append_left (without_literal (positive c.args.var) c.args.first.now) (without_literal (negative c.args.var) c.args.second.now)
