use Rattle.std.proofs.Common.{None, subst, sym, ap, ◌∙◌}
use Rattle.mode_file.specs.Given.{nothing_given, mode_of}
use Rattle.szs_report.specs.Report.{report_of}
use Rattle.cli_words.specs.declared.Cuts.TheVariants.{Allowed}
use Rattle.request_answers.specs.Checked.{IsAcceptedText}
use Rattle.request_answers.specs.Solved.{IsSolved}
use Rattle.request_answers.proofs.ReportHolds.{report_accepted}
use Rattle.request_answers.proofs.demo.checked.Goals as goal

pub unreachable-requires : goal.unreachable-requires
unreachable-requires c =
    let p = c.args.problem.now in
    let name = c.args.name.now in
    let m = mode_of nothing_given in
    c.in_ok-is_accepted.ensures.refused c.if-branch.false
    (subst (IsAcceptedText Allowed p) (sym (c.as_slice.ensures ∙ c.in_ok-bytes.ensures ∙ ap (report_of name) c.in-Proved.is))
    (report_accepted None m p c.in-Proved.claim c.in-Proved.commands c.in-Proved.mode c.in-Proved.tree c.in-Proved.text name c.requires.named (subst (IsSolved None m p) c.in-Proved.is c.requires.solved)))
