use Rattle.std.proofs.Common.{List, rules, subst}
use Rattle.stt_core.specs.Typing.{Scope}
use Rattle.tableau_calculus.specs.Literals.{Literal}
use Rattle.refute_print.specs.TextView.{the_text}
use Rattle.refute_check.specs.Numbered.{numbered_refutation}
use Rattle.refute_check.specs.Internal.Branches.{Represents, AreNumberedBranch}
use Rattle.refute_check.specs.Internal.Lines.{AreRightIn}
use Rattle.refute_check.specs.Internal.Strictly.{FirstFailureBy}
use Rattle.refute_check.specs.Internal.Shared.{declared_in, shared_atoms}
use Rattle.refute_check.proofs.BranchLaws.{grow-more, represents-grow}
use Rattle.refute_check.proofs.CheckLaws.{at_place, at_both, if_place, if_ok}
use Rattle.refute_check.proofs.StrictLaws.{row_by, last_by}
use Rattle.refute_check.proofs.check.check_from.Goals as goal

pub returns-in_err-check_rows-clause-refused : goal.returns-in_err-check_rows-clause-refused
returns-in_err-check_rows-clause-refused c =
    let s = c.args.shared.now in
    let r = numbered_refutation c.args.numbering.now (the_text c.args.text.now) in
    let refused = at_both c.in_err-check_rows.field-0.0 _ _ (λ place why. (ls : List Literal) → Represents (shared_atoms s) ls c.args.start.now → AreNumberedBranch (shared_atoms s) ls → FirstFailureBy c.args.strict (declared_in s) ls r place why)
    (λ place why h below ls _ _. row_by (declared_in s) ls r c.args.strict place why (h ls) below) c.in_err-check_rows.ensures.refused c.in_err-check_rows.ensures.row in
    search (rules, refused)

pub returns-in_err-lines-clause-refused : goal.returns-in_err-lines-clause-refused
returns-in_err-lines-clause-refused c =
    let s = c.args.shared.now in
    let r = numbered_refutation c.args.numbering.now (the_text c.args.text.now) in
    let refused = at_place c.in_err-lines.field-0.0 _ (λ place why. (ls : List Literal) → Represents (shared_atoms s) ls c.args.start.now → AreNumberedBranch (shared_atoms s) ls → FirstFailureBy c.args.strict (declared_in s) ls r place why)
    (λ place why h ls _ _. subst (λ (x : Scope). FirstFailureBy c.args.strict x ls r place why) c.in_ok-check_rows.ensures.declared (h ls)) c.in_err-lines.ensures.refused in
    search (rules, refused)

pub returns-clause-accepted : goal.returns-clause-accepted
returns-clause-accepted c =
    let s = c.args.shared.now in
    let now = c.check_rows.new.shared in
    let new = c.check_lines.new.shared in
    let r = numbered_refutation c.args.numbering.now (the_text c.args.text.now) in
    if_ok c.check_last.result
    (λ h ls represents numbered. record {
      accepted = record {
        table = c.in_ok-check_rows.ensures.table;
        lines = subst (λ (x : Scope). AreRightIn x r) c.in_ok-check_rows.ensures.declared c.in_ok-lines.ensures.right;
        last = h (shared_atoms new) ls c.in_ok-lines.ensures.branches (represents-grow (shared_atoms s) (shared_atoms new) ls c.args.start.now (grow-more (shared_atoms s) (shared_atoms now) (shared_atoms new) c.in_ok-check_rows.ensures.atoms c.in_ok-lines.ensures.atoms) numbered represents);
      };
      no_cut = c.in_ok-lines.ensures.no_cut;
    })
    c.check_last.ensures.last

pub returns-clause-refused : goal.returns-clause-refused
returns-clause-refused c =
    let s = c.args.shared.now in
    let now = c.check_rows.new.shared in
    let new = c.check_lines.new.shared in
    let r = numbered_refutation c.args.numbering.now (the_text c.args.text.now) in
    if_place c.check_last.result _ (λ place why. (ls : List Literal) → Represents (shared_atoms s) ls c.args.start.now → AreNumberedBranch (shared_atoms s) ls → FirstFailureBy c.args.strict (declared_in s) ls r place why)
    (λ place why h ls represents numbered.
    last_by (declared_in s) ls r c.args.strict c.in_ok-lines.ensures.no_cut place why (h (shared_atoms new) ls c.in_ok-lines.ensures.branches (represents-grow (shared_atoms s) (shared_atoms new) ls c.args.start.now (grow-more (shared_atoms s) (shared_atoms now) (shared_atoms new) c.in_ok-check_rows.ensures.atoms c.in_ok-lines.ensures.atoms) numbered represents)
    (declared_in s) c.in_ok-check_rows.ensures.table (subst (λ (x : Scope). AreRightIn x r) c.in_ok-check_rows.ensures.declared c.in_ok-lines.ensures.right)))
    c.check_last.ensures.refused
