use Rattle.std.proofs.Common.{◌++◌, [], ◌∷◌, None, Some, IfSome, is_some, true≢false, ap, sym, subst}
use Rattle.std.proofs.lemmas.Result.{IfOk-from_err}
use Rattle.tableau_calculus.proofs.ListLaws.{untrue}
use Rattle.refute_print.specs.TextView.{the_line}
use Rattle.refute_check.specs.Numbered.{numbered_line}
use Rattle.refute_check.specs.Internal.Branches.{branch_has, line_has, Represents, AreNumberedBranch, AreBranches}
use Rattle.refute_check.specs.Internal.Shared.{shared_scope, shared_atoms, the_rows, IsGoodShared, ExtendsShared, NumbersBranch}
use Rattle.refute_check.specs.Internal.Taking.{Takes, FindsUse, alternatives_in}
use Rattle.refute_check.proofs.BranchLaws.{represents-same, branches-append}
use Rattle.refute_check.proofs.SharedLaws.{extends_on, extends_numbers}
use Rattle.refute_check.proofs.SeenLaws.{seen_stays}
use Rattle.refute_check.proofs.LineAnswers.{no_use_typed, line_typed, finds_first, branches_extended}
use Rattle.refute_check.proofs.lines.RightLines.add.Goals as goal

pub returns-in-Missing-clause-answer : goal.returns-in-Missing-clause-answer
returns-in-Missing-clause-answer c = λ earlier are.
    let s0 = c.args.shared.now in
    let s1 = c.branch-shared.new.self in
    let s2 = c.taking.new.self in
    let names = c.args.numbering.now in
    let line = numbered_line names (the_line c.args.line.now) in
    let e = c.in_ok-branch.ensures.extends in
    let f = c.in_ok-by.ensures.extends in
    let numbered = subst (NumbersBranch s1 line.branch) c.in-Some.is c.in_ok-branch.ensures.branch in
    let takes = c.in_ok-by.ensures.takes line.branch numbered.1 in
    let missing = subst (Takes s2 line.branch line.rule) c.in-Missing.is takes in
    (line_typed s0 s1 s2 c.requires.good e f line numbered.0 missing.0, λ alternatives. missing.1 (shared_scope s0) (the_rows s0) alternatives)

pub returns-in-Untyped-clause-answer : goal.returns-in-Untyped-clause-answer
returns-in-Untyped-clause-answer c = λ earlier are.
    let s0 = c.args.shared.now in
    let s1 = c.branch-shared.new.self in
    let s2 = c.taking.new.self in
    let names = c.args.numbering.now in
    let line = numbered_line names (the_line c.args.line.now) in
    let e = c.in_ok-branch.ensures.extends in
    let f = c.in_ok-by.ensures.extends in
    let numbered = subst (NumbersBranch s1 line.branch) c.in-Some.is c.in_ok-branch.ensures.branch in
    let takes = c.in_ok-by.ensures.takes line.branch numbered.1 in
    no_use_typed s0 s1 s2 c.requires.good e f line (subst (Takes s2 line.branch line.rule) c.in-Untyped.is takes)

pub instance-requires-clause-taken : goal.instance-requires-clause-taken
instance-requires-clause-taken c =
    let s1 = c.branch-shared.new.self in
    let s2 = c.taking.new.self in
    let names = c.args.numbering.now in
    let line = numbered_line names (the_line c.args.line.now) in
    let numbered = subst (NumbersBranch s1 line.branch) c.in-Some.is c.in_ok-branch.ensures.branch in
    let takes = c.in_ok-by.ensures.takes line.branch numbered.1 in
    (line.branch, line.rule, (subst (Takes s2 line.branch line.rule) c.in-By.is takes).1)

pub returns-in_default-2-clause-answer : goal.returns-in_default-2-clause-answer
returns-in_default-2-clause-answer c = λ earlier are.
    let s0 = c.args.shared.now in
    let s1 = c.branch-shared.new.self in
    let s2 = c.taking.new.self in
    let names = c.args.numbering.now in
    let line = numbered_line names (the_line c.args.line.now) in
    let e = c.in_ok-branch.ensures.extends in
    let f = c.in_ok-by.ensures.extends in
    let numbered = subst (NumbersBranch s1 line.branch) c.in-Some.is c.in_ok-branch.ensures.branch in
    let takes = c.in_ok-by.ensures.takes line.branch numbered.1 in
    let s3 = c.instance.new.self in
    let taken = subst (Takes s2 line.branch line.rule) c.in-By.is takes in
    let typed = line_typed s0 s1 s2 c.requires.good e f line numbered.0 taken.0 in
    let finds = c.in_ok-instance.ensures.finds line.branch line.rule taken.1 in
    (typed, finds_first s0 s1 s2 c.requires.good e f line None (subst (FindsUse s2 s3 line.branch line.rule) c.in_default-2.is finds))

pub set_of-requires-clause-numbers : goal.set_of-requires-clause-numbers
set_of-requires-clause-numbers c =
    let s0 = c.args.shared.now in
    let s1 = c.branch-shared.new.self in
    let s2 = c.taking.new.self in
    let names = c.args.numbering.now in
    let line = numbered_line names (the_line c.args.line.now) in
    let e = c.in_ok-branch.ensures.extends in
    let f = c.in_ok-by.ensures.extends in
    let numbered = subst (NumbersBranch s1 line.branch) c.in-Some.is c.in_ok-branch.ensures.branch in
    let takes = c.in_ok-by.ensures.takes line.branch numbered.1 in
    let s3 = c.instance.new.self in
    let g = subst (λ o. IfSome o (λ _. ExtendsShared s2 s3)) c.in-Some-2.is c.in_ok-instance.ensures.extends in
    let n3 = extends_numbers s2 s3 g c.in_ok-by.ensures.good line.branch c.in-Some.branch (extends_numbers s1 s2 f c.in_ok-branch.ensures.good line.branch c.in-Some.branch numbered.1) in
    n3.numbers

pub are_children-requires-clause-numbers : goal.are_children-requires-clause-numbers
are_children-requires-clause-numbers c =
    let s0 = c.args.shared.now in
    let s1 = c.branch-shared.new.self in
    let s2 = c.taking.new.self in
    let names = c.args.numbering.now in
    let line = numbered_line names (the_line c.args.line.now) in
    let e = c.in_ok-branch.ensures.extends in
    let f = c.in_ok-by.ensures.extends in
    let numbered = subst (NumbersBranch s1 line.branch) c.in-Some.is c.in_ok-branch.ensures.branch in
    let takes = c.in_ok-by.ensures.takes line.branch numbered.1 in
    let s3 = c.instance.new.self in
    let taken = subst (Takes s2 line.branch line.rule) c.in-By.is takes in
    let finds = c.in_ok-instance.ensures.finds line.branch line.rule taken.1 in
    (subst (FindsUse s2 s3 line.branch line.rule) c.in-Some-2.is finds).1

pub returns-then-not-branch-clause-answer : goal.returns-then-not-branch-clause-answer
returns-then-not-branch-clause-answer c = λ earlier are.
    let s0 = c.args.shared.now in
    let s1 = c.branch-shared.new.self in
    let s2 = c.taking.new.self in
    let names = c.args.numbering.now in
    let line = numbered_line names (the_line c.args.line.now) in
    let e = c.in_ok-branch.ensures.extends in
    let f = c.in_ok-by.ensures.extends in
    let numbered = subst (NumbersBranch s1 line.branch) c.in-Some.is c.in_ok-branch.ensures.branch in
    let takes = c.in_ok-by.ensures.takes line.branch numbered.1 in
    let s3 = c.instance.new.self in
    let taken = subst (Takes s2 line.branch line.rule) c.in-By.is takes in
    let typed = line_typed s0 s1 s2 c.requires.good e f line numbered.0 taken.0 in
    let finds = c.in_ok-instance.ensures.finds line.branch line.rule taken.1 in
    let found = subst (FindsUse s2 s3 line.branch line.rule) c.in-Some-2.is finds in
    let g = subst (λ o. IfSome o (λ _. ExtendsShared s2 s3)) c.in-Some-2.is c.in_ok-instance.ensures.extends in
    let n3 = extends_numbers s2 s3 g c.in_ok-by.ensures.good line.branch c.in-Some.branch (extends_numbers s1 s2 f c.in_ok-branch.ensures.good line.branch c.in-Some.branch numbered.1) in
    let all = extends_on s0 s2 s3 (extends_on s0 s1 s2 e f) g in
    let alternatives = alternatives_in s3 c.in-Some-2.instance in
    let instance = finds_first s0 s1 s2 c.requires.good e f line (Some alternatives) found.0 in
    let grown = branches_extended s0 s3 c.requires.good all earlier c.args.self.now.branches.items are in
    let own_numbered = subst (AreNumberedBranch (shared_atoms s3)) n3.literals c.in_ok-own.ensures.numbered in
    let own = subst (λ ls. Represents (shared_atoms s3) ls c.in_ok-own.own) n3.literals c.in_ok-own.ensures.set in
    let answer = c.in_ok-are_children.ensures earlier line.branch (subst (AreBranches (shared_atoms s3) earlier) (sym c.as_slice-earlier.ensures.value) grown) own_numbered own in
    (typed, (alternatives, instance, λ h. untrue (answer.1 h) c.if-not-branch.true))

pub returns-clause-answer : goal.returns-clause-answer
returns-clause-answer c = λ earlier are.
    let s0 = c.args.shared.now in
    let s1 = c.branch-shared.new.self in
    let s2 = c.taking.new.self in
    let names = c.args.numbering.now in
    let line = numbered_line names (the_line c.args.line.now) in
    let e = c.in_ok-branch.ensures.extends in
    let f = c.in_ok-by.ensures.extends in
    let numbered = subst (NumbersBranch s1 line.branch) c.in-Some.is c.in_ok-branch.ensures.branch in
    let takes = c.in_ok-by.ensures.takes line.branch numbered.1 in
    let s3 = c.instance.new.self in
    let taken = subst (Takes s2 line.branch line.rule) c.in-By.is takes in
    let typed = line_typed s0 s1 s2 c.requires.good e f line numbered.0 taken.0 in
    let finds = c.in_ok-instance.ensures.finds line.branch line.rule taken.1 in
    let found = subst (FindsUse s2 s3 line.branch line.rule) c.in-Some-2.is finds in
    let g = subst (λ o. IfSome o (λ _. ExtendsShared s2 s3)) c.in-Some-2.is c.in_ok-instance.ensures.extends in
    let n3 = extends_numbers s2 s3 g c.in_ok-by.ensures.good line.branch c.in-Some.branch (extends_numbers s1 s2 f c.in_ok-branch.ensures.good line.branch c.in-Some.branch numbered.1) in
    let all = extends_on s0 s2 s3 (extends_on s0 s1 s2 e f) g in
    let alternatives = alternatives_in s3 c.in-Some-2.instance in
    let instance = finds_first s0 s1 s2 c.requires.good e f line (Some alternatives) found.0 in
    let grown = branches_extended s0 s3 c.requires.good all earlier c.args.self.now.branches.items are in
    let own_numbered = subst (AreNumberedBranch (shared_atoms s3)) n3.literals c.in_ok-own.ensures.numbered in
    let own = subst (λ ls. Represents (shared_atoms s3) ls c.in_ok-own.own) n3.literals c.in_ok-own.ensures.set in
    let answer = c.in_ok-are_children.ensures earlier line.branch (subst (AreBranches (shared_atoms s3) earlier) (sym c.as_slice-earlier.ensures.value) grown) own_numbered own in
    record { typed = typed; alternatives = alternatives; instance = instance; children = answer.0 c.if-not-branch.false }

pub returns-clause-extends : goal.returns-clause-extends
returns-clause-extends c = λ _.
    let s2 = c.taking.new.self in
    let s3 = c.instance.new.self in
    extends_on c.args.shared.now s2 s3 (extends_on c.args.shared.now c.branch-shared.new.self s2 c.in_ok-branch.ensures.extends c.in_ok-by.ensures.extends)
    (subst (λ o. IfSome o (λ _. ExtendsShared s2 s3)) c.in-Some-2.is c.in_ok-instance.ensures.extends)

pub returns-clause-added : goal.returns-clause-added
returns-clause-added c = λ _ earlier are.
    let s0 = c.args.shared.now in
    let s1 = c.branch-shared.new.self in
    let s2 = c.taking.new.self in
    let names = c.args.numbering.now in
    let line = numbered_line names (the_line c.args.line.now) in
    let e = c.in_ok-branch.ensures.extends in
    let f = c.in_ok-by.ensures.extends in
    let numbered = subst (NumbersBranch s1 line.branch) c.in-Some.is c.in_ok-branch.ensures.branch in
    let takes = c.in_ok-by.ensures.takes line.branch numbered.1 in
    let s3 = c.instance.new.self in
    let g = subst (λ o. IfSome o (λ _. ExtendsShared s2 s3)) c.in-Some-2.is c.in_ok-instance.ensures.extends in
    let n3 = extends_numbers s2 s3 g c.in_ok-by.ensures.good line.branch c.in-Some.branch (extends_numbers s1 s2 f c.in_ok-branch.ensures.good line.branch c.in-Some.branch numbered.1) in
    let all = extends_on s0 s2 s3 (extends_on s0 s1 s2 e f) g in
    let grown = branches_extended s0 s3 c.requires.good all earlier c.args.self.now.branches.items are in
    subst (AreBranches (shared_atoms s3) (earlier ++ line ∷ [])) (sym c.in_ok-push.ensures.items)
    (branches-append (shared_atoms s3) earlier c.args.self.now.branches.items line c.in_ok-listed.listed grown (subst (AreNumberedBranch (shared_atoms s3)) n3.literals c.in_ok-own.ensures.numbered)
    (represents-same (branch_has c.in_ok-own.own) (line_has c.in_ok-listed.listed) c.in_ok-listed.ensures (subst (λ ls. Represents (shared_atoms s3) ls c.in_ok-own.own) n3.literals c.in_ok-own.ensures.set)))

pub returns-clause-seen : goal.returns-clause-seen
returns-clause-seen c = λ _.
    let s1 = c.branch-shared.new.self in
    let s2 = c.taking.new.self in
    let s3 = c.instance.new.self in
    let g = subst (λ o. IfSome o (λ _. ExtendsShared s2 s3)) c.in-Some-2.is c.in_ok-instance.ensures.extends in
    seen_stays c.args.numbering.now s1 s3 c.branch-shared.new.seen c.in_ok-branch.ensures.good (extends_on s1 s2 s3 c.in_ok-by.ensures.extends g) c.in_ok-branch.ensures.seen

pub returns-in_err-branch-clause-answer : goal.returns-in_err-branch-clause-answer
returns-in_err-branch-clause-answer c = IfOk-from_err _ _ c.from_residual.ensures.0

pub returns-in_err-branch-clause-added : goal.returns-in_err-branch-clause-added
returns-in_err-branch-clause-added c = IfOk-from_err _ _ c.from_residual.ensures.0

pub returns-in_err-branch-clause-extends : goal.returns-in_err-branch-clause-extends
returns-in_err-branch-clause-extends c = IfOk-from_err _ _ c.from_residual.ensures.0

pub returns-in_err-branch-clause-good : goal.returns-in_err-branch-clause-good
returns-in_err-branch-clause-good c = IfOk-from_err _ _ c.from_residual.ensures.0

pub returns-in_err-branch-clause-seen : goal.returns-in_err-branch-clause-seen
returns-in_err-branch-clause-seen c = IfOk-from_err _ _ c.from_residual.ensures.0

pub returns-in_err-by-clause-answer : goal.returns-in_err-by-clause-answer
returns-in_err-by-clause-answer c = IfOk-from_err _ _ c.from_residual-in_err-by.ensures.0

pub returns-in_err-by-clause-added : goal.returns-in_err-by-clause-added
returns-in_err-by-clause-added c = IfOk-from_err _ _ c.from_residual-in_err-by.ensures.0

pub returns-in_err-by-clause-extends : goal.returns-in_err-by-clause-extends
returns-in_err-by-clause-extends c = IfOk-from_err _ _ c.from_residual-in_err-by.ensures.0

pub returns-in_err-by-clause-good : goal.returns-in_err-by-clause-good
returns-in_err-by-clause-good c = IfOk-from_err _ _ c.from_residual-in_err-by.ensures.0

pub returns-in_err-by-clause-seen : goal.returns-in_err-by-clause-seen
returns-in_err-by-clause-seen c = IfOk-from_err _ _ c.from_residual-in_err-by.ensures.0

pub returns-in_err-instance-clause-answer : goal.returns-in_err-instance-clause-answer
returns-in_err-instance-clause-answer c = IfOk-from_err _ _ c.from_residual-in_err-instance.ensures.0

pub returns-in_err-instance-clause-added : goal.returns-in_err-instance-clause-added
returns-in_err-instance-clause-added c = IfOk-from_err _ _ c.from_residual-in_err-instance.ensures.0

pub returns-in_err-instance-clause-extends : goal.returns-in_err-instance-clause-extends
returns-in_err-instance-clause-extends c = IfOk-from_err _ _ c.from_residual-in_err-instance.ensures.0

pub returns-in_err-instance-clause-good : goal.returns-in_err-instance-clause-good
returns-in_err-instance-clause-good c = IfOk-from_err _ _ c.from_residual-in_err-instance.ensures.0

pub returns-in_err-instance-clause-seen : goal.returns-in_err-instance-clause-seen
returns-in_err-instance-clause-seen c = IfOk-from_err _ _ c.from_residual-in_err-instance.ensures.0

pub returns-in_err-own-clause-answer : goal.returns-in_err-own-clause-answer
returns-in_err-own-clause-answer c = IfOk-from_err _ _ c.from_residual-in_err-own.ensures.0

pub returns-in_err-own-clause-added : goal.returns-in_err-own-clause-added
returns-in_err-own-clause-added c = IfOk-from_err _ _ c.from_residual-in_err-own.ensures.0

pub returns-in_err-own-clause-extends : goal.returns-in_err-own-clause-extends
returns-in_err-own-clause-extends c = IfOk-from_err _ _ c.from_residual-in_err-own.ensures.0

pub returns-in_err-own-clause-good : goal.returns-in_err-own-clause-good
returns-in_err-own-clause-good c = IfOk-from_err _ _ c.from_residual-in_err-own.ensures.0

pub returns-in_err-own-clause-seen : goal.returns-in_err-own-clause-seen
returns-in_err-own-clause-seen c = IfOk-from_err _ _ c.from_residual-in_err-own.ensures.0

pub returns-in_err-are_children-clause-answer : goal.returns-in_err-are_children-clause-answer
returns-in_err-are_children-clause-answer c = IfOk-from_err _ _ c.from_residual-in_err-are_children.ensures.0

pub returns-in_err-are_children-clause-added : goal.returns-in_err-are_children-clause-added
returns-in_err-are_children-clause-added c = IfOk-from_err _ _ c.from_residual-in_err-are_children.ensures.0

pub returns-in_err-are_children-clause-extends : goal.returns-in_err-are_children-clause-extends
returns-in_err-are_children-clause-extends c = IfOk-from_err _ _ c.from_residual-in_err-are_children.ensures.0

pub returns-in_err-are_children-clause-good : goal.returns-in_err-are_children-clause-good
returns-in_err-are_children-clause-good c = IfOk-from_err _ _ c.from_residual-in_err-are_children.ensures.0

pub returns-in_err-are_children-clause-seen : goal.returns-in_err-are_children-clause-seen
returns-in_err-are_children-clause-seen c = IfOk-from_err _ _ c.from_residual-in_err-are_children.ensures.0

pub returns-in_err-listed-clause-answer : goal.returns-in_err-listed-clause-answer
returns-in_err-listed-clause-answer c = IfOk-from_err _ _ c.from_residual-in_err-listed.ensures.0

pub returns-in_err-listed-clause-added : goal.returns-in_err-listed-clause-added
returns-in_err-listed-clause-added c = IfOk-from_err _ _ c.from_residual-in_err-listed.ensures.0

pub returns-in_err-listed-clause-extends : goal.returns-in_err-listed-clause-extends
returns-in_err-listed-clause-extends c = IfOk-from_err _ _ c.from_residual-in_err-listed.ensures.0

pub returns-in_err-listed-clause-good : goal.returns-in_err-listed-clause-good
returns-in_err-listed-clause-good c = IfOk-from_err _ _ c.from_residual-in_err-listed.ensures.0

pub returns-in_err-listed-clause-seen : goal.returns-in_err-listed-clause-seen
returns-in_err-listed-clause-seen c = IfOk-from_err _ _ c.from_residual-in_err-listed.ensures.0

pub returns-in_err-push-clause-answer : goal.returns-in_err-push-clause-answer
returns-in_err-push-clause-answer c = IfOk-from_err _ _ c.from_residual-in_err-push.ensures.0

pub returns-in_err-push-clause-added : goal.returns-in_err-push-clause-added
returns-in_err-push-clause-added c = IfOk-from_err _ _ c.from_residual-in_err-push.ensures.0

pub returns-in_err-push-clause-extends : goal.returns-in_err-push-clause-extends
returns-in_err-push-clause-extends c = IfOk-from_err _ _ c.from_residual-in_err-push.ensures.0

pub returns-in_err-push-clause-good : goal.returns-in_err-push-clause-good
returns-in_err-push-clause-good c = IfOk-from_err _ _ c.from_residual-in_err-push.ensures.0

pub returns-in_err-push-clause-seen : goal.returns-in_err-push-clause-seen
returns-in_err-push-clause-seen c = IfOk-from_err _ _ c.from_residual-in_err-push.ensures.0

pub returns-in_default-clause-added : goal.returns-in_default-clause-added
returns-in_default-clause-added c = λ e. absurd (true≢false (ap is_some e))

pub returns-in_default-clause-extends : goal.returns-in_default-clause-extends
returns-in_default-clause-extends c = λ e. absurd (true≢false (ap is_some e))

pub returns-in_default-clause-good : goal.returns-in_default-clause-good
returns-in_default-clause-good c = λ e. absurd (true≢false (ap is_some e))

pub returns-in_default-clause-seen : goal.returns-in_default-clause-seen
returns-in_default-clause-seen c = λ e. absurd (true≢false (ap is_some e))

pub returns-in-Missing-clause-added : goal.returns-in-Missing-clause-added
returns-in-Missing-clause-added c = λ e. absurd (true≢false (ap is_some e))

pub returns-in-Missing-clause-extends : goal.returns-in-Missing-clause-extends
returns-in-Missing-clause-extends c = λ e. absurd (true≢false (ap is_some e))

pub returns-in-Missing-clause-good : goal.returns-in-Missing-clause-good
returns-in-Missing-clause-good c = λ e. absurd (true≢false (ap is_some e))

pub returns-in-Missing-clause-seen : goal.returns-in-Missing-clause-seen
returns-in-Missing-clause-seen c = λ e. absurd (true≢false (ap is_some e))

pub returns-in-Untyped-clause-added : goal.returns-in-Untyped-clause-added
returns-in-Untyped-clause-added c = λ e. absurd (true≢false (ap is_some e))

pub returns-in-Untyped-clause-extends : goal.returns-in-Untyped-clause-extends
returns-in-Untyped-clause-extends c = λ e. absurd (true≢false (ap is_some e))

pub returns-in-Untyped-clause-good : goal.returns-in-Untyped-clause-good
returns-in-Untyped-clause-good c = λ e. absurd (true≢false (ap is_some e))

pub returns-in-Untyped-clause-seen : goal.returns-in-Untyped-clause-seen
returns-in-Untyped-clause-seen c = λ e. absurd (true≢false (ap is_some e))

pub returns-in_default-2-clause-added : goal.returns-in_default-2-clause-added
returns-in_default-2-clause-added c = λ e. absurd (true≢false (ap is_some e))

pub returns-in_default-2-clause-extends : goal.returns-in_default-2-clause-extends
returns-in_default-2-clause-extends c = λ e. absurd (true≢false (ap is_some e))

pub returns-in_default-2-clause-good : goal.returns-in_default-2-clause-good
returns-in_default-2-clause-good c = λ e. absurd (true≢false (ap is_some e))

pub returns-in_default-2-clause-seen : goal.returns-in_default-2-clause-seen
returns-in_default-2-clause-seen c = λ e. absurd (true≢false (ap is_some e))

pub returns-then-not-branch-clause-added : goal.returns-then-not-branch-clause-added
returns-then-not-branch-clause-added c = λ e. absurd (true≢false (ap is_some e))

pub returns-then-not-branch-clause-extends : goal.returns-then-not-branch-clause-extends
returns-then-not-branch-clause-extends c = λ e. absurd (true≢false (ap is_some e))

pub returns-then-not-branch-clause-good : goal.returns-then-not-branch-clause-good
returns-then-not-branch-clause-good c = λ e. absurd (true≢false (ap is_some e))

pub returns-then-not-branch-clause-seen : goal.returns-then-not-branch-clause-seen
returns-then-not-branch-clause-seen c = λ e. absurd (true≢false (ap is_some e))

pub returns-clause-good : goal.returns-clause-good
returns-clause-good c = λ _. subst (λ o. IfSome o (λ _. IsGoodShared c.instance.new.self)) c.in-Some-2.is c.in_ok-instance.ensures.good
