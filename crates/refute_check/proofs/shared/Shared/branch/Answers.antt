use Rattle.std.proofs.Common.{◌∙◌, [], ◌∷◌, refl, ap, sym, subst, map, take}
use Rattle.std.proofs.lemmas.Result.{IfOk-from_err}
use Rattle.stt_core.proofs.ListLaws.{mapped_get, take_got, map-append}
use Rattle.tableau_calculus.specs.Literals.{IsBranch}
use Rattle.tableau_calculus.proofs.ListLaws.{contains-get}
use Rattle.tableau_calculus.proofs.ClosedLaws.{literal_in}
use Rattle.refute_check.specs.Numbered.{numbered_literal}
use Rattle.refute_check.specs.Internal.Shared.{shared_scope, AreNumbersOf, NumbersLiteral}
use Rattle.refute_check.proofs.SharedLaws.{extends_itself, extends_on, branch-more}
use Rattle.refute_check.proofs.shared.Shared.branch.Goals as goal

pub loop-i-init : goal.loop-i-init
loop-i-init c =
    let s = c.args.self.now in
    (c.requires.good, extends_itself s, tt, subst (AreNumbersOf s []) (sym c.new-list.ensures) (record { numbers = tt; literals = refl }), c.requires.seen)

pub seen_literal-requires : goal.seen_literal-requires
seen_literal-requires c = record { good = c.loop-i.invariant.0; seen = c.loop-i.invariant.4 }

pub returns-in-None-clause-branch : goal.returns-in-None-clause-branch
returns-in-None-clause-branch c = λ h.
    let f = numbered_literal c.args.numbering.now in
    let l = f c.at.result.now in
    let branch = map f c.args.lits.now in
    let at = mapped_get f c.args.lits.now c.loop-i.i c.at.result.now c.at.ensures in
    subst (NumbersLiteral c.seen_literal.new.self l) c.in-None.is c.in_ok-lit.ensures.number
    (literal_in (shared_scope c.seen_literal.new.self) l branch (contains-get branch c.loop-i.i l at) h)

pub returns-in-None-clause-extends : goal.returns-in-None-clause-extends
returns-in-None-clause-extends c = extends_on c.args.self.now c.loop-i.self c.seen_literal.new.self c.loop-i.invariant.1 c.in_ok-lit.ensures.extends

pub loop-i-preserved : goal.loop-i-preserved
loop-i-preserved c =
    let f = numbered_literal c.args.numbering.now in
    let l = f c.at.result.now in
    let new = c.seen_literal.new.self in
    let i = c.loop-i.i in
    let done = take i c.args.lits.now in
    let is = subst (NumbersLiteral new l) c.in-Some.is c.in_ok-lit.ensures.number in
    let more = branch-more c.loop-i.self new c.loop-i.invariant.0 c.in_ok-lit.ensures.extends (map f done) c.loop-i.list c.push.new.self l c.in-Some.lit c.loop-i.invariant.2 c.loop-i.invariant.3 is c.in_ok-push-in-Some.ensures.ok in
    let all = ap (map f) (take_got c.args.lits.now i c.at.result.now c.at.ensures) ∙ map-append f done (c.at.result.now ∷ []) in (
      c.in_ok-lit.ensures.good,
      extends_on c.args.self.now c.loop-i.self new c.loop-i.invariant.1 c.in_ok-lit.ensures.extends,
      subst (IsBranch (shared_scope new)) (sym all) more.0,
      subst (λ ls. AreNumbersOf new ls c.push.new.self) (sym all) more.1,
      c.in_ok-lit.ensures.seen,
    )

pub returns-in_err-lit-clause-branch : goal.returns-in_err-lit-clause-branch
returns-in_err-lit-clause-branch c = IfOk-from_err _ _ c.from_residual.ensures.0

pub returns-in_err-lit-clause-extends : goal.returns-in_err-lit-clause-extends
returns-in_err-lit-clause-extends c = IfOk-from_err _ _ c.from_residual.ensures.0

pub returns-in_err-lit-clause-good : goal.returns-in_err-lit-clause-good
returns-in_err-lit-clause-good c = IfOk-from_err _ _ c.from_residual.ensures.0

pub returns-in_err-lit-clause-seen : goal.returns-in_err-lit-clause-seen
returns-in_err-lit-clause-seen c = IfOk-from_err _ _ c.from_residual.ensures.0

pub returns-in_err-push-in-Some-clause-branch : goal.returns-in_err-push-in-Some-clause-branch
returns-in_err-push-in-Some-clause-branch c = IfOk-from_err _ _ c.from_residual-in_err-push-in-Some.ensures.0

pub returns-in_err-push-in-Some-clause-extends : goal.returns-in_err-push-in-Some-clause-extends
returns-in_err-push-in-Some-clause-extends c = IfOk-from_err _ _ c.from_residual-in_err-push-in-Some.ensures.0

pub returns-in_err-push-in-Some-clause-good : goal.returns-in_err-push-in-Some-clause-good
returns-in_err-push-in-Some-clause-good c = IfOk-from_err _ _ c.from_residual-in_err-push-in-Some.ensures.0

pub returns-in_err-push-in-Some-clause-seen : goal.returns-in_err-push-in-Some-clause-seen
returns-in_err-push-in-Some-clause-seen c = IfOk-from_err _ _ c.from_residual-in_err-push-in-Some.ensures.0

pub returns-in-None-clause-good : goal.returns-in-None-clause-good
returns-in-None-clause-good c = c.in_ok-lit.ensures.good

pub returns-in-None-clause-seen : goal.returns-in-None-clause-seen
returns-in-None-clause-seen c = c.in_ok-lit.ensures.seen

pub returns-clause-extends : goal.returns-clause-extends
returns-clause-extends c = c.loop-i.invariant.1

pub returns-clause-good : goal.returns-clause-good
returns-clause-good c = c.loop-i.invariant.0

pub returns-clause-seen : goal.returns-clause-seen
returns-clause-seen c = c.loop-i.invariant.4
