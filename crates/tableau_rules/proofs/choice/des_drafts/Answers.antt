use Rattle.std.proofs.Common.{Some, [], ◌∷◌, ap, ap₂, ◌∙◌, subst, option_map, inr}
use Rattle.std.proofs.lemmas.Result.{IfOk-from_err}
use Rattle.stt_core.specs.Lambda.{constant, description}
use Rattle.stt_core.specs.View.{the_type}
use Rattle.tableau_calculus.specs.Rules.{nowhere, at_most_once}
use Rattle.term_bank.specs.Terms.{term_at}
use Rattle.term_bank.proofs.GrowLaws.{grows_itself, grows_on, grown_term, grown_at}
use Rattle.bank_normal.proofs.RightLaws.{right_grown}
use Rattle.tableau_rules.specs.Internal.Typed.{IsPredicateType}
use Rattle.tableau_rules.proofs.ChoiceLaws.{predicate_grown}
use Rattle.tableau_rules.proofs.DraftLaws.{yes, nay}
use Rattle.tableau_rules.proofs.ChoiceDrafts.{des_found, picked_back}
use Rattle.tableau_rules.proofs.choice.des_drafts.Goals as goal

pub returns-in_err-none-in-Some-clause-right : goal.returns-in_err-none-in-Some-clause-right
returns-in_err-none-in-Some-clause-right c = right_grown c.args.normal.now c.args.bank.now c.nowhere_of.new.bank c.nowhere_of.ensures.grows c.requires.right

pub at_most_once_of-requires-clause-right : goal.at_most_once_of-requires-clause-right
at_most_once_of-requires-clause-right c = right_grown c.args.normal.now c.args.bank.now c.nowhere_of.new.bank c.nowhere_of.ensures.grows c.requires.right

pub returns-in_ok-any_of_three-in-Some-clause-drafted : goal.returns-in_ok-any_of_three-in-Some-clause-drafted
returns-in_ok-any_of_three-in-Some-clause-drafted c = λ rows.
    let b = c.args.bank.now in
    let d = c.nowhere_of.new.bank in
    let m = c.at_most_once_of.new.bank in
    let e = c.holds_of_picked.new.bank in
    let a = the_type c.in-Some.ty in
    let f = c.args.f in
    let h = subst (λ o. IsPredicateType b f (option_map the_type o)) c.in-Some.is c.in_ok-ty.ensures in
    let n = c.in_ok-none-in-Some.none in
    let o = c.in_ok-once-in-Some.once in
    let v = c.in_ok-value-in-Some.value in
    let g = grows_on b d m c.nowhere_of.ensures.grows c.at_most_once_of.ensures.grows in
    des_found b e rows a f (grows_on b m e g c.holds_of_picked.ensures.grows) h
    n (grown_term d e n (nowhere a (term_at b.terms f)) (grows_on d m e c.at_most_once_of.ensures.grows c.holds_of_picked.ensures.grows) c.in_ok-none-in-Some.ensures.term)
    v o (grown_term m e o (at_most_once a (term_at b.terms f)) c.holds_of_picked.ensures.grows (c.in_ok-once-in-Some.ensures.term ∙ ap (λ t. Some (at_most_once a t)) (grown_at b d f c.nowhere_of.ensures.grows c.requires.term)))
    (picked_back description b m e a (the_type c.in_ok-try_clone-in-Some.field-0) f v g c.requires.term c.in_ok-try_clone-in-Some.ensures c.in_ok-value-in-Some.ensures.term)
    c.in_ok-any_of_three-in-Some.field-0
    (c.in_ok-any_of_three-in-Some.ensures
    ∙ ap₂ (λ x y. (x ∷ []) ∷ (y ∷ []) ∷ (c.holds-in-Some.result ∷ []) ∷ []) c.holds.ensures c.fails.ensures
    ∙ ap (λ z. (yes n ∷ []) ∷ (nay o ∷ []) ∷ (z ∷ []) ∷ []) c.holds-in-Some.ensures)

pub predicate_type-requires : goal.predicate_type-requires
predicate_type-requires c = c.requires.term

pub returns-in_err-ty-clause-drafted : goal.returns-in_err-ty-clause-drafted
returns-in_err-ty-clause-drafted c = IfOk-from_err _ _ c.from_residual.ensures.0

pub returns-in_err-ty-clause-grows : goal.returns-in_err-ty-clause-grows
returns-in_err-ty-clause-grows c = grows_itself c.args.bank.now

pub returns-in_err-ty-clause-right : goal.returns-in_err-ty-clause-right
returns-in_err-ty-clause-right c = c.requires.right

pub returns-in_err-try_clone-in-Some-clause-drafted : goal.returns-in_err-try_clone-in-Some-clause-drafted
returns-in_err-try_clone-in-Some-clause-drafted c = IfOk-from_err _ _ c.from_residual-in_err-try_clone-in-Some.ensures.0

pub returns-in_err-try_clone-in-Some-clause-grows : goal.returns-in_err-try_clone-in-Some-clause-grows
returns-in_err-try_clone-in-Some-clause-grows c = grows_itself c.args.bank.now

pub returns-in_err-try_clone-in-Some-clause-right : goal.returns-in_err-try_clone-in-Some-clause-right
returns-in_err-try_clone-in-Some-clause-right c = c.requires.right

pub nowhere_of-requires : goal.nowhere_of-requires
nowhere_of-requires c = subst (λ o. IsPredicateType c.args.bank.now c.args.f (option_map the_type o)) c.in-Some.is c.in_ok-ty.ensures

pub returns-in_err-none-in-Some-clause-drafted : goal.returns-in_err-none-in-Some-clause-drafted
returns-in_err-none-in-Some-clause-drafted c = IfOk-from_err _ _ c.from_residual-in_err-none-in-Some.ensures.0

pub returns-in_err-none-in-Some-clause-grows : goal.returns-in_err-none-in-Some-clause-grows
returns-in_err-none-in-Some-clause-grows c = c.nowhere_of.ensures.grows

pub at_most_once_of-requires-clause-predicate : goal.at_most_once_of-requires-clause-predicate
at_most_once_of-requires-clause-predicate c = predicate_grown c.args.bank.now c.nowhere_of.new.bank (the_type c.in-Some.ty) c.args.f c.nowhere_of.ensures.grows (subst (λ o. IsPredicateType c.args.bank.now c.args.f (option_map the_type o)) c.in-Some.is c.in_ok-ty.ensures)

pub returns-in_err-once-in-Some-clause-drafted : goal.returns-in_err-once-in-Some-clause-drafted
returns-in_err-once-in-Some-clause-drafted c = IfOk-from_err _ _ c.from_residual-in_err-once-in-Some.ensures.0

pub returns-in_err-once-in-Some-clause-grows : goal.returns-in_err-once-in-Some-clause-grows
returns-in_err-once-in-Some-clause-grows c = grows_on c.args.bank.now c.nowhere_of.new.bank c.at_most_once_of.new.bank c.nowhere_of.ensures.grows c.at_most_once_of.ensures.grows

pub returns-in_err-once-in-Some-clause-right : goal.returns-in_err-once-in-Some-clause-right
returns-in_err-once-in-Some-clause-right c = c.at_most_once_of.ensures.right

pub holds_of_picked-requires-clause-right : goal.holds_of_picked-requires-clause-right
holds_of_picked-requires-clause-right c = c.at_most_once_of.ensures.right

pub holds_of_picked-requires-clause-operator : goal.holds_of_picked-requires-clause-operator
holds_of_picked-requires-clause-operator c = inr (ap (λ a. constant (description a)) c.in_ok-try_clone-in-Some.ensures)

pub holds_of_picked-requires-clause-predicate : goal.holds_of_picked-requires-clause-predicate
holds_of_picked-requires-clause-predicate c = predicate_grown c.args.bank.now c.at_most_once_of.new.bank (the_type c.in-Some.ty) c.args.f (grows_on c.args.bank.now c.nowhere_of.new.bank c.at_most_once_of.new.bank c.nowhere_of.ensures.grows c.at_most_once_of.ensures.grows) (subst (λ o. IsPredicateType c.args.bank.now c.args.f (option_map the_type o)) c.in-Some.is c.in_ok-ty.ensures)

pub returns-in_err-value-in-Some-clause-drafted : goal.returns-in_err-value-in-Some-clause-drafted
returns-in_err-value-in-Some-clause-drafted c = IfOk-from_err _ _ c.from_residual-in_err-value-in-Some.ensures.0

pub returns-in_err-value-in-Some-clause-grows : goal.returns-in_err-value-in-Some-clause-grows
returns-in_err-value-in-Some-clause-grows c = grows_on c.args.bank.now c.nowhere_of.new.bank c.holds_of_picked.new.bank c.nowhere_of.ensures.grows (grows_on c.nowhere_of.new.bank c.at_most_once_of.new.bank c.holds_of_picked.new.bank c.at_most_once_of.ensures.grows c.holds_of_picked.ensures.grows)

pub returns-in_err-value-in-Some-clause-right : goal.returns-in_err-value-in-Some-clause-right
returns-in_err-value-in-Some-clause-right c = c.holds_of_picked.ensures.right

pub returns-in_err-any_of_three-in-Some-clause-drafted : goal.returns-in_err-any_of_three-in-Some-clause-drafted
returns-in_err-any_of_three-in-Some-clause-drafted c = IfOk-from_err _ _ c.from_residual-in_err-any_of_three-in-Some.ensures.0

pub returns-in_err-any_of_three-in-Some-clause-grows : goal.returns-in_err-any_of_three-in-Some-clause-grows
returns-in_err-any_of_three-in-Some-clause-grows c = grows_on c.args.bank.now c.nowhere_of.new.bank c.holds_of_picked.new.bank c.nowhere_of.ensures.grows (grows_on c.nowhere_of.new.bank c.at_most_once_of.new.bank c.holds_of_picked.new.bank c.at_most_once_of.ensures.grows c.holds_of_picked.ensures.grows)

pub returns-in_err-any_of_three-in-Some-clause-right : goal.returns-in_err-any_of_three-in-Some-clause-right
returns-in_err-any_of_three-in-Some-clause-right c = c.holds_of_picked.ensures.right

pub returns-in_ok-any_of_three-in-Some-clause-grows : goal.returns-in_ok-any_of_three-in-Some-clause-grows
returns-in_ok-any_of_three-in-Some-clause-grows c = grows_on c.args.bank.now c.nowhere_of.new.bank c.holds_of_picked.new.bank c.nowhere_of.ensures.grows (grows_on c.nowhere_of.new.bank c.at_most_once_of.new.bank c.holds_of_picked.new.bank c.at_most_once_of.ensures.grows c.holds_of_picked.ensures.grows)

pub returns-in_ok-any_of_three-in-Some-clause-right : goal.returns-in_ok-any_of_three-in-Some-clause-right
returns-in_ok-any_of_three-in-Some-clause-right c = c.holds_of_picked.ensures.right

pub returns-in-None-clause-grows : goal.returns-in-None-clause-grows
returns-in-None-clause-grows c = grows_itself c.args.bank.now

pub returns-in-None-clause-right : goal.returns-in-None-clause-right
returns-in-None-clause-right c = c.requires.right
