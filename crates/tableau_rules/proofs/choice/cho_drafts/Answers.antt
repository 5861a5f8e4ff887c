use Rattle.std.proofs.Common.{[], ◌∷◌, ap₂, ◌∙◌, ap, subst, option_map, inl}
use Rattle.std.proofs.lemmas.Result.{IfOk-from_err}
use Rattle.stt_core.specs.Lambda.{constant, choice}
use Rattle.stt_core.specs.View.{the_type}
use Rattle.tableau_calculus.specs.Rules.{nowhere}
use Rattle.term_bank.specs.Terms.{term_at}
use Rattle.term_bank.proofs.GrowLaws.{grows_itself, grows_on, grown_term}
use Rattle.bank_normal.proofs.RightLaws.{right_grown}
use Rattle.tableau_rules.specs.Internal.Typed.{IsPredicateType}
use Rattle.tableau_rules.proofs.ChoiceLaws.{predicate_grown}
use Rattle.tableau_rules.proofs.ChoiceDrafts.{cho_found, picked_back}
use Rattle.tableau_rules.proofs.choice.cho_drafts.Goals as goal

pub returns-in_err-none-in-Some-clause-right : goal.returns-in_err-none-in-Some-clause-right
returns-in_err-none-in-Some-clause-right c = right_grown c.args.normal.now c.args.bank.now c.nowhere_of.new.bank c.nowhere_of.ensures.grows c.requires.right

pub holds_of_picked-requires-clause-right : goal.holds_of_picked-requires-clause-right
holds_of_picked-requires-clause-right c = right_grown c.args.normal.now c.args.bank.now c.nowhere_of.new.bank c.nowhere_of.ensures.grows c.requires.right

pub returns-in_ok-either-in-Some-clause-drafted : goal.returns-in_ok-either-in-Some-clause-drafted
returns-in_ok-either-in-Some-clause-drafted c = λ rows.
    let b = c.args.bank.now in
    let d = c.nowhere_of.new.bank in
    let e = c.holds_of_picked.new.bank in
    let a = the_type c.in-Some.ty in
    let f = c.args.f in
    let h = subst (λ o. IsPredicateType b f (option_map the_type o)) c.in-Some.is c.in_ok-ty.ensures in
    let n = c.in_ok-none-in-Some.none in
    let v = c.in_ok-value-in-Some.value in
    cho_found b e rows a f (grows_on b d e c.nowhere_of.ensures.grows c.holds_of_picked.ensures.grows) h
    n (grown_term d e n (nowhere a (term_at b.terms f)) c.holds_of_picked.ensures.grows c.in_ok-none-in-Some.ensures.term)
    v (picked_back choice b d e a (the_type c.in_ok-try_clone-in-Some.field-0) f v c.nowhere_of.ensures.grows c.requires.term c.in_ok-try_clone-in-Some.ensures c.in_ok-value-in-Some.ensures.term)
    c.in_ok-either-in-Some.field-0 (c.in_ok-either-in-Some.ensures ∙ ap₂ (λ x y. (x ∷ []) ∷ (y ∷ []) ∷ []) c.holds.ensures c.holds-in-Some.ensures)

pub predicate_type-requires : goal.predicate_type-requires
predicate_type-requires c = c.requires.term

pub returns-in_err-ty-clause-drafted : goal.returns-in_err-ty-clause-drafted
returns-in_err-ty-clause-drafted c = IfOk-from_err _ _ c.from_residual.ensures.0

pub returns-in_err-ty-clause-grows : goal.returns-in_err-ty-clause-grows
returns-in_err-ty-clause-grows c = grows_itself c.args.bank.now

pub returns-in_err-ty-clause-right : goal.returns-in_err-ty-clause-right
returns-in_err-ty-clause-right c = c.requires.right

pub returns-in_err-try_clone-in-Some-clause-drafted : goal.returns-in_err-try_clone-in-Some-clause-drafted
returns-in_err-try_clone-in-Some-clause-drafted c = IfOk-from_err _ _ c.from_residual-in_err-try_clone-in-Some.ensures.0

pub returns-in_err-try_clone-in-Some-clause-grows : goal.returns-in_err-try_clone-in-Some-clause-grows
returns-in_err-try_clone-in-Some-clause-grows c = grows_itself c.args.bank.now

pub returns-in_err-try_clone-in-Some-clause-right : goal.returns-in_err-try_clone-in-Some-clause-right
returns-in_err-try_clone-in-Some-clause-right c = c.requires.right

pub nowhere_of-requires : goal.nowhere_of-requires
nowhere_of-requires c = subst (λ o. IsPredicateType c.args.bank.now c.args.f (option_map the_type o)) c.in-Some.is c.in_ok-ty.ensures

pub returns-in_err-none-in-Some-clause-drafted : goal.returns-in_err-none-in-Some-clause-drafted
returns-in_err-none-in-Some-clause-drafted c = IfOk-from_err _ _ c.from_residual-in_err-none-in-Some.ensures.0

pub returns-in_err-none-in-Some-clause-grows : goal.returns-in_err-none-in-Some-clause-grows
returns-in_err-none-in-Some-clause-grows c = c.nowhere_of.ensures.grows

pub holds_of_picked-requires-clause-operator : goal.holds_of_picked-requires-clause-operator
holds_of_picked-requires-clause-operator c = inl (ap (λ a. constant (choice a)) c.in_ok-try_clone-in-Some.ensures)

pub holds_of_picked-requires-clause-predicate : goal.holds_of_picked-requires-clause-predicate
holds_of_picked-requires-clause-predicate c = predicate_grown c.args.bank.now c.nowhere_of.new.bank (the_type c.in-Some.ty) c.args.f c.nowhere_of.ensures.grows (subst (λ o. IsPredicateType c.args.bank.now c.args.f (option_map the_type o)) c.in-Some.is c.in_ok-ty.ensures)

pub returns-in_err-value-in-Some-clause-drafted : goal.returns-in_err-value-in-Some-clause-drafted
returns-in_err-value-in-Some-clause-drafted c = IfOk-from_err _ _ c.from_residual-in_err-value-in-Some.ensures.0

pub returns-in_err-value-in-Some-clause-grows : goal.returns-in_err-value-in-Some-clause-grows
returns-in_err-value-in-Some-clause-grows c = grows_on c.args.bank.now c.nowhere_of.new.bank c.holds_of_picked.new.bank c.nowhere_of.ensures.grows c.holds_of_picked.ensures.grows

pub returns-in_err-value-in-Some-clause-right : goal.returns-in_err-value-in-Some-clause-right
returns-in_err-value-in-Some-clause-right c = c.holds_of_picked.ensures.right

pub returns-in_err-either-in-Some-clause-drafted : goal.returns-in_err-either-in-Some-clause-drafted
returns-in_err-either-in-Some-clause-drafted c = IfOk-from_err _ _ c.from_residual-in_err-either-in-Some.ensures.0

pub returns-in_err-either-in-Some-clause-grows : goal.returns-in_err-either-in-Some-clause-grows
returns-in_err-either-in-Some-clause-grows c = grows_on c.args.bank.now c.nowhere_of.new.bank c.holds_of_picked.new.bank c.nowhere_of.ensures.grows c.holds_of_picked.ensures.grows

pub returns-in_err-either-in-Some-clause-right : goal.returns-in_err-either-in-Some-clause-right
returns-in_err-either-in-Some-clause-right c = c.holds_of_picked.ensures.right

pub returns-in_ok-either-in-Some-clause-grows : goal.returns-in_ok-either-in-Some-clause-grows
returns-in_ok-either-in-Some-clause-grows c = grows_on c.args.bank.now c.nowhere_of.new.bank c.holds_of_picked.new.bank c.nowhere_of.ensures.grows c.holds_of_picked.ensures.grows

pub returns-in_ok-either-in-Some-clause-right : goal.returns-in_ok-either-in-Some-clause-right
returns-in_ok-either-in-Some-clause-right c = c.holds_of_picked.ensures.right

pub returns-in-None-clause-grows : goal.returns-in-None-clause-grows
returns-in-None-clause-grows c = grows_itself c.args.bank.now

pub returns-in-None-clause-right : goal.returns-in-None-clause-right
returns-in-None-clause-right c = c.requires.right
