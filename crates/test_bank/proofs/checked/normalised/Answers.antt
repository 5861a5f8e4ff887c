use Rattle.std.proofs.Common.{[], sym, ap, ◌∙◌, subst, option_map, refl, reverse}
use Rattle.std.specs.Option.{IsSome}
use Rattle.stt_core.specs.View.{the_type, the_term}
use Rattle.stt_core.specs.Typing.{type_of}
use Rattle.stt_core.specs.ScopeView.{the_scope}
use Rattle.test_bank.proofs.RowLaws.{signature_scope}
use Rattle.test_bank.proofs.checked.normalised.Goals as goal

pub normalise-requires-clause-typed : goal.normalise-requires-clause-typed
normalise-requires-clause-typed c =
    let b = c.args.bank.now in
    subst (λ s. IsSome (type_of s [] (the_term c.args.term.now)))
    (signature_scope b c.sig.result.now c.new-none.result c.sig.ensures.bases c.sig.ensures.consts c.new-none.ensures c.requires)
    (subst (λ types. IsSome (type_of (the_scope c.sig.result.now c.new-none.result) (reverse types) (the_term c.args.term.now))) c.new-none.ensures
    (subst IsSome (sym (ap (option_map the_type) c.in-Some.is) ∙ c.in_ok-type_of.ensures) refl))

pub normalise-requires-clause-right : goal.normalise-requires-clause-right
normalise-requires-clause-right c = c.new-normal.ensures c.args.bank.now
