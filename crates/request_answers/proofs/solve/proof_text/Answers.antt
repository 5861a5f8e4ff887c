use Rattle.std.proofs.Common.{subst, sym, ◌∙◌}
use Rattle.delta_defs.specs.Unfolding.{taken_names}
use Rattle.delta_defs.proofs.KeptModels.{taken_declared}
use Rattle.refute_check.proofs.AcceptanceLaws.{places_named}
use Rattle.refute_print.specs.Named.{IsNamed, ArePlaces}
use Rattle.request_answers.specs.Names.{names_in}
use Rattle.request_answers.proofs.solve.proof_text.Goals as goal

pub new-requires-clause-places : goal.new-requires-clause-places
new-requires-clause-places c =
    let p = c.args.problem.now in
    let names = c.as_slice.ensures ∙ c.in_ok-names.ensures.names in
    subst (λ q. ArePlaces (names_in q) c.as_slice.result.now) (sym c.problem.view_is) (subst (ArePlaces (names_in p)) (sym names) (places_named p (taken_names p) (taken_declared p c.requires.typed)))

pub new-requires-clause-named : goal.new-requires-clause-named
new-requires-clause-named c = subst (λ q. IsNamed (names_in q) c.args.refutation) (sym c.problem.view_is) c.requires.named
