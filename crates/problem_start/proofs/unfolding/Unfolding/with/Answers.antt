use Rattle.std.proofs.Common.{refl, sym, subst}
use Rattle.std.specs.Option.{IsSome}
use Rattle.stt_core.specs.View.{the_term}
use Rattle.term_bank.specs.Content.{content_scope}
use Rattle.delta_defs.specs.Definitions.{Definition}
use Rattle.delta_defs.specs.Unfolding.{in_terms_of}
use Rattle.delta_defs.proofs.OutlineLaws.{taken_may}
use Rattle.problem_start.specs.declared.unfolding.Unfolding.{Unfolding}
use Rattle.problem_start.proofs.UnfoldLaws.{has_body, unfolding_more}
use Rattle.problem_start.proofs.unfolding.Unfolding.with.Goals as goal

pub normalise_by-requires-clause-typed : goal.normalise_by-requires-clause-typed
normalise_by-requires-clause-typed c =
    let ds = c.requires.definitions.0 in
    let w = c.requires.definitions.1 in
    let d : Definition = record { place = c.in-Some.stated.place; term = the_term c.in-Some.stated.body.now } in
    let body = has_body (content_scope c.args.bank.now) ds c.args.mark (the_term c.args.formula.now) d w.typed c.requires.formula (c.in-Some.ensures.taken ds w.outline) in
    subst IsSome (sym body.term) refl

pub returns-in_ok-outline-in-Some-clause-definitions : goal.returns-in_ok-outline-in-Some-clause-definitions
returns-in_ok-outline-in-Some-clause-definitions c = λ ds w.
    let t = the_term c.args.formula.now in
    let d : Definition = record { place = c.in-Some.stated.place; term = the_term c.in-Some.stated.body.now } in
    let u : Unfolding = record { outline = c.in_ok-outline-in-Some.outline; forms = c.in_ok-forms-in-Some.forms; left = c.args.self.left } in
    let found = c.in-Some.ensures.taken ds w.outline in
    unfolding_more c.args.bank.now c.normalise_by.new.bank c.in_ok-id-in-Some.ensures.grows c.sig-declared.ensures.declared c.args.self u ds c.args.mark t w c.requires.formula d c.in_ok-id-in-Some.id found c.in_ok-id-in-Some.ensures.term
    (c.in_ok-outline-in-Some.ensures ds w.outline (taken_may ds c.args.mark t (in_terms_of ds d) found))
    c.in_ok-forms-in-Some.ensures
