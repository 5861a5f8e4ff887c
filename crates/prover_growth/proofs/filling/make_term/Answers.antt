use Rattle.std.proofs.Common.{[], subst, sym, ap, ◌∙◌}
use Rattle.std.specs.Prelude.{IfSome, Option, is_some}
use Rattle.stt_core.specs.Lambda.{Lambda}
use Rattle.stt_core.specs.View.{the_head}
use Rattle.term_bank.specs.Content.{content_scope}
use Rattle.instantiate.specs.Growing.{TakesHead, IsGrown, fits}
use Rattle.instantiate.specs.declared.growing.Grown.{Grown}
use Rattle.search_spec.specs.Partial.{first_hole}
use Rattle.prover_state.specs.Internal.Heads.{the_hole_head}
use Rattle.prover_state.specs.Internal.Names.{sketch_at}
use Rattle.prover_state.specs.Internal.Standing.{sketches_in}
use Rattle.prover_growth.proofs.BasisLaws.{grows-by-terms, basis-by-terms}
use Rattle.prover_growth.proofs.TakingLaws.{typed-here, takes-here, answer-there, is-term, term-here}
use Rattle.prover_growth.proofs.filling.make_term.Goals as goal

pub grow-requires-clause-typed : goal.grow-requires-clause-typed
grow-requires-clause-typed c =
    let t = c.args.tables.now in
    let x = sketch_at (sketches_in t) c.args.parent in
    typed-here t c.requires.right.0 c.requires.right.1 x (the_hole_head c.args.head) c.requires.grows c.requires.last c.in_ok-partial.partial c.in_ok-partial.ensures

pub grow-requires-clause-takes : goal.grow-requires-clause-takes
grow-requires-clause-takes c =
    let t = c.args.tables.now in
    let x = sketch_at (sketches_in t) c.args.parent in
    let T : Lambda → Type 0 = λ h. TakesHead (content_scope t.basis.bank) c.in_ok-partial.partial h in
    subst T (sym c.head_of.ensures) (takes-here t c.requires.right.0 c.requires.right.1 x (the_hole_head c.args.head) c.requires.grows c.requires.last c.in_ok-partial.partial c.in_ok-partial.ensures)

pub unreachable-requires : goal.unreachable-requires
unreachable-requires c =
    let t = c.args.tables.now in
    let x = sketch_at (sketches_in t) c.args.parent in
    let scope = content_scope t.basis.bank in
    let s = c.in_ok-partial.partial in
    answer-there t c.requires.right.0 c.requires.right.1 x (the_hole_head c.args.head) c.requires.grows c.requires.last s c.in_ok-partial.ensures
    (ap (λ (o : Option Grown). is_some o) (sym c.in-None.is) ∙ c.in_ok-answer.ensures.fits ∙ ap (λ (h : Lambda). fits scope h (first_hole [] s)) c.head_of.ensures)

pub term_in-requires : goal.term_in-requires
term_in-requires c =
    let t = c.args.tables.now in
    let x = sketch_at (sketches_in t) c.args.parent in
    let scope = content_scope t.basis.bank in
    let s = c.in_ok-partial.partial in
    let b = c.grow.new.bank in
    let In : Option Grown → Type 0 = λ o. IfSome o (λ g. IsGrown scope (the_head c.head_of.result) s b g) in
    let Of : Lambda → Type 0 = λ h. IsGrown scope h s b c.in-Some.grown in
    is-term t c.requires.right.0 c.requires.right.1 x (the_hole_head c.args.head) c.requires.grows c.requires.last s c.in_ok-partial.ensures b c.in-Some.grown (subst Of c.head_of.ensures (subst In c.in-Some.is c.in_ok-answer.ensures.grown))

pub returns-clause-term : goal.returns-clause-term
returns-clause-term c =
    let t = c.args.tables.now in
    let x = sketch_at (sketches_in t) c.args.parent in
    let scope = content_scope t.basis.bank in
    let s = c.in_ok-partial.partial in
    let b = c.grow.new.bank in
    let u = the_hole_head c.args.head in
    let In : Option Grown → Type 0 = λ o. IfSome o (λ g. IsGrown scope (the_head c.head_of.result) s b g) in
    let Of : Lambda → Type 0 = λ h. IsGrown scope h s b c.in-Some.grown in
    term-here t c.requires.right.0 c.requires.right.1 x u c.requires.grows c.requires.last s c.in_ok-partial.ensures b c.term_in.result
    (subst (IsGrown scope u s b) c.term_in.ensures (subst Of c.head_of.ensures (subst In c.in-Some.is c.in_ok-answer.ensures.grown)))

pub returns-clause-good : goal.returns-clause-good
returns-clause-good c = basis-by-terms c.args.tables.now.basis c.grow.new.bank c.grow.ensures.grows c.requires.right.1.basis

pub returns-clause-basis : goal.returns-clause-basis
returns-clause-basis c = grows-by-terms c.args.tables.now.basis c.grow.new.bank c.grow.ensures.grows
