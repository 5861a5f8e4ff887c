use Rattle.std.proofs.Common.{refl}
use Rattle.stt_core.specs.View.{the_type}
use Rattle.term_bank.specs.Content.{content_scope}
use Rattle.term_bank.specs.Terms.{term_at}
use Rattle.tableau_rules.proofs.ClosedLaws.{canonical_closed}
use Rattle.tableau_rules.proofs.SpineLaws.{sides_here, differs_here}
use Rattle.tableau_rules.proofs.TypedLaws.{equation_typed}
use Rattle.tableau_rules.proofs.spine.differ.Goals as goal

pub ty-requires-clause-closed : goal.ty-requires-clause-closed
ty-requires-clause-closed c =
    let b = c.args.bank.now in
    canonical_closed (content_scope b) c.requires.0 (term_at b.terms c.args.s) c.requires.1.left

pub intern_app-requires-clause-typed : goal.intern_app-requires-clause-typed
intern_app-requires-clause-typed c =
    let b = c.args.bank.now in
    equation_typed b (the_type c.in_ok-ty.field-0) (the_type c.in_ok-ty.field-0) c.args.s c.args.t refl
    (sides_here b (the_type c.in_ok-ty.field-0) (the_type c.in_ok-ty.field-0) c.args.s c.args.t c.in_ok-ty.ensures refl c.requires.0 c.requires.1)

pub returns-clause-differs : goal.returns-clause-differs
returns-clause-differs c =
    differs_here c.args.bank.now (the_type c.in_ok-ty.field-0) (the_type c.in_ok-ty.field-0) c.args.s c.args.t c.in_ok-ty.ensures refl c.intern_app.new.self c.in_ok-equal.equal c.fails.result c.in_ok-equal.ensures.term c.fails.ensures
