use Rattle.std.proofs.Common.{sym, subst}
use Rattle.stt_core.specs.ScopeView.{the_scope}
use Rattle.finite_models.specs.Internal.Looking.{CanCompileEach}
use Rattle.finite_models.proofs.models.checks_for.Goals as goal

pub checks_of-requires-clause-formulas : goal.checks_of-requires-clause-formulas
checks_of-requires-clause-formulas c =
    subst (λ w. CanCompileEach (the_scope c.args.sig.now w) c.args.s c.args.choosers.now c.args.formulas.now) (sym c.new-wits.ensures) c.requires.formulas
