use Rattle.std.proofs.Common.{option_map}
use Rattle.stt_core.specs.View.{the_type}
use Rattle.stt_core.specs.ScopeView.{the_scope}
use Rattle.tableau_calculus.proofs.TypedLaws.{literal_tells}
use Rattle.tableau_calculus.proofs.typed.is_typed_literal.Goals as goal

pub returns : goal.returns
returns c =
    let i = c.lit.inside in
    literal_tells (the_scope c.args.sig.now c.args.types.now) (record { positive = i.positive; atom = i.atom }) c.args.lit.now (option_map the_type c.in_ok-found.found) c.is_type.result c.in_ok-found.ensures c.lit.invariant c.is_type.ensures c.lit.view_is
