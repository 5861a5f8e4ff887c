use Rattle.std.proofs.Common.{option_map}
use Rattle.stt_core.specs.SimpleType.{predicate}
use Rattle.stt_core.specs.View.{the_type}
use Rattle.stt_core.specs.ScopeView.{the_scope}
use Rattle.tableau_calculus.proofs.TypedLaws.{canonical_tells}
use Rattle.tableau_calculus.proofs.typed.is_typed_predicate.Goals as goal

pub returns : goal.returns
returns c =
    let tells = canonical_tells (the_scope c.args.sig.now c.args.types.now) c.args.nf.now (option_map the_type c.in_ok-found.found) c.in_ok-found.ensures in
    (λ h. let found = c.is_predicate.ensures.0 h in (found.0, (tells (predicate found.0)).0 found.1), λ h. c.is_predicate.ensures.1 (h.0, (tells (predicate h.0)).1 h.1))
